use Rattle.std.proofs.Common.{length, length-append, sym, subst, ap, ◌∙◌, arith}
use Rattle.std.specs.List.Sorted.{IsStrictlySortedBy}
use Rattle.chunked_sets.specs.Entries.{entries_left}
use Rattle.chunked_sets.proofs.ChunkLists.{sorted_left, sorted_right}
use Rattle.review_mgr.specs.private.Intersection.{third_cmp}
use Rattle.review_mgr.proofs.ReachedByParts.{reached_in_part, reached_in_rest, reaches_one}
use Rattle.review_mgr.proofs.intersection.is_granted.Goals as goal

pub loop-part-init : goal.loop-part-init
loop-part-init c = record {
  sorted = subst (IsStrictlySortedBy third_cmp) (sym c.iter-entries.ensures) c.requires.grants;
  same = ap (reaches_one c.args.order.now.edges c.args.held.now) (sym c.iter-entries.ensures);
}

pub is_granted_to_parts-requires-clause-grants : goal.is_granted_to_parts-requires-clause-grants
is_granted_to_parts-requires-clause-grants c =
    sorted_left third_cmp c.in-Some.part.now (entries_left c.next_part.new.self) (subst (IsStrictlySortedBy third_cmp) c.in-Some.ensures.some.0 c.loop-part.invariant.sorted)

pub returns-then-is_granted_to_parts : goal.returns-then-is_granted_to_parts
returns-then-is_granted_to_parts c =
    sym (c.loop-part.invariant.same
    ∙ reached_in_part c.args.order.now.edges c.args.held.now (entries_left c.loop-part.entries) c.in-Some.part.now (entries_left c.next_part.new.self) c.in-Some.ensures.some.0
    (sym c.is_granted_to_parts.ensures ∙ c.if-is_granted_to_parts.true))

pub loop-part-preserved : goal.loop-part-preserved
loop-part-preserved c = record {
  sorted = sorted_right third_cmp c.in-Some.part.now (entries_left c.next_part.new.self) (subst (IsStrictlySortedBy third_cmp) c.in-Some.ensures.some.0 c.loop-part.invariant.sorted);
  same = c.loop-part.invariant.same
      ∙ reached_in_rest c.args.order.now.edges c.args.held.now (entries_left c.loop-part.entries) c.in-Some.part.now (entries_left c.next_part.new.self) c.in-Some.ensures.some.0
      (sym c.is_granted_to_parts.ensures ∙ c.if-is_granted_to_parts.false);
}

pub loop-part-smaller : goal.loop-part-smaller
loop-part-smaller c =
    omega (arith, c.in-Some.ensures.some.1, ap length c.in-Some.ensures.some.0 ∙ length-append c.in-Some.part.now (entries_left c.next_part.new.self))

pub returns : goal.returns
returns c = sym (c.loop-part.invariant.same ∙ ap (reaches_one c.args.order.now.edges c.args.held.now) (rw c.in_default.is at c.next_part.ensures.none))
