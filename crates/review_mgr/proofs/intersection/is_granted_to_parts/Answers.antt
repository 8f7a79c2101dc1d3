use Rattle.std.proofs.Common.{length, length-append, sym, subst, ap, ◌∙◌, arith}
use Rattle.std.specs.List.Sorted.{IsStrictlySortedBy}
use Rattle.chunked_sets.specs.Entries.{entries_left}
use Rattle.chunked_sets.proofs.ChunkLists.{sorted_left, sorted_right}
use Rattle.role_order.specs.Order.{geq}
use Rattle.role_order.specs.private.Checked.{second_cmp}
use Rattle.review_mgr.proofs.ReachedByParts.{none_pass, passed_by_part, passed_by_rest, passes_one}
use Rattle.review_mgr.proofs.intersection.is_granted_to_parts.Goals as goal

pub loop-part-init : goal.loop-part-init
loop-part-init c = record {
  sorted = subst (IsStrictlySortedBy second_cmp) (sym c.iter-entries.ensures) c.requires.held;
  same = ap (λ held. passes_one (geq c.args.order.now.edges) held c.args.grants.now) (sym c.iter-entries.ensures);
}

pub is_part_granted-requires-clause-held : goal.is_part_granted-requires-clause-held
is_part_granted-requires-clause-held c =
    sorted_left second_cmp c.in-Some.part.now (entries_left c.next_part.new.self) (subst (IsStrictlySortedBy second_cmp) c.in-Some.ensures.some.0 c.loop-part.invariant.sorted)

pub returns-then-is_part_granted : goal.returns-then-is_part_granted
returns-then-is_part_granted c =
    let edges = c.args.order.now.edges in
    sym (c.loop-part.invariant.same
    ∙ passed_by_part (geq edges) (entries_left c.loop-part.entries) c.in-Some.part.now (entries_left c.next_part.new.self) c.args.grants.now c.in-Some.ensures.some.0
    (sym c.is_part_granted.ensures ∙ c.if-is_part_granted.true))

pub loop-part-preserved : goal.loop-part-preserved
loop-part-preserved c =
    let edges = c.args.order.now.edges in
    record {
      sorted = sorted_right second_cmp c.in-Some.part.now (entries_left c.next_part.new.self) (subst (IsStrictlySortedBy second_cmp) c.in-Some.ensures.some.0 c.loop-part.invariant.sorted);
      same = c.loop-part.invariant.same
          ∙ passed_by_rest (geq edges) (entries_left c.loop-part.entries) c.in-Some.part.now (entries_left c.next_part.new.self) c.args.grants.now c.in-Some.ensures.some.0
          (sym c.is_part_granted.ensures ∙ c.if-is_part_granted.false);
    }

pub loop-part-smaller : goal.loop-part-smaller
loop-part-smaller c =
    omega (arith, c.in-Some.ensures.some.1, ap length c.in-Some.ensures.some.0 ∙ length-append c.in-Some.part.now (entries_left c.next_part.new.self))

pub returns : goal.returns
returns c = sym (c.loop-part.invariant.same ∙ none_pass (geq c.args.order.now.edges) (entries_left c.loop-part.entries) c.args.grants.now (rw c.in_default.is at c.next_part.ensures.none))
