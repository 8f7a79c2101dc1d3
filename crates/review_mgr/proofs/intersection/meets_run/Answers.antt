use Rattle.std.proofs.Common.{length, length-append, sym, subst, ap, ◌∙◌, arith}
use Rattle.std.specs.List.Sorted.{IsStrictlySortedBy}
use Rattle.rbac_sets.specs.Sets.{same_name}
use Rattle.chunked_sets.specs.Entries.{entries_left}
use Rattle.chunked_sets.proofs.ChunkLists.{sorted_left, sorted_right}
use Rattle.role_order.specs.private.Checked.{second_cmp}
use Rattle.review_mgr.specs.private.Intersection.{meets}
use Rattle.review_mgr.proofs.ReachedByParts.{none_pass, passed_by_part, passed_by_rest}
use Rattle.review_mgr.proofs.intersection.meets_run.Goals as goal

pub loop-part-init : goal.loop-part-init
loop-part-init c = record {
  sorted = subst (IsStrictlySortedBy second_cmp) (sym c.iter-entries.ensures) c.requires.pairs;
  same = ap (λ pairs. meets pairs c.args.grants.now) (sym c.iter-entries.ensures);
}

pub meets-requires-clause-pairs : goal.meets-requires-clause-pairs
meets-requires-clause-pairs c =
    sorted_left second_cmp c.in-Some.part.now (entries_left c.next_part.new.self) (subst (IsStrictlySortedBy second_cmp) c.in-Some.ensures.some.0 c.loop-part.invariant.sorted)

pub returns-then-meets : goal.returns-then-meets
returns-then-meets c =
    sym (c.loop-part.invariant.same
    ∙ passed_by_part (λ role name. same_name name role) (entries_left c.loop-part.entries) c.in-Some.part.now (entries_left c.next_part.new.self) c.args.grants.now c.in-Some.ensures.some.0
    (sym c.meets.ensures ∙ c.if-meets.true))

pub loop-part-preserved : goal.loop-part-preserved
loop-part-preserved c = record {
  sorted = sorted_right second_cmp c.in-Some.part.now (entries_left c.next_part.new.self) (subst (IsStrictlySortedBy second_cmp) c.in-Some.ensures.some.0 c.loop-part.invariant.sorted);
  same = c.loop-part.invariant.same
      ∙ passed_by_rest (λ role name. same_name name role) (entries_left c.loop-part.entries) c.in-Some.part.now (entries_left c.next_part.new.self) c.args.grants.now c.in-Some.ensures.some.0
      (sym c.meets.ensures ∙ c.if-meets.false);
}

pub loop-part-smaller : goal.loop-part-smaller
loop-part-smaller c =
    omega (arith, c.in-Some.ensures.some.1, ap length c.in-Some.ensures.some.0 ∙ length-append c.in-Some.part.now (entries_left c.next_part.new.self))

pub returns : goal.returns
returns c = sym (c.loop-part.invariant.same ∙ none_pass (λ role name. same_name name role) (entries_left c.loop-part.entries) c.args.grants.now (rw c.in_default.is at c.next_part.ensures.none))
