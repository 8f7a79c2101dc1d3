use Rattle.std.proofs.Common.{get_or, sym, ◌∙◌, ap}
use Rattle.std.specs.Ordering.{ordering_reverse}
use Rattle.std.proofs.lemmas.List.{get_or_default}
use Rattle.rbac_sets.specs.Sets.{name_cmp}
use Rattle.rbac_sets.specs.NameOrder.{name_total}
use Rattle.review_mgr.proofs.RunsAndGrants.{meets_here, meets_past_pairs, meets_past_grants, meets_past_unseen, meets_no_more}
use Rattle.review_mgr.proofs.intersection.meets.Goals as goal

pub returns-in-Equal : goal.returns-in-Equal
returns-in-Equal c =
    sym (c.loop-at.invariant.same ∙ meets_here _ _ c.loop-at.at c.loop-at.next c.index-pairs-at.result c.index-grants-next.result c.loop-at-test.true c.if-next-grants.true (sym c.in-Equal.ensures))

pub loop-at-preserved-in-Less : goal.loop-at-preserved-in-Less
loop-at-preserved-in-Less c = record {
  within = c.first_candidate-at.ensures.bound.1;
  along = c.loop-at.invariant.along;
  same = c.loop-at.invariant.same
      ∙ meets_past_pairs _ _ c.loop-at.at c.loop-at.next c.past-behind.result c.index-grants-next-in-Less.result c.index-pairs-at.result c.requires.pairs c.requires.grants
      c.past-behind.ensures.bound.0 c.past-behind.ensures.bound.1 c.if-next-grants.true (c.past-behind.ensures.below c.index-pairs-at.result)
      ∙ meets_past_unseen _ _ _ c.past-behind.result c.loop-at.next c.first_candidate-at.result c.requires.flags
      c.first_candidate-at.ensures.passed c.first_candidate-at.ensures.bound.0 c.first_candidate-at.ensures.bound.1 c.loop-at.invariant.along;
}

pub past-next-requires-clause-below : goal.past-next-requires-clause-below
past-next-requires-clause-below c = λ d.
    let pairs = c.args.pairs.now in
    let grants = c.args.grants.now in
    let pair = get_or_default pairs c.loop-at.at c.index-pairs-at-in-Greater.result c.index-pairs-at.result c.loop-at-test.true in
    let grant = get_or_default grants c.loop-at.next d c.index-grants-next.result c.if-next-grants.true in
    (λ i. name_cmp (grant i).2 (pair i).1)
    ∙ name_total.antisymm (get_or grants c.loop-at.next c.index-grants-next.result).2 (get_or pairs c.loop-at.at c.index-pairs-at.result).1
    ∙ ap ordering_reverse (sym c.in-Greater.ensures)

pub loop-at-preserved : goal.loop-at-preserved
loop-at-preserved c = record {
  within = c.loop-at.invariant.within;
  along = c.past-next.ensures.bound.1;
  same = c.loop-at.invariant.same
      ∙ meets_past_grants _ _ c.loop-at.at c.loop-at.next c.past-next.result c.index-pairs-at-in-Greater.result c.index-grants-next.result c.requires.pairs c.requires.grants
      c.past-next.ensures.bound.0 c.past-next.ensures.bound.1 c.loop-at-test.true (c.past-next.ensures.below c.index-grants-next.result);
}

pub returns-after-loop-at : goal.returns-after-loop-at
returns-after-loop-at c = sym (c.loop-at.invariant.same ∙ meets_no_more _ _ c.loop-at.at c.loop-at.next c.loop-at-test.false)
