use Rattle.std.proofs.Common.{[], ◌∷◌, ◌++◌, refl, sym, ap, ◌∙◌}
use Rattle.rbac_sets.specs.Sets.{pair_cmp}
use Rattle.rbac_sets.specs.SortedSet.{set_of}
use Rattle.chunked_sets.specs.Entries.{entries_left}
use Rattle.review_mgr.proofs.Below.{joins_start, joins_put, joined-below}
use Rattle.review_mgr.proofs.Gathering.{split_next, split_whole}
use Rattle.review_mgr.proofs.gather.put_below.Goals as goal

pub loop-pair-init : goal.loop-pair-init
loop-pair-init c = ([], refl, joins_start c.put.new.entries.items c.in_ok-put.ensures.sorted)

pub put-requires-in-loop-pair : goal.put-requires-in-loop-pair
put-requires-in-loop-pair c = c.loop-pair.invariant.2.sorted

pub loop-pair-preserved : goal.loop-pair-preserved
loop-pair-preserved c =
    let done = c.loop-pair.invariant.0 in
    let pair = c.in-Some.pair.now in (
      done ++ pair ∷ [],
      split_next (entries_left c.into_iter-pair-iterator.result) done _ _ pair c.in-Some.ensures.steps c.loop-pair.invariant.1,
      joins_put c.put.new.entries.items _ _ done pair c.loop-pair.invariant.2 c.in_ok-put-2.ensures.sorted c.in_ok-put-2.ensures.put,
    )

pub returns-clause-sorted : goal.returns-clause-sorted
returns-clause-sorted c = c.loop-pair.invariant.2.sorted

pub returns-clause-put : goal.returns-clause-put
returns-clause-put c =
    joined-below c.args.order.now.edges (set_of pair_cmp c.pairs.result.now) c.pairs.ensures c.args.role.now c.args.names.now.items c.put.new.entries.items _ c.loop-pair.invariant.0 c.in_ok-put.ensures.put
    (sym (split_whole (entries_left c.into_iter-pair-iterator.result) c.loop-pair.invariant.0 _ c.in-None.ensures.steps.0 c.loop-pair.invariant.1)
    ∙ ap entries_left c.into_iter-pair-iterator.ensures.into_iter_gives ∙ c.iter-pair-items.ensures ∙ c.entries_with_first-juniors.ensures) c.loop-pair.invariant.2
