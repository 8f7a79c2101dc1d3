use Rattle.std.proofs.Common.{[], ◌∷◌, ◌++◌, sym, ap, ◌∙◌}
use Rattle.chunked_sets.specs.Entries.{entries_left}
use Rattle.admin_mgr.specs.private.HolderRoles.{is_reached}
use Rattle.review_mgr.proofs.Below.{reaches_start, reaches_put}
use Rattle.review_mgr.proofs.Gathering.{split_next, split_whole}
use Rattle.review_mgr.proofs.gather.roles_reached.Goals as goal

pub loop-pair-init : goal.loop-pair-init
loop-pair-init c = ([], sym (ap entries_left c.into_iter-pair-iterator.ensures.into_iter_gives ∙ c.iter-pair-items.ensures), reaches_start c.args.order.now.edges _ cc)

pub put_below-requires : goal.put_below-requires
put_below-requires c = c.loop-pair.invariant.2.sorted

pub loop-pair-preserved : goal.loop-pair-preserved
loop-pair-preserved c =
    let done = c.loop-pair.invariant.0 in
    let pair = c.in-Some.pair.now in (
      done ++ pair ∷ [],
      split_next c.args.held.now done _ _ pair c.in-Some.ensures.steps c.loop-pair.invariant.1,
      reaches_put c.args.order.now.edges _ _ done pair c.loop-pair.invariant.2 c.in_ok-put_below.ensures.sorted c.in_ok-put_below.ensures.put,
    )

pub returns-clause-sorted : goal.returns-clause-sorted
returns-clause-sorted c = c.loop-pair.invariant.2.sorted

pub returns-clause-reached : goal.returns-clause-reached
returns-clause-reached c = λ role.
    c.loop-pair.invariant.2.all role
    ∙ ap (λ ys. is_reached c.args.order.now.edges ys role) (sym (split_whole c.args.held.now c.loop-pair.invariant.0 _ c.in-None.ensures.steps.0 c.loop-pair.invariant.1))
