use Rattle.std.proofs.Common.{subst, sym, ◌∙◌}
use Rattle.std.specs.List.{list_any}
use Rattle.std.specs.List.Sorted.{IsStrictlySortedBy}
use Rattle.rbac_sets.specs.Sets.{Triple}
use Rattle.role_order.specs.private.Checked.{second_cmp}
use Rattle.role_order.proofs.Runs.{run-rises}
use Rattle.admin_mgr.specs.private.HolderRoles.{is_reached}
use Rattle.review_mgr.specs.private.Intersection.{third_cmp}
use Rattle.review_mgr.proofs.AccessByRuns.{access_reached}
use Rattle.review_mgr.proofs.RunsAndGrants.{grants-rise}
use Rattle.review_mgr.proofs.access.has_access.Goals as goal

pub is_granted-requires-clause-held : goal.is_granted-requires-clause-held
is_granted-requires-clause-held c = subst (IsStrictlySortedBy second_cmp) (sym c.requires.activated) (run-rises c.args.state.now.facts.active c.args.session.now)

pub is_granted-requires-clause-grants : goal.is_granted-requires-clause-grants
is_granted-requires-clause-grants c = subst (IsStrictlySortedBy third_cmp) (sym c.requires.granted) (grants-rise c.args.state.now.facts.grants c.args.object.now c.args.operation.now)

pub returns : goal.returns
returns c =
    c.is_granted.ensures
    ∙ (λ i. list_any (λ (grant : Triple). is_reached (c.order.ensures i) (c.requires.activated i) grant.2) (c.requires.granted i))
    ∙ access_reached c.args.state.now.facts c.recall_good.ensures c.args.session.now c.args.operation.now c.args.object.now
