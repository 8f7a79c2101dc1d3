use Rattle.std.proofs.Common.{◌≡◌, List, ap, subst, ◌∙◌}
use Rattle.std.specs.Prelude.{IfOk}
use Rattle.rbac_sets.specs.Sets.{Pair, Triple, pair_cmp, members, retain, image}
use Rattle.admin_mgr.specs.private.HolderRoles.{is_reached, run_of}
use Rattle.review_mgr.proofs.ByRole.{permissions-turned}
use Rattle.review_mgr.proofs.Reached.{user_permissions-reached}
use Rattle.review_mgr.proofs.review.permissions.user_permissions.Goals as goal

pub returns-clause-value : goal.returns-clause-value
returns-clause-value c =
    let held = c.assigned_to.ensures in
    let same = (λ i. members (image {Q = pair_cmp} (λ (grant : Triple). (grant.1, grant.2)) (retain (c.grants_by_role.ensures i) (λ (grant : Triple). is_reached (c.order.ensures i) (held i) grant.0))))
    ∙ ap members (permissions-turned c.args.state.now.facts.grants (is_reached c.args.state.now.facts.edges (run_of c.args.state.now.facts.assignments c.args.user.now)) ∙ user_permissions-reached c.args.state.now.facts c.args.user.now) in
    subst (λ (all : List Pair). IfOk c.permissions_reached.result (λ permissions. permissions.items ≡ all)) same c.permissions_reached.ensures.ok
