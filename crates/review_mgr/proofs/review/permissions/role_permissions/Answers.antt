use Rattle.std.proofs.Common.{◌≡◌, List, ap, subst, ◌∙◌}
use Rattle.std.specs.Prelude.{IfOk}
use Rattle.rbac_sets.specs.Sets.{Pair, Triple, pair_cmp, members, retain, image}
use Rattle.role_order.specs.Order.{geq}
use Rattle.admin_mgr.specs.Authorization.{authorized_permissions}
use Rattle.review_mgr.proofs.ByRole.{permissions-turned}
use Rattle.review_mgr.proofs.review.permissions.role_permissions.Goals as goal

pub returns-clause-value : goal.returns-clause-value
unfolding authorized_permissions
returns-clause-value c =
    subst (λ (all : List Pair). IfOk c.permissions_below.result (λ permissions. permissions.items ≡ all))
    ((λ i. members (image {Q = pair_cmp} (λ (grant : Triple). (grant.1, grant.2)) (retain (c.grants_by_role.ensures i) (λ (grant : Triple). geq (c.order.ensures i) c.args.role.now grant.0))))
    ∙ ap members (permissions-turned c.args.state.now.facts.grants (geq c.args.state.now.facts.edges c.args.role.now)))
    c.permissions_below.ensures.ok
