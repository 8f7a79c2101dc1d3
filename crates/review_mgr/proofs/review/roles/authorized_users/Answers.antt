use Rattle.std.proofs.Common.{◌≡◌, List, ap, subst, ◌∙◌}
use Rattle.std.specs.Prelude.{IfOk}
use Rattle.rbac_sets.specs.Sets.{Bytes, Pair, name_cmp, members, retain, image}
use Rattle.role_order.specs.Order.{geq}
use Rattle.admin_mgr.specs.Authorization.{authorized_users}
use Rattle.review_mgr.proofs.ByRole.{users-turned}
use Rattle.review_mgr.proofs.review.roles.authorized_users.Goals as goal

pub returns-clause-value : goal.returns-clause-value
unfolding authorized_users
returns-clause-value c =
    subst (λ (all : List Bytes). IfOk c.users_above.result (λ names. names.items ≡ all))
    ((λ i. members (image {Q = name_cmp} (λ (pair : Pair). pair.1) (retain (c.assignments_by_role.ensures i) (λ (pair : Pair). geq (c.order.ensures i) pair.0 c.args.role.now))))
    ∙ ap members (users-turned c.args.state.now.facts.assignments (λ role. geq c.args.state.now.facts.edges role c.args.role.now)))
    c.users_above.ensures.ok
