use Rattle.std.proofs.Common.{◌≡◌, List, ap, subst, ◌∙◌}
use Rattle.std.specs.Prelude.{IfOk}
use Rattle.rbac_sets.specs.Sets.{Bytes, Triple, name_cmp, same_name, members, retain, image}
use Rattle.role_order.specs.Order.{geq}
use Rattle.admin_mgr.specs.Authorization.{authorized_permissions}
use Rattle.review_mgr.specs.Review.{role_operations_on_object}
use Rattle.review_mgr.proofs.Reached.{seconds-permissions}
use Rattle.review_mgr.proofs.review.operations.role_operations_on_object.Goals as goal

pub returns-clause-value : goal.returns-clause-value
unfolding role_operations_on_object authorized_permissions
returns-clause-value c =
    let same = (λ i. members (image {Q = name_cmp} (λ (grant : Triple). grant.1) (retain (retain (c.grants.ensures i) (λ (grant : Triple). same_name grant.0 c.args.object.now)) (λ (grant : Triple). geq (c.order.ensures i) c.args.role.now grant.2)))) ∙ ap members (seconds-permissions c.args.state.now.facts.grants (λ (grant : Triple). geq c.args.state.now.facts.edges c.args.role.now grant.2) c.args.object.now) in
    subst (λ (all : List Bytes). IfOk c.operations_below.result (λ names. names.items ≡ all)) same c.operations_below.ensures.ok
