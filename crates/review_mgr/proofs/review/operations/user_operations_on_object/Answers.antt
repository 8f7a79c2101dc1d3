use Rattle.std.proofs.Common.{◌≡◌, List, ap, subst, ◌∙◌}
use Rattle.std.specs.Prelude.{IfOk}
use Rattle.rbac_sets.specs.Sets.{Bytes, Pairs, Triple, name_cmp, same_name, members, retain, image}
use Rattle.admin_mgr.specs.private.HolderRoles.{run_of, is_reached}
use Rattle.rbac_sets.specs.Sets.{seconds}
use Rattle.review_mgr.specs.Review.{user_operations_on_object}
use Rattle.review_mgr.proofs.Reached.{seconds-permissions, user_permissions-reached}
use Rattle.review_mgr.proofs.review.operations.user_operations_on_object.Goals as goal

pub returns-clause-value : goal.returns-clause-value
unfolding user_operations_on_object
returns-clause-value c =
    let held = c.assigned_to.ensures in
    let same = (λ i. members (image {Q = name_cmp} (λ (grant : Triple). grant.1) (retain (retain (c.grants.ensures i) (λ (grant : Triple). same_name grant.0 c.args.object.now)) (λ (grant : Triple). is_reached (c.order.ensures i) (held i) grant.2)))) ∙ ap members (seconds-permissions c.args.state.now.facts.grants (λ (grant : Triple). is_reached c.args.state.now.facts.edges (run_of c.args.state.now.facts.assignments c.args.user.now) grant.2) c.args.object.now
    ∙ ap (λ (pairs : Pairs). seconds pairs c.args.object.now) (user_permissions-reached c.args.state.now.facts c.args.user.now)) in
    subst (λ (all : List Bytes). IfOk c.operations_reached.result (λ names. names.items ≡ all)) same c.operations_reached.ensures.ok
