use Rattle.std.proofs.Common.{◌&&◌, sym, ◌∙◌, ap}
use Rattle.std.specs.Prelude.{find}
use Rattle.std.specs.Option.{option_copied, option_map}
use Rattle.std.proofs.lemmas.Bool.{and_parts}
use Rattle.rbac_sets.specs.Sets.{Pair, Triple}
use Rattle.role_order.specs.Order.{geq}
use Rattle.admin_mgr.specs.Authorization.{is_reached}
use Rattle.admin_mgr.specs.UserAccess.{stands_alone}
use Rattle.explanations.specs.UserReasons.{IsUserReason}
use Rattle.explanations.proofs.Finds.{mapped_fails, mapped_passes}
use Rattle.chunked_sets.proofs.Emptiness.{by_length}
use Rattle.explanations.proofs.ReasonLaws.{above_first, none_granted, served_first, some_granted, usable_first}
use Rattle.explanations.proofs.user_access.user_reason.Goals as goal

pub returns-then-is_locked : goal.returns-then-is_locked
unfolding IsUserReason
returns-then-is_locked c = sym c.is_locked.ensures ∙ c.if-is_locked.true

pub returns-then-is_empty : goal.returns-then-is_empty
unfolding IsUserReason
returns-then-is_empty c = (
  sym c.is_locked.ensures ∙ c.if-is_locked.false,
  none_granted c.args.state.now.facts c.args.operation.now c.args.object.now c.granted_for-granted.result c.granted_for-granted.ensures (sym (by_length c.granted_for-granted.result c.is_empty.result c.is_empty.ensures) ∙ c.if-is_empty.true),
)

pub returns-in_default : goal.returns-in_default
unfolding IsUserReason
returns-in_default c = (
  sym c.is_locked.ensures ∙ c.if-is_locked.false,
  some_granted c.args.state.now.facts c.args.operation.now c.args.object.now c.granted_for-granted.result c.granted_for-granted.ensures (sym (by_length c.granted_for-granted.result c.is_empty.result c.is_empty.ensures) ∙ c.if-is_empty.false),
  sym (ap option_copied (sym c.in_default.is) ∙ c.served_role.ensures
      ∙ (λ i. option_map (λ (grant : Triple). grant.2) (find (λ (grant : Triple). is_reached (c.order-order.ensures i) (c.assigned_to_user-held.ensures i) grant.2) (c.granted_for-granted.ensures i)))
      ∙ served_first c.args.state.now.facts c.args.user.now c.args.operation.now c.args.object.now),
)

pub role_above-requires : goal.role_above-requires
role_above-requires c =
    ap (λ e. is_reached e c.assigned_to_user-held.result c.in-Some-usable_role.role.now) c.order-order.ensures
    ∙ (and_parts _ _ (mapped_passes (λ (grant : Triple). grant.2) (λ role. is_reached c.args.state.now.facts.edges c.assigned_to_user-held.result role && stands_alone c.args.state.now.facts role) c.granted_for-granted.result c.in-Some-usable_role.role.now c.in-Some-usable_role.ensures)).0

pub violated_set-requires : goal.violated_set-requires
violated_set-requires c =
    mapped_fails (λ (grant : Triple). grant.2) (is_reached c.args.state.now.facts.edges c.assigned_to_user-held.result) (stands_alone c.args.state.now.facts) c.granted_for-granted.result c.in-Some.served.now c.in-None.ensures
    (c.in-Some.ensures ∙ (λ i. option_map (λ (grant : Triple). grant.2) (find (λ (grant : Triple). is_reached (c.order-order.ensures i) c.assigned_to_user-held.result grant.2) c.granted_for-granted.result)))

pub returns-in-Some-usable_role : goal.returns-in-Some-usable_role
unfolding IsUserReason
returns-in-Some-usable_role c = (
  sym c.is_locked.ensures ∙ c.if-is_locked.false,
  sym (c.in-Some-usable_role.ensures
      ∙ (λ i. option_map (λ (grant : Triple). grant.2) (find (λ (grant : Triple). is_reached c.args.state.now.facts.edges (c.assigned_to_user-held.ensures i) grant.2 && stands_alone c.args.state.now.facts grant.2) (c.granted_for-granted.ensures i)))
      ∙ usable_first c.args.state.now.facts c.args.user.now c.args.operation.now c.args.object.now),
  sym (above_first c.args.state.now.facts c.args.user.now c.in-Some-usable_role.role.now)
      ∙ sym (λ i. option_map (λ (pair : Pair). pair.1) (find (λ (pair : Pair). geq (c.order-order.ensures i) pair.1 c.in-Some-usable_role.role.now) (c.assigned_to_user-held.ensures i)))
      ∙ c.role_above.ensures,
)

pub returns-in-None : goal.returns-in-None
unfolding IsUserReason
returns-in-None c = (
  sym c.is_locked.ensures ∙ c.if-is_locked.false,
  sym (c.in-None.ensures
      ∙ (λ i. option_map (λ (grant : Triple). grant.2) (find (λ (grant : Triple). is_reached c.args.state.now.facts.edges (c.assigned_to_user-held.ensures i) grant.2 && stands_alone c.args.state.now.facts grant.2) (c.granted_for-granted.ensures i)))
      ∙ usable_first c.args.state.now.facts c.args.user.now c.args.operation.now c.args.object.now),
  sym (c.in-Some.ensures
      ∙ (λ i. option_map (λ (grant : Triple). grant.2) (find (λ (grant : Triple). is_reached (c.order-order.ensures i) (c.assigned_to_user-held.ensures i) grant.2) (c.granted_for-granted.ensures i)))
      ∙ served_first c.args.state.now.facts c.args.user.now c.args.operation.now c.args.object.now),
  c.violated_set.ensures,
)
