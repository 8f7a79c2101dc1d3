use Rattle.std.proofs.Common.{sym, ◌∙◌}
use Rattle.std.specs.Prelude.{find}
use Rattle.std.specs.Option.{option_map}
use Rattle.rbac_sets.specs.Sets.{Pair, Triple}
use Rattle.role_order.specs.Order.{geq}
use Rattle.admin_mgr.specs.Authorization.{is_reached}
use Rattle.explanations.specs.SessionReasons.{IsSessionReason}
use Rattle.explanations.proofs.Finds.{mapped_passes}
use Rattle.chunked_sets.proofs.Emptiness.{by_length}
use Rattle.explanations.proofs.ReasonLaws.{none_granted, some_granted}
use Rattle.explanations.proofs.SessionReasonLaws.{active_first, session_first}
use Rattle.explanations.proofs.session_access.session_reason.Goals as goal

pub returns-then-is_empty : goal.returns-then-is_empty
unfolding IsSessionReason
returns-then-is_empty c =
    none_granted c.args.state.now.facts c.args.operation.now c.args.object.now c.granted_for-granted.result c.granted_for-granted.ensures (sym (by_length c.granted_for-granted.result c.is_empty.result c.is_empty.ensures) ∙ c.if-is_empty.true)

pub role_above-requires : goal.role_above-requires
role_above-requires c =
    mapped_passes (λ (grant : Triple). grant.2) (is_reached c.order-order.result.now.edges c.activated_in-held.result) c.granted_for-granted.result c.in-Some.role.now c.in-Some.ensures

pub returns-in-Some : goal.returns-in-Some
unfolding IsSessionReason
returns-in-Some c = (
  sym (c.in-Some.ensures
      ∙ (λ i. option_map (λ (grant : Triple). grant.2) (find (λ (grant : Triple). is_reached (c.order-order.ensures i) (c.activated_in-held.ensures i) grant.2) (c.granted_for-granted.ensures i)))
      ∙ session_first c.args.state.now.facts c.args.session.now c.args.operation.now c.args.object.now),
  sym (active_first c.args.state.now.facts c.args.session.now c.in-Some.role.now)
      ∙ sym (λ i. option_map (λ (pair : Pair). pair.1) (find (λ (pair : Pair). geq (c.order-order.ensures i) pair.1 c.in-Some.role.now) (c.activated_in-held.ensures i)))
      ∙ c.role_above.ensures,
)

pub returns-in-None : goal.returns-in-None
unfolding IsSessionReason
returns-in-None c = (
  some_granted c.args.state.now.facts c.args.operation.now c.args.object.now c.granted_for-granted.result c.granted_for-granted.ensures (sym (by_length c.granted_for-granted.result c.is_empty.result c.is_empty.ensures) ∙ c.if-is_empty.false),
  sym (c.in-None.ensures
      ∙ (λ i. option_map (λ (grant : Triple). grant.2) (find (λ (grant : Triple). is_reached (c.order-order.ensures i) (c.activated_in-held.ensures i) grant.2) (c.granted_for-granted.ensures i)))
      ∙ session_first c.args.state.now.facts c.args.session.now c.args.operation.now c.args.object.now),
)
