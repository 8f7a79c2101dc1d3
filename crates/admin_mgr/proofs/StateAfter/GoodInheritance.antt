-- An accepted immediate inheritance leads from a good state to a good one, and no session ends.
use Rattle.std.proofs.Common.{◌≡◌, ◌+◌, ◌≤◌, false, sym, ◌∙◌, ap, subst, inl, inr}
use Rattle.std.specs.Prelude.{IsTrue, None}
use Rattle.std.proofs.lemmas.Bool.{true≢false}
use Rattle.rbac_sets.specs.Sets.{Bytes, Pair, contains, insert, len}
use Rattle.rbac_sets.specs.NameOrder.{pair_total, pair_exact}
use Rattle.rbac_sets.specs.Kind.{limit_of}
use Rattle.rbac_sets.specs.declared.command.Command.TheVariants.{AddInheritance}
use Rattle.rbac_sets.specs.declared.kind.Kind.TheVariants.{Edge}
use Rattle.rbac_sets.specs.declared.refusal.Refusal.TheVariants.{NoRole, EdgeExists, Cycle, StaticSeparation, DynamicSeparation}
use Rattle.rbac_sets.proofs.SetLaws.{contains-insert-Decides}
use Rattle.role_order.specs.Order.{Geq, geq}
use Rattle.role_order.proofs.Closing.{added_edge}
use Rattle.role_order.proofs.Deciding.{geq-Decides}
use Rattle.admin_mgr.specs.RbacState.{RbacState}
use Rattle.admin_mgr.specs.Authorization.{authorized_users, is_authorized}
use Rattle.admin_mgr.specs.Separation.{is_kept_statically, static_violation, dynamic_violation}
use Rattle.admin_mgr.specs.Refusals.{violates_dynamic}
use Rattle.admin_mgr.specs.Assignment.{end_sessions}
use Rattle.admin_mgr.specs.After.{changed, after}
use Rattle.admin_mgr.specs.Verdict.{verdict, refusals}
use Rattle.admin_mgr.specs.Good.{IsGood, IsWellFormed}
use Rattle.admin_mgr.proofs.Verdicts.InheritLaws.{with_edge, still_authorized, goes_on_below}
use Rattle.admin_mgr.proofs.Verdicts.SeparationLaws.{unmapped, static_test, dynamic_test}
use Rattle.admin_mgr.proofs.StateAfter.SessionLaws.{none_ends_where}
use Rattle.admin_mgr.proofs.StateAfter.LimitLaws.{too_many-None, one_more_within}
use Rattle.admin_mgr.proofs.Verdicts.VerdictLaws.{AllPassed, passed, refuse_if-None, refuse_unless-None}

-- the conditions that the accepted command meets
module _ (S : RbacState) (asc desc : Bytes) (accepted : verdict S (AddInheritance asc desc) ≡ None) where
  -- no refusal applies
  all_passed : AllPassed (refusals S (AddInheritance asc desc))
  unfolding verdict
  all_passed = passed (refusals S (AddInheritance asc desc)) accepted

  -- both roles are there
  pub inheriting_roles : IsTrue (contains S.roles asc) × IsTrue (contains S.roles desc)
  unfolding refusals
  inheriting_roles = (refuse_unless-None (contains S.roles asc) NoRole all_passed.0, refuse_unless-None (contains S.roles desc) NoRole all_passed.1.0)

  -- the edge is new
  pub no_edge : contains S.edges (asc, desc) ≡ false
  unfolding refusals
  no_edge = refuse_if-None (contains S.edges (asc, desc)) EdgeExists all_passed.1.1.0

  -- the descendant doesn't dominate the ascendant
  pub no_way_back : geq S.edges desc asc ≡ false
  unfolding refusals
  no_way_back = refuse_if-None (geq S.edges desc asc) Cycle all_passed.1.1.1.0

  -- the edges stay within their limit
  room_for_edge : len S.edges + 1 ≤ limit_of Edge S.version
  unfolding refusals
  room_for_edge = too_many-None S Edge (len S.edges + 1) all_passed.1.1.1.1.0

  -- no static set is violated with it
  none_violated : static_violation (with_edge S asc desc) ≡ None
  unfolding refusals after changed end_sessions is_kept_statically authorized_users with_edge
  none_violated = (unmapped StaticSeparation (static_violation (with_edge S asc desc))).0 all_passed.1.1.1.1.1.0

  -- no dynamic set is named
  no_violation : violates_dynamic (after S (AddInheritance asc desc)) ≡ None
  unfolding refusals
  no_violation = all_passed.1.1.1.1.1.1.0

module _ (S : RbacState) (good : IsGood S) (asc desc : Bytes) (accepted : verdict S (AddInheritance asc desc) ≡ None) where
  -- there is one more edge, and no session ends
  pub after_add_inheritance : after S (AddInheritance asc desc) ≡ changed S (AddInheritance asc desc)
  unfolding after changed with_edge
  after_add_inheritance =
      none_ends_where (with_edge S asc desc) (goes_on_below S good asc desc (no_way_back S asc desc accepted)) good.well_formed.owned

  -- what the relations refer to is there
  well_formed_with : IsWellFormed (with_edge S asc desc)
  unfolding with_edge
  well_formed_with =
      let formed = good.well_formed in
      let roles = inheriting_roles S asc desc accepted in
      let ends : (r q : Bytes) → IsTrue (contains (insert S.edges (asc, desc)) (r, q)) → IsTrue (contains S.roles r) × IsTrue (contains S.roles q) =
      λ r q h. elim ((contains-insert-Decides pair_total pair_exact S.edges (asc, desc) (r, q)).0 h) [
        | inl same ↦ (ap (λ (p : Pair). contains S.roles p.0) same ∙ roles.0, ap (λ (p : Pair). contains S.roles p.1) same ∙ roles.1)
        | inr old ↦ formed.edges r q old
      ] in
      assumption

  -- no dynamic set is violated with it
  none_violated_dynamically : dynamic_violation (with_edge S asc desc) ≡ None
  unfolding changed with_edge
  none_violated_dynamically = (unmapped DynamicSeparation (dynamic_violation (with_edge S asc desc))).0
      (sym (ap violates_dynamic after_add_inheritance) ∙ no_violation S asc desc accepted)

  -- the state with the immediate inheritance is good
  good_with_edge : IsGood (with_edge S asc desc)
  unfolding with_edge
  good_with_edge =
      let formed = well_formed_with in
      let back = no_way_back S asc desc accepted in
      let no_cycle : Geq S.edges desc asc → ⊥ = λ leads. true≢false (sym ((geq-Decides S.edges desc asc).1 leads) ∙ back) in
      let acyclic = (added_edge S.edges asc desc good.acyclic no_cycle).1 in
      let static = (static_test (with_edge S asc desc) formed).0 (none_violated S asc desc accepted) in
      let dynamic = (dynamic_test (with_edge S asc desc)).0 none_violated_dynamically in
      let authorized : (session user role : Bytes) → IsTrue (contains S.sessions (session, user)) → IsTrue (contains S.active (session, role)) → IsTrue (is_authorized (with_edge S asc desc) user role) =
      λ session user role owner active. still_authorized S good asc desc back user role (good.authorized session user role owner active) in
      let room = one_more_within pair_total S.edges (asc, desc) _ (room_for_edge S asc desc accepted) in
      assumption

  -- and the state is good
  pub good_after_add_inheritance : IsGood (after S (AddInheritance asc desc))
  unfolding changed with_edge
  good_after_add_inheritance = subst IsGood (sym after_add_inheritance) good_with_edge
