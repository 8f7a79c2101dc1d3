-- The roles of which the reason of a session speaks, as the first that pass a test; and that one reason applies.
use Rattle.std.proofs.Common.{◌≡◌, sym, ◌∙◌, ap}
use Rattle.std.specs.Prelude.{Option, Some, None, is_some, find}
use Rattle.std.specs.Option.{option_map}
use Rattle.rbac_sets.specs.NameOrder.{name_total, name_exact}
use Rattle.rbac_sets.specs.Sets.{Bytes, Pair, Triple, members}
use Rattle.rbac_sets.proofs.Lists.{is_some_found}
use Rattle.role_order.specs.Order.{geq}
use Rattle.role_order.proofs.Runs.{members_seconds}
use Rattle.admin_mgr.specs.Authorization.{has_access, is_reached, is_session_role}
use Rattle.admin_mgr.specs.Good.{IsGood}
use Rattle.admin_mgr.specs.RbacState.{RbacState, active_roles}
use Rattle.admin_mgr.specs.private.HolderRoles.{run_of}
use Rattle.admin_mgr.proofs.Verdicts.AuthorizationLaws.{session_reached}
use Rattle.review_mgr.proofs.AccessByRuns.{access_reached}
use Rattle.review_mgr.specs.Review.{permission_roles}
use Rattle.explanations.specs.SessionReasons.{IsSessionReason, SessionReasonContent, UngrantedContent, InactiveContent, ActiveContent, allows_session, active_above, granted_session_roles}
use Rattle.explanations.specs.UserReasons.{least}
use Rattle.explanations.proofs.Finds.{find_map, find_nothing}
use Rattle.explanations.proofs.Least.{least-retain}
use Rattle.explanations.proofs.ReasonLaws.{first_role, granted_in, or_nothing, there}

-- the first role of the session among those of the grants
pub session_first : (S : RbacState) (session operation object : Bytes) →
    option_map (λ (grant : Triple). grant.2) (find (λ (grant : Triple). is_reached S.edges (run_of S.active session) grant.2) (granted_in S operation object))
    ≡ least (granted_session_roles S session operation object)
unfolding granted_session_roles
session_first S session operation object =
    first_role S operation object (is_reached S.edges (run_of S.active session))
    ∙ (λ i. find (λ role. sym (session_reached S session role) i) (members (permission_roles S object operation)))
    ∙ sym (least-retain name_total name_exact (permission_roles S object operation) (is_session_role S session))

-- the first role above another one among those activated in the session
pub active_first : (S : RbacState) (session role : Bytes) →
    option_map (λ (pair : Pair). pair.1) (find (λ (pair : Pair). geq S.edges pair.1 role) (run_of S.active session)) ≡ least (active_above S session role)
unfolding active_above
active_first S session role =
    find_map (λ (pair : Pair). pair.1) (λ above. geq S.edges above role) (run_of S.active session)
    ∙ ap (find (λ above. geq S.edges above role)) (sym (members_seconds S.active session))
    ∙ sym (least-retain name_total name_exact (active_roles S session) (λ above. geq S.edges above role))

-- the reason, by the first role of the session that is granted the permission, and the first role that is
determined : (above : Bytes → Option Bytes) → Option Bytes → Option Bytes → SessionReasonContent
determined above (Some role) granted = ActiveContent (or_nothing (above role)) role
determined above None (Some role) = InactiveContent
determined above None None = UngrantedContent

module _ (S : RbacState) (session operation object : Bytes) where
  above : Bytes → Option Bytes
  above role = least (active_above S session role)

  reason : SessionReasonContent
  reason = determined above (least (granted_session_roles S session operation object)) (least (permission_roles S object operation))

  none_active : least (permission_roles S object operation) ≡ None → least (granted_session_roles S session operation object) ≡ None
  unfolding granted_session_roles
  none_active none =
      least-retain name_total name_exact (permission_roles S object operation) (is_session_role S session)
      ∙ find_nothing (is_session_role S session) (members (permission_roles S object operation)) none

  determines : (r : SessionReasonContent) → IsSessionReason S session operation object r → reason ≡ r
  unfolding IsSessionReason reason determined above or_nothing
  determines UngrantedContent h = rw (none_active h, h)
  determines InactiveContent h = let role = there (least (permission_roles S object operation)) h.0 in rw (h.1, role.1)
  determines (ActiveContent active granted) h = rw (h.0, h.1)

  -- no other reason applies
  pub one_session_reason : (a b : SessionReasonContent) → IsSessionReason S session operation object a → IsSessionReason S session operation object b → b ≡ a
  one_session_reason a b is other = sym (determines b other) ∙ determines a is

  -- the reason is one for access exactly if the session has it
  decided : IsGood S → is_some (least (granted_session_roles S session operation object)) ≡ has_access S session operation object
  decided good =
      ap is_some (sym (session_first S session operation object))
      ∙ is_some_found (λ (grant : Triple). grant.2) (λ (grant : Triple). is_reached S.edges (run_of S.active session) grant.2) (granted_in S operation object)
      ∙ access_reached S good session operation object

  allows_is : (r : SessionReasonContent) → IsSessionReason S session operation object r → allows_session r ≡ is_some (least (granted_session_roles S session operation object))
  unfolding IsSessionReason
  allows_is UngrantedContent h = rw (none_active h)
  allows_is InactiveContent h = rw h.1
  allows_is (ActiveContent active granted) h = rw h.0

  pub session_reason_decides : IsGood S → (r : SessionReasonContent) → IsSessionReason S session operation object r → allows_session r ≡ has_access S session operation object
  session_reason_decides good r is = allows_is r is ∙ decided good
