-- Why a session may do an operation on an object, or why not.
use Rattle.std.specs.Prelude.{◌≡◌, Bool, true, false, Some, None}
use Rattle.rbac_sets.specs.Sets.{Bytes, Names, retain}
use Rattle.role_order.specs.Order.{geq}
use Rattle.admin_mgr.specs.Authorization.{is_session_role}
use Rattle.admin_mgr.specs.RbacState.{RbacState, active_roles}
use Rattle.review_mgr.specs.Review.{permission_roles}
use Rattle.explanations.specs.UserReasons.{least}
use Rattle.explanations.specs.declared.session_access.SessionReason.{SessionReason}
use Rattle.explanations.specs.declared.session_access.SessionReason.TheVariants as reasons

-- a reason, regardless of its place in memory
pub data SessionReasonContent : Type 0 where
  UngrantedContent : SessionReasonContent
  InactiveContent : SessionReasonContent
  -- an activated role, and a granted one
  ActiveContent : Bytes → Bytes → SessionReasonContent

-- the content of a reason
abbrev pub session_reason_content : SessionReason → SessionReasonContent
session_reason_content reasons.NotGranted = UngrantedContent
session_reason_content reasons.NotActive = InactiveContent
session_reason_content (reasons.Allowed active granted) = ActiveContent active.now granted.now

-- whether the reason is one for access
abbrev pub allows_session : SessionReasonContent → Bool
allows_session (ActiveContent active granted) = true
allows_session _ = false

-- the roles activated in the session that are the role or a senior of it
unfoldable pub active_above : RbacState → Bytes → Bytes → Names
active_above S session role = retain (active_roles S session) (λ above. geq S.edges above role)

module _ (S : RbacState) (session operation object : Bytes) where
  -- the roles of the session to which the permission is granted
  unfoldable pub granted_session_roles : Names
  granted_session_roles = retain (permission_roles S object operation) (is_session_role S session)

  -- the reason is this one, and none that stands before it in this order
  unfoldable pub IsSessionReason : SessionReasonContent → Type 0
  IsSessionReason UngrantedContent = least (permission_roles S object operation) ≡ None
  IsSessionReason InactiveContent = ¬ (least (permission_roles S object operation) ≡ None) × (least granted_session_roles ≡ None)
  IsSessionReason (ActiveContent active granted) =
      (least granted_session_roles ≡ Some granted) × (least (active_above S session granted) ≡ Some active)
