-- Why a user may do an operation on an object in some session, or why not.
use Rattle.std.specs.Prelude.{◌≡◌, Bool, true, false, not, ◌&&◌, nat_lt, Option, Some, None, slice_get}
use Rattle.std.specs.Option.{option_map}
use Rattle.std.specs.FinSet.{FinSet}
use Rattle.std.specs.declared.cmp.Ordering.{Ordering}
use Rattle.rbac_sets.specs.Sets.{Bytes, Names, Cardinality, Cardinalities, contains, count, members, retain}
use Rattle.role_order.specs.Order.{geq}
use Rattle.admin_mgr.specs.Authorization.{is_authorized}
use Rattle.admin_mgr.specs.RbacState.{RbacState, members_of}
use Rattle.admin_mgr.specs.UserAccess.{stands_alone}
use Rattle.review_mgr.specs.Review.{assigned_roles, permission_roles}
use Rattle.explanations.specs.declared.user_access.UserReason.{UserReason}
use Rattle.explanations.specs.declared.user_access.UserReason.TheVariants as reasons

-- a reason, regardless of its place in memory
pub data UserReasonContent : Type 0 where
  LockedContent : UserReasonContent
  NotGrantedContent : UserReasonContent
  NotAuthorizedContent : UserReasonContent
  -- a role, and a dynamic set
  SeparatedContent : Bytes → Bytes → UserReasonContent
  -- an assigned role, and a granted one
  AllowedContent : Bytes → Bytes → UserReasonContent

-- the content of a reason
abbrev pub reason_content : UserReason → UserReasonContent
reason_content reasons.Locked = LockedContent
reason_content reasons.NotGranted = NotGrantedContent
reason_content reasons.NotAuthorized = NotAuthorizedContent
reason_content (reasons.Separated role set) = SeparatedContent role.now set.now
reason_content (reasons.Allowed assigned granted) = AllowedContent assigned.now granted.now

-- whether the reason is one for access
abbrev pub allows : UserReasonContent → Bool
allows (AllowedContent assigned granted) = true
allows _ = false

-- the first member in byte order, if there is one
abbrev pub least : {K : Type 0} {R : K → K → Ordering} → FinSet R → Option K
least s = slice_get (members s) 0

-- the dynamic sets that a role violates alone: the role and its juniors are no fewer of its roles than its cardinality
unfoldable pub violated_alone : RbacState → Bytes → Cardinalities
violated_alone S role = retain S.dsd.cardinalities (λ (entry : Cardinality). not (nat_lt (count (geq S.edges role) (members_of S.dsd entry.0)) entry.1))

-- the roles assigned to the user that are the role or a senior of it
unfoldable pub roles_above : RbacState → Bytes → Bytes → Names
roles_above S user role = retain (assigned_roles S user) (λ above. geq S.edges above role)

module _ (S : RbacState) (user operation object : Bytes) where
  -- the roles to which the permission is granted and for which the user is authorized
  unfoldable pub served_roles : Names
  served_roles = retain (permission_roles S object operation) (is_authorized S user)

  -- those of them that violate no dynamic set alone
  unfoldable pub usable_roles : Names
  usable_roles = retain (permission_roles S object operation) (λ role. is_authorized S user role && stands_alone S role)

  -- the reason is this one, and none that stands before it in this order
  unfoldable pub IsUserReason : UserReasonContent → Type 0
  IsUserReason LockedContent = contains S.locked user ≡ true
  IsUserReason NotGrantedContent = (contains S.locked user ≡ false) × (least (permission_roles S object operation) ≡ None)
  IsUserReason NotAuthorizedContent =
      (contains S.locked user ≡ false) × ¬ (least (permission_roles S object operation) ≡ None) × (least served_roles ≡ None)
  IsUserReason (SeparatedContent role set) =
      (contains S.locked user ≡ false) × (least usable_roles ≡ None) × (least served_roles ≡ Some role)
      × (option_map (λ (entry : Cardinality). entry.0) (least (violated_alone S role)) ≡ Some set)
  IsUserReason (AllowedContent assigned granted) =
      (contains S.locked user ≡ false) × (least usable_roles ≡ Some granted) × (least (roles_above S user granted) ≡ Some assigned)
