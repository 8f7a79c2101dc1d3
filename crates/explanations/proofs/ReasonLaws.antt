-- The roles of which a reason speaks, as the first that pass a test; and that one reason applies.
use Rattle.std.proofs.Common.{◌≡◌, Bool, true, false, not, ◌&&◌, List, [], length, map, refl, sym, ◌∙◌, ap}
use Rattle.std.specs.Prelude.{Option, Some, None, is_some, find, nat_lt, count_by, slice_get, ◌==◌}
use Rattle.std.specs.Option.{option_map}
use Rattle.std.specs.List.{filter}
use Rattle.rbac_sets.specs.NameOrder.{name_total, name_exact, cardinality_total, cardinality_exact}
use Rattle.rbac_sets.specs.Sets.{Bytes, Pair, Triple, Cardinality, contains, members}
use Rattle.rbac_sets.proofs.Lists.{is_some_found}
use Rattle.role_order.specs.Order.{geq}
use Rattle.role_order.proofs.Runs.{members_seconds, count_seconds}
use Rattle.admin_mgr.specs.Authorization.{is_authorized, is_reached}
use Rattle.admin_mgr.specs.Good.{IsGood}
use Rattle.admin_mgr.specs.RbacState.{RbacState}
use Rattle.admin_mgr.specs.UserAccess.{could_have_access, stands_alone}
use Rattle.admin_mgr.specs.private.HolderRoles.{run_of}
use Rattle.admin_mgr.proofs.Verdicts.AuthorizationLaws.{authorized_reached}
use Rattle.admin_mgr.proofs.Verdicts.UserAccessLaws.{alone_by_runs}
use Rattle.review_mgr.proofs.AccessByRuns.{user_access_reached}
use Rattle.review_mgr.specs.Review.{assigned_roles, is_grant_of, permission_roles}
use Rattle.explanations.specs.UserReasons.{IsUserReason, UserReasonContent, LockedContent, NotGrantedContent, NotAuthorizedContent, SeparatedContent, AllowedContent, allows, least, roles_above, served_roles, usable_roles, violated_alone}
use Rattle.explanations.proofs.Finds.{find_map, find_neither, find_nothing, first_nothing, first_something, some_fails}
use Rattle.explanations.proofs.Least.{least-retain, members-granted}

-- the grants of a permission
abbrev pub granted_in : RbacState → Bytes → Bytes → List Triple
granted_in S operation object = filter (is_grant_of object operation) (members S.grants)

pub members-roles : (S : RbacState) (operation object : Bytes) → members (permission_roles S object operation) ≡ map (λ (grant : Triple). grant.2) (granted_in S operation object)
unfolding permission_roles
members-roles S operation object = members-granted S.grants object operation

-- there is a first role if there is a grant
pub none_granted : (S : RbacState) (operation object : Bytes) (granted : List Triple) → granted ≡ granted_in S operation object → (length granted == 0) ≡ true → least (permission_roles S object operation) ≡ None
none_granted S operation object granted is h =
    ap (λ names. slice_get names 0) (members-roles S operation object)
    ∙ first_nothing (λ (grant : Triple). grant.2) (granted_in S operation object) (ap (λ (xs : List Triple). length xs == 0) (sym is) ∙ h)

pub some_granted : (S : RbacState) (operation object : Bytes) (granted : List Triple) → granted ≡ granted_in S operation object → (length granted == 0) ≡ false → ¬ (least (permission_roles S object operation) ≡ None)
some_granted S operation object granted is h none =
    first_something (λ (grant : Triple). grant.2) (granted_in S operation object) (ap (λ (xs : List Triple). length xs == 0) (sym is) ∙ h)
    (ap (λ names. slice_get names 0) (sym (members-roles S operation object)) ∙ none)

-- the first role of the grants that passes a test
pub first_role : (S : RbacState) (operation object : Bytes) (t : Bytes → Bool) →
    option_map (λ (grant : Triple). grant.2) (find (λ (grant : Triple). t grant.2) (granted_in S operation object)) ≡ find t (members (permission_roles S object operation))
first_role S operation object t = find_map (λ (grant : Triple). grant.2) t (granted_in S operation object) ∙ ap (find t) (sym (members-roles S operation object))

module _ (S : RbacState) (user operation object : Bytes) where
  pub served_first : option_map (λ (grant : Triple). grant.2) (find (λ (grant : Triple). is_reached S.edges (run_of S.assignments user) grant.2) (granted_in S operation object))
      ≡ least (served_roles S user operation object)
  unfolding served_roles
  served_first =
      first_role S operation object (is_reached S.edges (run_of S.assignments user))
      ∙ (λ i. find (λ role. sym (authorized_reached S user role) i) (members (permission_roles S object operation)))
      ∙ sym (least-retain name_total name_exact (permission_roles S object operation) (is_authorized S user))

  pub usable_first : option_map (λ (grant : Triple). grant.2) (find (λ (grant : Triple). is_reached S.edges (run_of S.assignments user) grant.2 && stands_alone S grant.2) (granted_in S operation object))
      ≡ least (usable_roles S user operation object)
  unfolding usable_roles
  usable_first =
      first_role S operation object (λ role. is_reached S.edges (run_of S.assignments user) role && stands_alone S role)
      ∙ (λ i. find (λ role. sym (authorized_reached S user role) i && stands_alone S role) (members (permission_roles S object operation)))
      ∙ sym (least-retain name_total name_exact (permission_roles S object operation) (λ role. is_authorized S user role && stands_alone S role))

-- the first role above another one in the assignments of the user
pub above_first : (S : RbacState) (user role : Bytes) → option_map (λ (pair : Pair). pair.1) (find (λ (pair : Pair). geq S.edges pair.1 role) (run_of S.assignments user)) ≡ least (roles_above S user role)
unfolding roles_above assigned_roles
above_first S user role =
    find_map (λ (pair : Pair). pair.1) (λ above. geq S.edges above role) (run_of S.assignments user)
    ∙ ap (find (λ above. geq S.edges above role)) (sym (members_seconds S.assignments user))
    ∙ sym (least-retain name_total name_exact (assigned_roles S user) (λ above. geq S.edges above role))

-- the first set that a role violates alone
pub violated_first : (S : RbacState) (role : Bytes) →
    find (λ (entry : Cardinality). not (nat_lt (count_by (λ (member : Pair). geq S.edges role member.1) (run_of S.dsd.members entry.0)) entry.1)) (members S.dsd.cardinalities) ≡ least (violated_alone S role)
unfolding violated_alone
violated_first S role =
    (λ i. find (λ (entry : Cardinality). not (nat_lt (sym (count_seconds (geq S.edges role) S.dsd.members entry.0) i) entry.1)) (members S.dsd.cardinalities))
    ∙ sym (least-retain cardinality_total cardinality_exact S.dsd.cardinalities _)

-- there is one if the role doesn't stand alone
pub some_violated : (S : RbacState) (role : Bytes) → stands_alone S role ≡ false → is_some (least (violated_alone S role)) ≡ true
some_violated S role h =
    ap is_some (sym (violated_first S role))
    ∙ some_fails (λ (entry : Cardinality). nat_lt (count_by (λ (member : Pair). geq S.edges role member.1) (run_of S.dsd.members entry.0)) entry.1) (members S.dsd.cardinalities)
    (alone_by_runs S role ∙ h)

-- ---- one reason applies

unfoldable pub or_nothing : Option Bytes → Bytes
or_nothing None = []
or_nothing (Some name) = name

-- the reason, by whether the user is locked, and by the first usable, served and granted role
determined : (above set : Bytes → Option Bytes) → Bool → Option Bytes → Option Bytes → Option Bytes → UserReasonContent
determined above set true usable served granted = LockedContent
determined above set false (Some role) served granted = AllowedContent (or_nothing (above role)) role
determined above set false None (Some role) granted = SeparatedContent role (or_nothing (set role))
determined above set false None None (Some role) = NotAuthorizedContent
determined above set false None None None = NotGrantedContent

pub there : (o : Option Bytes) → ¬ (o ≡ None) → (name : Bytes) × (o ≡ Some name)
there None some = absurd (some refl)
there (Some name) some = (name, refl)

module _ (S : RbacState) (user operation object : Bytes) where
  above : Bytes → Option Bytes
  above role = least (roles_above S user role)

  set : Bytes → Option Bytes
  set role = option_map (λ (entry : Cardinality). entry.0) (least (violated_alone S role))

  reason : UserReasonContent
  reason = determined above set (contains S.locked user) (least (usable_roles S user operation object)) (least (served_roles S user operation object)) (least (permission_roles S object operation))

  none_usable : least (served_roles S user operation object) ≡ None → least (usable_roles S user operation object) ≡ None
  unfolding served_roles usable_roles
  none_usable none =
      least-retain name_total name_exact (permission_roles S object operation) _
      ∙ find_neither (is_authorized S user) (stands_alone S) (members (permission_roles S object operation))
      (sym (least-retain name_total name_exact (permission_roles S object operation) (is_authorized S user)) ∙ none)

  none_served : least (permission_roles S object operation) ≡ None → least (served_roles S user operation object) ≡ None
  unfolding served_roles
  none_served none =
      least-retain name_total name_exact (permission_roles S object operation) (is_authorized S user)
      ∙ find_nothing (is_authorized S user) (members (permission_roles S object operation)) none

  determines : (r : UserReasonContent) → IsUserReason S user operation object r → reason ≡ r
  unfolding IsUserReason reason determined above set or_nothing
  determines LockedContent h = rw h
  determines NotGrantedContent h = rw (h.0, none_usable (none_served h.1), none_served h.1, h.1)
  determines NotAuthorizedContent h = let role = there (least (permission_roles S object operation)) h.1 in rw (h.0, none_usable h.2, h.2, role.1)
  determines (SeparatedContent role name) h = rw (h.0, h.1, h.2, h.3)
  determines (AllowedContent assigned granted) h = rw (h.0, h.1, h.2)

  -- no other reason applies
  pub one_reason : (a b : UserReasonContent) → IsUserReason S user operation object a → IsUserReason S user operation object b → b ≡ a
  one_reason a b is other = sym (determines b other) ∙ determines a is

  -- the reason is one for access exactly if the user could have it
  decided : IsGood S → (not (contains S.locked user) && is_some (least (usable_roles S user operation object))) ≡ could_have_access S user operation object
  decided good =
      ap (λ b. not (contains S.locked user) && b) (ap is_some (sym (usable_first S user operation object))
      ∙ is_some_found (λ (grant : Triple). grant.2) (λ (grant : Triple). is_reached S.edges (run_of S.assignments user) grant.2 && stands_alone S grant.2) (granted_in S operation object))
      ∙ user_access_reached S good user operation object

  allows_is : (r : UserReasonContent) → IsUserReason S user operation object r → allows r ≡ (not (contains S.locked user) && is_some (least (usable_roles S user operation object)))
  unfolding IsUserReason
  allows_is LockedContent h = rw h
  allows_is NotGrantedContent h = rw (h.0, none_usable (none_served h.1))
  allows_is NotAuthorizedContent h = rw (h.0, none_usable h.2)
  allows_is (SeparatedContent role name) h = rw (h.0, h.1)
  allows_is (AllowedContent assigned granted) h = rw (h.0, h.1)

  pub reason_decides : IsGood S → (r : UserReasonContent) → IsUserReason S user operation object r → allows r ≡ could_have_access S user operation object
  reason_decides good r is = allows_is r is ∙ decided good
