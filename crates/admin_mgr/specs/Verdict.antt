-- Whether a command is accepted, and if not, by which refusal it is answered. Each clause of `refusals` lists what refuses the
-- function of this name, of the standard or of this office.
use Rattle.std.specs.Prelude.{ℕ, ◌+◌, pos, Bool, nat_eq, ◌&&◌, ◌||◌, nat_le, List, [], ◌∷◌, ◌++◌, length, Option}
use Rattle.rbac_sets.specs.Sets.{Bytes, Names, name_cmp, any, all, same_name, contains, len}
use Rattle.rbac_sets.specs.SortedSet.{set_of}
use Rattle.rbac_sets.specs.declared.command.Command.{Command}
use Rattle.rbac_sets.specs.declared.command.Command.TheVariants.{AddUser, DeleteUser, AddRole, DeleteRole, AddPermObj, DeletePermObj, AddPermission, DeletePermission, GrantPermission, RevokePermission, AssignUser, DeassignUser, AddInheritance, DeleteInheritance, AddAscendant, AddDescendant, CreateSsdSet, AddSsdRoleMember, DeleteSsdRoleMember, SetSsdSetCardinality, DeleteSsdSet, CreateDsdSet, AddDsdRoleMember, DeleteDsdRoleMember, SetDsdSetCardinality, DeleteDsdSet, CreateSession, DeleteSession, AddActiveRole, DropActiveRole, ImportAssignments, LockUserAccount, UnlockUserAccount}
use Rattle.rbac_sets.specs.declared.kind.Kind.{Kind}
use Rattle.rbac_sets.specs.declared.kind.Kind.TheVariants.{User, Role, Object, Permission, Grant, Edge, SsdSet, DsdSet, Member, Session, ActiveRole, Record}
use Rattle.rbac_sets.specs.declared.refusal.Refusal.{Refusal}
use Rattle.rbac_sets.specs.declared.refusal.Refusal.TheVariants.{NoUser, UserExists, NoRole, RoleExists, NoObject, ObjectExists, NoPermission, PermissionExists, AlreadyGranted, NotGranted, NotAssigned, EdgeExists, NoEdge, Cycle, RoleInUse, ObjectInUse, SetExists, NoSet, MemberExists, NoMember, BadCardinality, NoSession, SessionExists, NotOwner, NotAuthorized, AlreadyActive, NotActive, UserLocked, Version}
use Rattle.role_order.specs.Order.{geq}
use Rattle.admin_mgr.specs.RbacState.{RbacState, Separation, members_of, has_set, cardinality_of, is_below, has_session, active_roles}
use Rattle.admin_mgr.specs.Authorization.{is_authorized}
use Rattle.admin_mgr.specs.Refusals.{refuse_if, refuse_unless, first, too_many, violates_static, violates_dynamic}
use Rattle.admin_mgr.specs.Assignment.{assignment_refusals}
use Rattle.admin_mgr.specs.After.{after}

-- ---- what has to exist, or must not exist

module _ (S : RbacState) where
  abbrev pub wants_user : Bytes → Option Refusal
  wants_user user = refuse_unless (contains S.users user) NoUser

  abbrev pub wants_role : Bytes → Option Refusal
  wants_role role = refuse_unless (contains S.roles role) NoRole

  abbrev pub wants_roles : Names → Option Refusal
  wants_roles roles = refuse_unless (all (contains S.roles) roles) NoRole

  abbrev pub wants_object : Bytes → Option Refusal
  wants_object object = refuse_unless (contains S.objects object) NoObject

  abbrev pub wants_permission : Bytes → Bytes → Option Refusal
  wants_permission object operation = refuse_unless (contains S.permissions (object, operation)) NoPermission

  abbrev pub wants_session : Bytes → Option Refusal
  wants_session session = refuse_unless (has_session S session) NoSession

  abbrev pub wants_owner : Bytes → Bytes → Option Refusal
  wants_owner session user = refuse_unless (contains S.sessions (session, user)) NotOwner

  abbrev pub wants_new_role : Bytes → Option Refusal
  wants_new_role role = refuse_if (contains S.roles role) RoleExists

  -- no user can be locked in version 1
  abbrev pub wants_locks : Option Refusal
  wants_locks = refuse_if (nat_eq S.version 1) (Version (pos 1))

  -- the role is an immediate ascendant or descendant, or a member of a separation of duty set
  abbrev pub is_in_use : Bytes → Bool
  is_in_use role = any (λ edge. same_name edge.0 role || same_name edge.1 role) S.edges
      || any (λ member. same_name member.1 role) S.ssd.members
      || any (λ member. same_name member.1 role) S.dsd.members

-- ---- separation of duty sets of one kind, without the check that the state after the command violates none

-- the cardinality has to be at least 2 and at most the number of the roles
abbrev pub bad_cardinality : ℕ → Names → Option Refusal
bad_cardinality cardinality roles = refuse_unless (nat_le 2 cardinality && nat_le cardinality (len roles)) BadCardinality

module _ (S : RbacState) (separation : Separation) where
  -- CreateSsdSet, CreateDsdSet
  abbrev pub create_set_refusals : Kind → Bytes → Names → ℕ → List (Option Refusal)
  create_set_refusals kind name roles cardinality =
      wants_roles S roles
      ∷ refuse_if (has_set separation name) SetExists
      ∷ bad_cardinality cardinality roles
      ∷ too_many S kind (len separation.cardinalities + 1)
      ∷ too_many S Member (len roles)
      ∷ []

  -- AddSsdRoleMember, AddDsdRoleMember
  abbrev pub add_member_refusals : Bytes → Bytes → List (Option Refusal)
  add_member_refusals name role =
      refuse_unless (has_set separation name) NoSet
      ∷ wants_role S role
      ∷ refuse_if (contains separation.members (name, role)) MemberExists
      ∷ too_many S Member (len (members_of separation name) + 1)
      ∷ []

  -- DeleteSsdRoleMember, DeleteDsdRoleMember: the cardinality stays, and must not exceed the number of roles that are left
  abbrev pub delete_member_refusals : Bytes → Bytes → List (Option Refusal)
  delete_member_refusals name role =
      refuse_unless (has_set separation name) NoSet
      ∷ wants_role S role
      ∷ refuse_unless (contains separation.members (name, role)) NoMember
      ∷ refuse_unless (is_below (cardinality_of separation name) (len (members_of separation name))) BadCardinality
      ∷ []

-- SetSsdSetCardinality, SetDsdSetCardinality
abbrev pub set_cardinality_refusals : Separation → Bytes → ℕ → List (Option Refusal)
set_cardinality_refusals separation name cardinality =
    refuse_unless (has_set separation name) NoSet
    ∷ bad_cardinality cardinality (members_of separation name)
    ∷ []

-- ---- the other commands that are checked against separation of duty, without this check

module _ (S : RbacState) where
  abbrev pub add_inheritance_refusals : Bytes → Bytes → List (Option Refusal)
  add_inheritance_refusals asc desc =
      wants_role S asc
      ∷ wants_role S desc
      ∷ refuse_if (contains S.edges (asc, desc)) EdgeExists
      ∷ refuse_if (geq S.edges desc asc) Cycle
      ∷ too_many S Edge (len S.edges + 1)
      ∷ []

  abbrev pub create_session_refusals : Bytes → Names → Bytes → List (Option Refusal)
  create_session_refusals user roles session =
      wants_user S user
      ∷ wants_roles S roles
      ∷ refuse_if (has_session S session) SessionExists
      ∷ refuse_unless (all (is_authorized S user) roles) NotAuthorized
      ∷ refuse_if (contains S.locked user) UserLocked
      ∷ too_many S Session (len S.sessions + 1)
      ∷ too_many S ActiveRole (len roles)
      ∷ []

  abbrev pub add_active_role_refusals : Bytes → Bytes → Bytes → List (Option Refusal)
  add_active_role_refusals user session role =
      wants_user S user
      ∷ wants_session S session
      ∷ wants_role S role
      ∷ wants_owner S session user
      ∷ refuse_if (contains S.active (session, role)) AlreadyActive
      ∷ refuse_unless (is_authorized S user role) NotAuthorized
      ∷ too_many S ActiveRole (len (active_roles S session) + 1)
      ∷ []

-- ---- the refusals of each command, in the order in which they are judged

unfoldable pub refusals : RbacState → Command → List (Option Refusal)
refusals S (AddUser user) = refuse_if (contains S.users user) UserExists ∷ too_many S User (len S.users + 1) ∷ []
refusals S (DeleteUser user) = wants_user S user ∷ []
refusals S (AddRole role) = wants_new_role S role ∷ too_many S Role (len S.roles + 1) ∷ []
refusals S (DeleteRole role) = wants_role S role ∷ refuse_if (is_in_use S role) RoleInUse ∷ []
refusals S (AddPermObj object) = refuse_if (contains S.objects object) ObjectExists ∷ too_many S Object (len S.objects + 1) ∷ []
refusals S (DeletePermObj object) = wants_object S object ∷ refuse_if (any (λ permission. same_name permission.0 object) S.permissions) ObjectInUse ∷ []
refusals S (AddPermission object operation) =
    wants_object S object
    ∷ refuse_if (contains S.permissions (object, operation)) PermissionExists
    ∷ too_many S Permission (len S.permissions + 1)
    ∷ []
refusals S (DeletePermission object operation) = wants_object S object ∷ wants_permission S object operation ∷ []
refusals S (GrantPermission object operation role) =
    wants_object S object
    ∷ wants_permission S object operation
    ∷ wants_role S role
    ∷ refuse_if (contains S.grants (object, operation, role)) AlreadyGranted
    ∷ too_many S Grant (len S.grants + 1)
    ∷ []
refusals S (RevokePermission object operation role) =
    wants_object S object
    ∷ wants_permission S object operation
    ∷ wants_role S role
    ∷ refuse_unless (contains S.grants (object, operation, role)) NotGranted
    ∷ []
refusals S (AssignUser user role) = assignment_refusals S (user, role)
refusals S (DeassignUser user role) = wants_user S user ∷ wants_role S role ∷ refuse_unless (contains S.assignments (user, role)) NotAssigned ∷ []
refusals S (AddInheritance asc desc) =
    add_inheritance_refusals S asc desc ++ violates_static (after S (AddInheritance asc desc)) ∷ violates_dynamic (after S (AddInheritance asc desc)) ∷ []
refusals S (DeleteInheritance asc desc) = wants_role S asc ∷ wants_role S desc ∷ refuse_unless (contains S.edges (asc, desc)) NoEdge ∷ []
refusals S (AddAscendant asc desc) = wants_role S desc ∷ wants_new_role S asc ∷ too_many S Role (len S.roles + 1) ∷ too_many S Edge (len S.edges + 1) ∷ []
refusals S (AddDescendant asc desc) = wants_role S asc ∷ wants_new_role S desc ∷ too_many S Role (len S.roles + 1) ∷ too_many S Edge (len S.edges + 1) ∷ []
refusals S (CreateSsdSet name roles cardinality) =
    create_set_refusals S S.ssd SsdSet name (set_of name_cmp roles) cardinality ++ violates_static (after S (CreateSsdSet name roles cardinality)) ∷ []
refusals S (AddSsdRoleMember name role) = add_member_refusals S S.ssd name role ++ violates_static (after S (AddSsdRoleMember name role)) ∷ []
refusals S (DeleteSsdRoleMember name role) = delete_member_refusals S S.ssd name role
refusals S (SetSsdSetCardinality name cardinality) =
    set_cardinality_refusals S.ssd name cardinality ++ violates_static (after S (SetSsdSetCardinality name cardinality)) ∷ []
refusals S (DeleteSsdSet name) = refuse_unless (has_set S.ssd name) NoSet ∷ []
refusals S (CreateDsdSet name roles cardinality) =
    create_set_refusals S S.dsd DsdSet name (set_of name_cmp roles) cardinality ++ violates_dynamic (after S (CreateDsdSet name roles cardinality)) ∷ []
refusals S (AddDsdRoleMember name role) = add_member_refusals S S.dsd name role ++ violates_dynamic (after S (AddDsdRoleMember name role)) ∷ []
refusals S (DeleteDsdRoleMember name role) = delete_member_refusals S S.dsd name role
refusals S (SetDsdSetCardinality name cardinality) =
    set_cardinality_refusals S.dsd name cardinality ++ violates_dynamic (after S (SetDsdSetCardinality name cardinality)) ∷ []
refusals S (DeleteDsdSet name) = refuse_unless (has_set S.dsd name) NoSet ∷ []
refusals S (CreateSession user roles session) =
    create_session_refusals S user (set_of name_cmp roles) session ++ violates_dynamic (after S (CreateSession user roles session)) ∷ []
refusals S (DeleteSession user session) = wants_user S user ∷ wants_session S session ∷ wants_owner S session user ∷ []
refusals S (AddActiveRole user session role) =
    add_active_role_refusals S user session role ++ violates_dynamic (after S (AddActiveRole user session role)) ∷ []
refusals S (DropActiveRole user session role) =
    wants_user S user
    ∷ wants_session S session
    ∷ wants_role S role
    ∷ wants_owner S session user
    ∷ refuse_unless (contains S.active (session, role)) NotActive
    ∷ []
refusals S (ImportAssignments pairs) = too_many S Record (length pairs.items) ∷ []
refusals S (LockUserAccount user) = wants_locks S ∷ wants_user S user ∷ []
refusals S (UnlockUserAccount user) = wants_locks S ∷ wants_user S user ∷ []

-- the first refusal that applies; if none does, the command is accepted
unfoldable pub verdict : RbacState → Command → Option Refusal
verdict S command = first (refusals S command)
