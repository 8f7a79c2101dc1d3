-- What holds of every state of an office: it is well formed, its role hierarchy has no cycle, no separation of duty set is
-- violated, and no limit is exceeded.
use Rattle.std.specs.Prelude.{◌≡◌, ℕ, false, ◌⊎◌, ◌<◌, ◌≤◌, IsTrue}
use Rattle.rbac_sets.specs.Sets.{Bytes, Names, count, contains, len, empty}
use Rattle.rbac_sets.specs.declared.kind.Kind.TheVariants.{User, Role, Object, Permission, Grant, Assignment, Edge, SsdSet, DsdSet, Member, Session, ActiveRole}
use Rattle.role_order.specs.Order.{IsAcyclic}
use Rattle.admin_mgr.specs.RbacState.{RbacState, Separation, members_of, has_set, active_roles}
use Rattle.admin_mgr.specs.Authorization.{is_authorized, is_session_role}
use Rattle.rbac_sets.specs.Kind.{limit_of}

-- each member of a set is a role, and each set has one cardinality, at least 2 and at most the number of its members
pub record IsSeparation (roles : Names) (separation : Separation) : Type 0 where
  pub members : (name role : Bytes) → IsTrue (contains separation.members (name, role)) → IsTrue (has_set separation name) × IsTrue (contains roles role)
  pub cardinality : (name : Bytes) (n : ℕ) → IsTrue (contains separation.cardinalities (name, n)) → (2 ≤ n) × (n ≤ len (members_of separation name))
  pub one_cardinality : (name : Bytes) (n other : ℕ) → IsTrue (contains separation.cardinalities (name, n)) → IsTrue (contains separation.cardinalities (name, other)) → n ≡ other

-- each user, role, object, permission, session and set that a relation refers to exists, and a session has one user
pub record IsWellFormed (S : RbacState) : Type 0 where
  pub permissions : (object operation : Bytes) → IsTrue (contains S.permissions (object, operation)) → IsTrue (contains S.objects object)
  pub assignments : (user role : Bytes) → IsTrue (contains S.assignments (user, role)) → IsTrue (contains S.users user) × IsTrue (contains S.roles role)
  pub grants : (object operation role : Bytes) → IsTrue (contains S.grants (object, operation, role)) → IsTrue (contains S.permissions (object, operation)) × IsTrue (contains S.roles role)
  pub edges : (asc desc : Bytes) → IsTrue (contains S.edges (asc, desc)) → IsTrue (contains S.roles asc) × IsTrue (contains S.roles desc)
  pub sessions : (session user : Bytes) → IsTrue (contains S.sessions (session, user)) → IsTrue (contains S.users user)
  pub one_owner : (session user other : Bytes) → IsTrue (contains S.sessions (session, user)) → IsTrue (contains S.sessions (session, other)) → user ≡ other
  pub active : (session role : Bytes) → IsTrue (contains S.active (session, role)) → IsTrue (contains S.roles role)
  pub owned : (session role : Bytes) → IsTrue (contains S.active (session, role)) → (user : Bytes) × IsTrue (contains S.sessions (session, user))
  pub locked : (user : Bytes) → IsTrue (contains S.locked user) → IsTrue (contains S.users user)
  pub ssd : IsSeparation S.roles S.ssd
  pub dsd : IsSeparation S.roles S.dsd

-- static separation of duty: no name is authorized for as many roles of a set as the set's cardinality, or more
abbrev pub IsStaticallySeparated : RbacState → Type 0
IsStaticallySeparated S = (name user : Bytes) (n : ℕ) → IsTrue (contains S.ssd.cardinalities (name, n)) →
    count (is_authorized S user) (members_of S.ssd name) < n

-- dynamic separation of duty: no session has as many roles of a set as the set's cardinality, or more
abbrev pub IsDynamicallySeparated : RbacState → Type 0
IsDynamicallySeparated S = (name session user : Bytes) (n : ℕ) → IsTrue (contains S.dsd.cardinalities (name, n)) → IsTrue (contains S.sessions (session, user)) →
    count (is_session_role S session) (members_of S.dsd name) < n

-- no limit of the state's version is exceeded
pub record IsWithinLimits (S : RbacState) : Type 0 where
  pub users : len S.users ≤ limit_of User S.version
  pub roles : len S.roles ≤ limit_of Role S.version
  pub objects : len S.objects ≤ limit_of Object S.version
  pub permissions : len S.permissions ≤ limit_of Permission S.version
  pub grants : len S.grants ≤ limit_of Grant S.version
  pub assignments : len S.assignments ≤ limit_of Assignment S.version
  pub edges : len S.edges ≤ limit_of Edge S.version
  pub ssd_sets : len S.ssd.cardinalities ≤ limit_of SsdSet S.version
  pub dsd_sets : len S.dsd.cardinalities ≤ limit_of DsdSet S.version
  pub ssd_members : (name : Bytes) → len (members_of S.ssd name) ≤ limit_of Member S.version
  pub dsd_members : (name : Bytes) → len (members_of S.dsd name) ≤ limit_of Member S.version
  pub sessions : len S.sessions ≤ limit_of Session S.version
  pub active_roles : (session : Bytes) → len (active_roles S session) ≤ limit_of ActiveRole S.version

-- A good state. Besides the above: a session's user is authorized for each role that was activated in it, and is not locked; the
-- version is 1 or 2, and version 1 has no locked user.
pub record IsGood (S : RbacState) : Type 0 where
  pub well_formed : IsWellFormed S
  pub acyclic : IsAcyclic S.edges
  pub static_separation : IsStaticallySeparated S
  pub dynamic_separation : IsDynamicallySeparated S
  pub authorized : (session user role : Bytes) → IsTrue (contains S.sessions (session, user)) → IsTrue (contains S.active (session, role)) → IsTrue (is_authorized S user role)
  pub unlocked : (session user : Bytes) → IsTrue (contains S.sessions (session, user)) → contains S.locked user ≡ false
  pub limits : IsWithinLimits S
  pub version : (S.version ≡ 1) ⊎ (S.version ≡ 2)
  pub no_locks : S.version ≡ 1 → S.locked ≡ empty
