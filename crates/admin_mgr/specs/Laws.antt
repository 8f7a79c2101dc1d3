-- What holds of the sets and relations, however they are stored.
use Rattle.std.specs.Prelude.{◌≡◌, ◌+◌, ◌≤◌, ◌↔◌, ◌⊎◌, IsTrue, false, ℕ, List, [], ◌∷◌, None}
use Rattle.std.specs.declared.alloc.Global.{Global}
use Rattle.std.specs.declared.vec.Vec.{Vec}
use Rattle.rbac_sets.specs.Refusal.{code_of}
use Rattle.rbac_sets.specs.declared.command.Command.{Command}
use Rattle.rbac_sets.specs.declared.command.Command.TheVariants.{CreateSession, ImportAssignments}
use Rattle.rbac_sets.specs.declared.kind.Kind.TheVariants.{Assignment, Session}
use Rattle.rbac_sets.specs.declared.refusal.Refusal.TheVariants.{StaticSeparation, TooMany}
use Rattle.rbac_sets.specs.Kind.{limit_of}
use Rattle.rbac_sets.specs.Sets.{Bytes, Names, Pair, contains, len}
use Rattle.rbac_sets.specs.SortedSet.{Stored}
use Rattle.rbac_sets.specs.declared.row.Row.{Row}
use Rattle.admin_mgr.specs.RbacState.{RbacState, has_session, members_of}
use Rattle.admin_mgr.specs.Rows.{has_row}
use Rattle.admin_mgr.specs.Authorization.{authorized_roles, has_access, is_authorized, session_roles, is_session_role}
use Rattle.admin_mgr.specs.Separation.{static_violation, dynamic_violation}
use Rattle.admin_mgr.specs.After.{after}
use Rattle.admin_mgr.specs.UserAccess.{could_have_access}
use Rattle.admin_mgr.specs.Verdict.{verdict}
use Rattle.admin_mgr.specs.Run.{tally}
use Rattle.admin_mgr.specs.Good.{IsGood, IsWellFormed, IsStaticallySeparated, IsDynamicallySeparated}

-- each role of the one set is in the other
abbrev pub IsWithin : Names → Names → Type 0
IsWithin part roles = (role : Bytes) → IsTrue (contains part role) → IsTrue (contains roles role)

-- nobody is authorized for all of the roles
abbrev pub HaveNobodyInCommon : RbacState → Names → Type 0
HaveNobodyInCommon S part = (user : Bytes) → ((role : Bytes) → IsTrue (contains part role) → IsTrue (is_authorized S user role)) → ⊥

-- static separation of duty as the standard defines it: if a set has cardinality n, any n or more of its roles have no authorized
-- user in common
abbrev pub IsSeparatedBySubsets : RbacState → Type 0
IsSeparatedBySubsets S =
    (name : Bytes) (n : ℕ) (part : Names)
    → IsTrue (contains S.ssd.cardinalities (name, n)) → IsWithin part (members_of S.ssd name) → n ≤ len part → HaveNobodyInCommon S part

-- the definition that counts the roles of each user is equivalent to the standard's
abbrev pub SubsetForm : Type 0
SubsetForm = (S : RbacState) → IsStaticallySeparated S ↔ IsSeparatedBySubsets S

-- states of one version with the same rows are equal
abbrev pub RowsDetermine : Type 0
RowsDetermine = (S T : RbacState) → S.version ≡ T.version → ((row : Row) → has_row S row ≡ has_row T row) → S ≡ T

-- an accepted command leads from a good state to a good state
abbrev pub AcceptedIsGood : Type 0
AcceptedIsGood = (S : RbacState) → IsGood S → (command : Command) → verdict S command ≡ None → IsGood (after S command)

-- if the relations are well formed, the test of a verdict names no static set if and only if none is violated
abbrev pub StaticTest : Type 0
StaticTest = (S : RbacState) → IsWellFormed S → (static_violation S ≡ None) ↔ IsStaticallySeparated S

-- the test of a verdict names no dynamic set if and only if none is violated
abbrev pub DynamicTest : Type 0
DynamicTest = (S : RbacState) → (dynamic_violation S ≡ None) ↔ IsDynamicallySeparated S

-- if the relations are well formed, `authorized_roles` leaves out none of the roles for which a user is authorized: each of them
-- is a role of the state
abbrev pub AuthorizedRolesAreThere : Type 0
AuthorizedRolesAreThere = (S : RbacState) → IsWellFormed S → (user role : Bytes) → contains (authorized_roles S user) role ≡ is_authorized S user role

-- and `session_roles` leaves out none of the roles of a session
abbrev pub SessionRolesAreThere : Type 0
SessionRolesAreThere = (S : RbacState) → IsWellFormed S → (session role : Bytes) → contains (session_roles S session) role ≡ is_session_role S session role

-- ---- an import that is repeated

-- the code of a refusal, and the code that it may have the second time: it is the same, but 24 StaticSeparation may become
-- 32 TooMany, since there may be too many assignments by then
abbrev pub IsSameCode : ℕ → ℕ → Type 0
IsSameCode code again = (code ≡ again) ⊎ ((code ≡ code_of (StaticSeparation [])) × (again ≡ code_of (TooMany Assignment)))

-- the same records are refused, in the same order
abbrev pub RefuseTheSame : List (ℕ × ℕ) → List (ℕ × ℕ) → Type 0
RefuseTheSame [] [] = Unit {0}
RefuseTheSame (record_told ∷ told) (record_again ∷ again) =
    (record_told.0 ≡ record_again.0) × IsSameCode record_told.1 record_again.1 × RefuseTheSame told again
RefuseTheSame _ _ = ⊥

-- In T, the state after the import in S, the same import is accepted, and changes nothing. Each record that was assigned counts
-- as assigned before, and the same other records are refused.
pub record IsIdleAgain (S T : RbacState) (pairs : Vec Pair Global) : Type 0 where
  pub accepted : verdict T (ImportAssignments pairs) ≡ None
  pub state : after T (ImportAssignments pairs) ≡ T
  pub assigned : (tally T (ImportAssignments pairs)).assigned ≡ 0
  pub already : (tally T (ImportAssignments pairs)).already ≡ (tally S (ImportAssignments pairs)).assigned + (tally S (ImportAssignments pairs)).already
  pub refused : RefuseTheSame (tally S (ImportAssignments pairs)).refused (tally T (ImportAssignments pairs)).refused

-- an import that is repeated changes nothing
abbrev pub ImportTwice : Type 0
ImportTwice = (S : RbacState) (pairs : Vec Pair Global) → verdict S (ImportAssignments pairs) ≡ None →
    IsIdleAgain S (after S (ImportAssignments pairs)) pairs

-- ---- decisions about users

-- the user may create the session with these roles, and it has access then
abbrev pub CreatesAccess : RbacState → Bytes → Bytes → Bytes → Stored Bytes → Bytes → Type 0
CreatesAccess S user operation object roles session =
    (verdict S (CreateSession user roles session) ≡ None) × IsTrue (has_access (after S (CreateSession user roles session)) session operation object)

-- A user could have access exactly if some session has it that the user may create: each session of a new name with some roles, as
-- long as there may be one more session; and no session that the user may create has access otherwise.
pub record IsByCreation (S : RbacState) (user operation object : Bytes) : Type 0 where
  pub some : IsTrue (could_have_access S user operation object) → (session : Bytes) → has_session S session ≡ false → len S.sessions + 1 ≤ limit_of Session S.version
      → (roles : Stored Bytes) × CreatesAccess S user operation object roles session
  pub none : (roles : Stored Bytes) (session : Bytes) → CreatesAccess S user operation object roles session → IsTrue (could_have_access S user operation object)

abbrev pub UserAccessIsBySessions : Type 0
UserAccessIsBySessions = (S : RbacState) → IsGood S → (user operation object : Bytes) → IsByCreation S user operation object

-- no session that is there, whatever its user activated in it since, has access that its user couldn't have
abbrev pub SessionsGiveUserAccess : Type 0
SessionsGiveUserAccess = (S : RbacState) → IsGood S → (session user operation object : Bytes) →
    IsTrue (contains S.sessions (session, user)) → IsTrue (has_access S session operation object) → IsTrue (could_have_access S user operation object)
