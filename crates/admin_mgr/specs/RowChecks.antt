-- Which rows are those of a good state, and by what other rows are refused.
use Rattle.std.specs.Prelude.{◌≡◌, ℕ, ◌<◌, ◌≤◌, Bool, true, false, ◌||◌, nat_eq, nat_lt, List, [], ◌∷◌, Option, Some, find, IsTrue}
use Rattle.std.specs.List.{list_any, list_all}
use Rattle.rbac_sets.specs.Sets.{Bytes, Names, Pair, Pairs, contains, len, any, seconds}
use Rattle.rbac_sets.specs.Kind.{limit_of}
use Rattle.rbac_sets.specs.declared.row.Row.{Row}
use Rattle.rbac_sets.specs.declared.kind.Kind.{Kind}
use Rattle.rbac_sets.specs.declared.kind.Kind.TheVariants.{User, Role, Object, Permission, Grant, Assignment, Edge, SsdSet, DsdSet, Member, Session, ActiveRole, Record, Byte}
use Rattle.rbac_sets.specs.declared.refusal.Refusal.{Refusal}
use Rattle.rbac_sets.specs.declared.refusal.Refusal.TheVariants.{TooMany, Memory, Damaged}
use Rattle.role_order.specs.Order.{IsAcyclic, IsClosure}
use Rattle.admin_mgr.specs.RbacState.{RbacState, Separation, members_of, has_set, has_session}
use Rattle.admin_mgr.specs.Rows.{has_row}
use Rattle.admin_mgr.specs.Changes.{same_row}
use Rattle.admin_mgr.specs.Authorization.{is_authorized}
use Rattle.admin_mgr.specs.Good.{IsGood, IsWithinLimits, IsStaticallySeparated, IsDynamicallySeparated}
use Rattle.admin_mgr.specs.StoredSets.{StoredSets, gathered, is_among, is_known, HaveKeysOnce}

-- ---- the checks

-- each row is one that the version allows, and no two rows have the same key
pub record AreReadable (version : ℕ) (rows : List Row) : Type 0 where
  pub known : IsTrue (list_all (is_known version) rows)
  pub keys : HaveKeysOnce rows

-- the kinds whose limits are checked, in this order
abbrev pub limited_kinds : List Kind
limited_kinds = User ∷ Role ∷ Object ∷ Permission ∷ Grant ∷ Assignment ∷ Edge ∷ SsdSet ∷ DsdSet ∷ Member ∷ Session ∷ ActiveRole ∷ []

-- more pairs than the limit begin with one name
abbrev pub has_more_with_first : ℕ → Pairs → Bool
has_more_with_first limit pairs = any (λ (pair : Pair). nat_lt limit (len (seconds pairs pair.0))) pairs

-- the limit of the kind is exceeded
abbrev pub is_exceeded : RbacState → Kind → Bool
is_exceeded S User = nat_lt (limit_of User S.version) (len S.users)
is_exceeded S Role = nat_lt (limit_of Role S.version) (len S.roles)
is_exceeded S Object = nat_lt (limit_of Object S.version) (len S.objects)
is_exceeded S Permission = nat_lt (limit_of Permission S.version) (len S.permissions)
is_exceeded S Grant = nat_lt (limit_of Grant S.version) (len S.grants)
is_exceeded S Assignment = nat_lt (limit_of Assignment S.version) (len S.assignments)
is_exceeded S Edge = nat_lt (limit_of Edge S.version) (len S.edges)
is_exceeded S SsdSet = nat_lt (limit_of SsdSet S.version) (len S.ssd.cardinalities)
is_exceeded S DsdSet = nat_lt (limit_of DsdSet S.version) (len S.dsd.cardinalities)
is_exceeded S Member = has_more_with_first (limit_of Member S.version) S.ssd.members || has_more_with_first (limit_of Member S.version) S.dsd.members
is_exceeded S Session = nat_lt (limit_of Session S.version) (len S.sessions)
is_exceeded S ActiveRole = has_more_with_first (limit_of ActiveRole S.version) S.active
is_exceeded S Record = false
is_exceeded S Byte = false

-- the first kind whose limit is exceeded
abbrev pub first_exceeded : RbacState → Option Kind
first_exceeded S = find (is_exceeded S) limited_kinds

-- each member of a set is a role, and its set has a cardinality
abbrev pub MembersExist : Names → Separation → Type 0
MembersExist roles separation = (name role : Bytes) → IsTrue (contains separation.members (name, role)) → IsTrue (has_set separation name) × IsTrue (contains roles role)

-- each user, role, object, permission, session and set that a row refers to exists
pub record IsComplete (g : StoredSets) : Type 0 where
  pub permissions : (object operation : Bytes) → IsTrue (contains g.facts.permissions (object, operation)) → IsTrue (contains g.facts.objects object)
  pub assignments : (user role : Bytes) → IsTrue (contains g.facts.assignments (user, role)) → IsTrue (contains g.facts.users user) × IsTrue (contains g.facts.roles role)
  pub grants : (object operation role : Bytes) → IsTrue (contains g.facts.grants (object, operation, role)) → IsTrue (contains g.facts.permissions (object, operation)) × IsTrue (contains g.facts.roles role)
  pub edges : (asc desc : Bytes) → IsTrue (contains g.facts.edges (asc, desc)) → IsTrue (contains g.facts.roles asc) × IsTrue (contains g.facts.roles desc)
  pub pairs : (above below : Bytes) → IsTrue (contains g.pairs (above, below)) → IsTrue (contains g.facts.roles above) × IsTrue (contains g.facts.roles below)
  pub ssd : MembersExist g.facts.roles g.facts.ssd
  pub dsd : MembersExist g.facts.roles g.facts.dsd
  pub sessions : (session user : Bytes) → IsTrue (contains g.facts.sessions (session, user)) → IsTrue (contains g.facts.users user)
  pub active : (session role : Bytes) → IsTrue (contains g.facts.active (session, role)) → IsTrue (has_session g.facts session) × IsTrue (contains g.facts.roles role)
  pub locked : (user : Bytes) → IsTrue (contains g.facts.locked user) → IsTrue (contains g.facts.users user)

-- a session has one user
abbrev pub HaveOneUser : RbacState → Type 0
HaveOneUser S = (session user other : Bytes) → IsTrue (contains S.sessions (session, user)) → IsTrue (contains S.sessions (session, other)) → user ≡ other

-- the cardinality of each set is at least 2 and at most the number of its members
abbrev pub HasCardinalities : Separation → Type 0
HasCardinalities separation = (name : Bytes) (n : ℕ) → IsTrue (contains separation.cardinalities (name, n)) → (2 ≤ n) × (n ≤ len (members_of separation name))

-- a session's user is authorized for each role that was activated in it
abbrev pub HaveAuthorizedUsers : RbacState → Type 0
HaveAuthorizedUsers S = (session user role : Bytes) → IsTrue (contains S.sessions (session, user)) → IsTrue (contains S.active (session, role)) → IsTrue (is_authorized S user role)

-- a locked user has no session
abbrev pub HaveUnlockedUsers : RbacState → Type 0
HaveUnlockedUsers S = (session user : Bytes) → IsTrue (contains S.sessions (session, user)) → contains S.locked user ≡ false

-- the first statement if the test holds, otherwise the second
abbrev pub Choose : Bool → Type 0 → Type 0 → Type 0
Choose true Then Else = Then
Choose false Then Else = Else

-- the sets pass the check of this number
abbrev pub Passes : StoredSets → ℕ → Type 0
Passes g number =
    Choose (nat_eq number 2) (IsWithinLimits g.facts)
    (Choose (nat_eq number 3) (IsComplete g)
    (Choose (nat_eq number 4) (HaveOneUser g.facts)
    (Choose (nat_eq number 5) (IsAcyclic g.facts.edges)
    (Choose (nat_eq number 6) (IsClosure g.facts.edges g.pairs)
    (Choose (nat_eq number 7) (HasCardinalities g.facts.ssd × HasCardinalities g.facts.dsd)
    (Choose (nat_eq number 8) (HaveAuthorizedUsers g.facts)
    (Choose (nat_eq number 9) (IsStaticallySeparated g.facts)
    (Choose (nat_eq number 10) (IsDynamicallySeparated g.facts)
    (Choose (nat_eq number 11) (HaveUnlockedUsers g.facts) (Unit {0}))))))))))

-- ---- the refusals

-- the check of this number fails, and each one before it passes
pub record IsFirstFailure (g : StoredSets) (number : ℕ) : Type 0 where
  pub passed : (earlier : ℕ) → earlier < number → Passes g earlier
  pub failed : Passes g number → ⊥

-- Rows that make these sets may be refused so: by the first check that fails, or for check 2 by the first kind whose limit is
-- exceeded; and by 40 Memory at any time.
abbrev pub RefusesSets : StoredSets → Refusal → Type 0
RefusesSets g (TooMany kind) = first_exceeded g.facts ≡ Some kind
RefusesSets g (Damaged number) = (3 ≤ number) × IsFirstFailure g number
RefusesSets g Memory = Unit {0}
RefusesSets g _ = ⊥

-- these rows may be refused so; check 1 is that they are readable
abbrev pub RefusesRows : ℕ → List Row → Refusal → Type 0
RefusesRows version rows Memory = Unit {0}
RefusesRows version rows (Damaged number) =
    Choose (nat_eq number 1) (AreReadable version rows → ⊥) (AreReadable version rows × RefusesSets (gathered version rows) (Damaged number))
RefusesRows version rows refusal = AreReadable version rows × RefusesSets (gathered version rows) refusal

-- no row occurs twice
abbrev pub OccurOnce : List Row → Type 0
OccurOnce [] = Unit {0}
OccurOnce (row ∷ rows) = (list_any (λ (other : Row). same_row row other) rows ≡ false) × OccurOnce rows

-- the rows are those of the state, each once
pub record AreRowsOf (S : RbacState) (rows : List Row) : Type 0 where
  pub rows_are : (row : Row) → has_row S row ≡ is_among rows row
  pub once : OccurOnce rows

-- the state is the good one of this version that has these rows
pub record IsStateOf (version : ℕ) (rows : List Row) (S : RbacState) : Type 0 where
  pub version_is : S.version ≡ version
  pub stored : AreRowsOf S rows
  pub good : IsGood S

-- the rows of a good state are refused by 40 Memory only
abbrev pub GoodRowsAreRead : Type 0
GoodRowsAreRead = (S : RbacState) (rows : List Row) (refusal : Refusal) → IsGood S → AreRowsOf S rows → RefusesRows S.version rows refusal → refusal ≡ Memory
