-- What an index for decisions has to do with the rows of a state.
use Rattle.std.specs.Prelude.{◌≡◌, ◌↔◌, ◌⊎◌, ◌&&◌, ℕ, Bool, IsTrue, false, not, nat_lt, Option, Some, None, List, [], ◌∷◌, IfSome}
use Rattle.std.specs.List.{slice_get}
use Rattle.std.specs.HashMap.{get_by_text, hasher_of}
use Rattle.bit_rows.specs.declared.row.BitRow.{BitRow}
use Rattle.bit_rows.specs.Rows.{has}
use Rattle.rbac_sets.specs.Sets.{Bytes, Pair, Cardinality, any, count, same_name}
use Rattle.rbac_sets.specs.declared.row.Row.{Row}
use Rattle.rbac_sets.specs.declared.row.Row.TheVariants.{PairRow, GrantRow}
use Rattle.rbac_sets.specs.RowKinds.{assignment_kind, closure_pair_kind, activated_role_kind}
use Rattle.role_order.specs.Order.{geq}
use Rattle.admin_mgr.specs.RbacState.{RbacState, members_of}
use Rattle.admin_mgr.specs.Rows.{has_row}
use Rattle.admin_mgr.specs.UserAccess.{stands_alone}
use Rattle.bit_tables.specs.Tables.{has_at, has_pair, is_in, seed_of}
use Rattle.bit_tables.specs.declared.seed.Seed.{Seed}
use Rattle.access_index.specs.Following.{AreNumbers, Follow}
use Rattle.access_index.specs.declared.index.AccessIndex.{AccessIndex}

-- the number of a role, if it has one
abbrev pub number_of : AccessIndex → Bytes → Option ℕ
number_of index role = get_by_text index.numbers.numbers role

abbrev pub is_used : AccessIndex → ℕ → Bool
is_used index n = has index.used n

-- whether the row of one number has the other
abbrev pub is_below : List BitRow → ℕ → ℕ → Bool
is_below rows i j = is_in (slice_get rows i) j

-- whether the row of a role's number has a number
abbrev pub is_below_number : List BitRow → Option ℕ → ℕ → Bool
is_below_number rows None j = false
is_below_number rows (Some i) j = is_below rows i j

-- the second rows have the bits of the first ones, turned: that of j and i in place of that of i and j
abbrev pub AreTurned : List BitRow → List BitRow → Type 0
AreTurned rows turned = (i j : ℕ) → is_below turned j i ≡ is_below rows i j

-- ---- the bits, and the facts that they stand for

abbrev pub assigned_bits : AccessIndex → Bytes → ℕ → Bool
assigned_bits index user n = has_at index.assigned user n

abbrev pub session_bits : AccessIndex → Bytes → ℕ → Bool
session_bits index session n = has_at index.sessions session n

abbrev pub grant_bits : AccessIndex → Pair → ℕ → Bool
grant_bits index permission n = has_pair index.grants permission.0 permission.1 n

abbrev pub junior_bits : AccessIndex → Bytes → ℕ → Bool
junior_bits index senior n = is_below_number index.juniors.items (number_of index senior) n

-- the row of the roles that a dynamic separation of duty set bars, if it is known
abbrev pub row_by_set : AccessIndex → Bytes → Option BitRow
row_by_set index set = get_by_text index.by_set set

-- the row of the roles that a user is authorized for, if it is known
abbrev pub authorized_row : AccessIndex → Bytes → Option BitRow
authorized_row index user = get_by_text index.authorized user

-- the secrets by which its tables find the names of roles, users, sessions and permissions
abbrev pub seeds_of : AccessIndex → List Seed
seeds_of index =
    hasher_of index.numbers.numbers ∷ seed_of index.assigned ∷ seed_of index.sessions ∷ seed_of index.grants.rows ∷ hasher_of index.authorized ∷ []

-- each of them is this one
abbrev pub IsSeeded : AccessIndex → Seed → Type 0
IsSeeded index seed = seeds_of index ≡ seed ∷ seed ∷ seed ∷ seed ∷ seed ∷ []

-- the number has the bit, or is in the row of a number that has it
abbrev pub IsReached : List BitRow → (ℕ → Bool) → ℕ → Type 0
IsReached rows bits n = (i : ℕ) × IsTrue (bits i) × ((i ≡ n) ⊎ IsTrue (is_below rows i n))

-- the row has the numbers of the user's assigned roles and those of their juniors, and no others
abbrev pub IsAuthorized : AccessIndex → Bytes → BitRow → Type 0
IsAuthorized index user row = (n : ℕ) → IsTrue (has row n) ↔ IsReached index.juniors.items (assigned_bits index user) n

-- whether the dynamic separation of duty set of this name bars the role: the role and its juniors are as many roles of the set as
-- its cardinality, or more
unfoldable pub is_barred_by : RbacState → Bytes → Bytes → Bool
is_barred_by S set role = any (λ (entry : Cardinality). same_name entry.0 set && not (nat_lt (count (geq S.edges role) (members_of S.dsd set)) entry.1)) S.dsd.cardinalities

-- rows, by the test whether a row is one of them, the roles that are barred, and those that each dynamic set bars
pub record Rows : Type 0 where
  pub stored : Row → Bool
  pub barred : Bytes → Bool
  pub barred_by : Bytes → Bytes → Bool

-- no rows, and no barred role
abbrev pub no_rows : Rows
no_rows = record { stored = λ row. false; barred = λ role. false; barred_by = λ set role. false }

-- The rows of a state. A role is barred if it violates a dynamic separation of duty set alone: no session may have it.
abbrev pub rows_of : RbacState → Rows
rows_of S = record { stored = has_row S; barred = λ role. not (stands_alone S role); barred_by = is_barred_by S }

abbrev pub is_assigned : Rows → Bytes → Bytes → Bool
is_assigned rows user role = rows.stored (PairRow assignment_kind user role)

abbrev pub is_activated : Rows → Bytes → Bytes → Bool
is_activated rows session role = rows.stored (PairRow activated_role_kind session role)

abbrev pub is_granted : Rows → Pair → Bytes → Bool
is_granted rows permission role = rows.stored (GrantRow permission.0 permission.1 role)

abbrev pub is_junior : Rows → Bytes → Bytes → Bool
is_junior rows senior role = rows.stored (PairRow closure_pair_kind senior role)

-- The index has the assignments, the activated roles, the grants and the closure pairs of these rows, the barred roles if it
-- knows them, those that a dynamic set bars if it knows them, and those that a user is authorized for if it knows them. The row of a
-- number that isn't used is empty.
pub record Keeps (index : AccessIndex) (rows : Rows) : Type 0 where
  pub numbers : AreNumbers (number_of index) (is_used index)
  pub assigned : Follow Bytes (number_of index) (is_used index) (assigned_bits index) (is_assigned rows)
  pub sessions : Follow Bytes (number_of index) (is_used index) (session_bits index) (is_activated rows)
  pub grants : Follow Pair (number_of index) (is_used index) (grant_bits index) (is_granted rows)
  pub juniors : Follow Bytes (number_of index) (is_used index) (junior_bits index) (is_junior rows)
  pub clear : (i j : ℕ) → is_used index i ≡ false → is_below index.juniors.items i j ≡ false
  pub turned : AreTurned index.juniors.items index.seniors.items
  pub barred : IfSome index.barred (λ row. Follow (Unit {0}) (number_of index) (is_used index) (λ _. has row) (λ _. rows.barred))
  pub barred_by : (set : Bytes) → IfSome (row_by_set index set) (λ row. Follow (Unit {0}) (number_of index) (is_used index) (λ _. has row) (λ _. rows.barred_by set))
  pub authorized : (user : Bytes) → IfSome (authorized_row index user) (IsAuthorized index user)

-- the index has the rows of the state
abbrev pub Indexes : AccessIndex → RbacState → Type 0
Indexes index S = Keeps index (rows_of S)
