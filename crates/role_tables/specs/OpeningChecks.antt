-- How `open` judges what a database has of an office, in this order: that an office is there (50 NotAnOffice), its version
-- (51 Version), the table of locks (50 NotAnOffice), check 1 except for keys and check 2 (52 Damaged), and then the rows as
-- `State::of_rows` judges them.
use Rattle.std.specs.Prelude.{ℕ, ◌≡◌, ◌≢◌, ◌⊎◌, ◌||◌, ◌&&◌, ◌≤ℤ◌, ℤ, pos, Bool, true, false, if◌then◌else◌, List, [], ◌∷◌, length, map, Option, Some, None, codes, IsTrue, IsSome, IsPermutation, bytes_eq, All, nat_eq}
use Rattle.std.specs.List.{list_any, list_all, flat_map, Contains}
use Rattle.std.specs.Ordering.{int_eq}
use Rattle.rbac_sets.specs.declared.row.Row.{Row}
use Rattle.rbac_sets.specs.declared.refusal.Refusal.{Refusal}
use Rattle.rbac_sets.specs.declared.refusal.Refusal.TheVariants.{Memory, NotAnOffice, Version, Damaged, TooMany, Store}
use Rattle.sqlite.specs.declared.types.Value.{Value}
use Rattle.sqlite.specs.declared.types.Value.TheVariants.{Int}
use Rattle.sqlite.specs.Order as sql
use Rattle.sqlite.specs.Order.{column}
use Rattle.sqlite.specs.State.{State, IsUnchanged}
use Rattle.admin_mgr.specs.RbacState.{RbacState}
use Rattle.admin_mgr.specs.Good.{IsGood}
use Rattle.admin_mgr.specs.StateNames as names
use Rattle.admin_mgr.specs.RowChecks.{AreRowsOf, RefusesRows, IsStateOf}
use Rattle.role_tables.specs.OfficeTables.{StoredTable, Meta, Locks, is_wanted, row_tables}
use Rattle.role_tables.specs.StoredState.{stored_rows}
use Rattle.role_tables.specs.TableContents.{TableContents, is_text, text_of, is_well_typed, has_names, row_in, contents_of}

-- the values of the table's rows, none if the table or a column is missing
abbrev pub values : TableContents → StoredTable → List sql.Row
values found kind = elim (found kind) [ Some rows ↦ rows | None ↦ [] ]

-- the row of meta_row has the tag of an office
abbrev pub is_tagged : sql.Row → Bool
is_tagged row = is_text (column row 0) && bytes_eq (text_of (column row 0)) (codes "rbac")

abbrev pub whole_number : Value → Option ℤ
whole_number (Int n) = Some n
whole_number _ = None

-- the whole number that the row has as its version, if it has the tag
abbrev pub version_at : sql.Row → Option ℤ
version_at row = if is_tagged row then whole_number (column row 1) else None

abbrev pub listed : Option ℤ → List ℤ
listed (Some n) = n ∷ []
listed None = []

-- the whole numbers that rows with the tag have as their version
abbrev pub versions : List sql.Row → List ℤ
versions metas = flat_map (λ row. listed (version_at row)) metas

abbrev pub is_number : ℕ → ℤ → Bool
is_number n m = int_eq m (pos n)

abbrev pub is_known_version : ℤ → Bool
is_known_version n = is_number 1 n || is_number 2 n

-- the five tables of both versions are there with their columns
abbrev pub HasCommonTables : TableContents → Type 0
HasCommonTables found = (kind : StoredTable) → IsTrue (is_wanted 1 kind) → IsSome (found kind)

-- an office is there: its five tables, and a row with the tag
pub record IsOffice (found : TableContents) : Type 0 where
  pub tables : HasCommonTables found
  pub tagged : IsTrue (list_any is_tagged (values found Meta))

-- the number is the least of those that are no known version
pub record IsLeastUnknown (numbers : List ℤ) (n : ℤ) : Type 0 where
  pub there : Contains numbers n
  pub unknown : is_known_version n ≡ false
  pub least : All (λ m. is_known_version m ≡ false → n ≤ℤ m) numbers

abbrev pub HasKnownVersions : TableContents → Type 0
HasKnownVersions found = IsTrue (list_all is_known_version (versions (values found Meta)))

-- the version whose tables are read
abbrev pub version_in : TableContents → ℕ
version_in found = if list_any (is_number 2) (versions (values found Meta)) then 2 else 1

-- an office of version 2 is there, perhaps without its table of locks
abbrev pub IsOfVersion2 : TableContents → Type 0
IsOfVersion2 found = IsOffice found × HasKnownVersions found × (version_in found ≡ 2)

abbrev pub HasLocks : TableContents → Type 0
HasLocks found = (version_in found ≡ 1) ⊎ IsSome (found Locks)

-- an office of a known version is there, with all tables of this version
abbrev pub HasKnownOffice : TableContents → Type 0
HasKnownOffice found = IsOffice found × HasKnownVersions found × HasLocks found

abbrev pub is_single : List sql.Row → Bool
is_single rows = nat_eq (length rows) 1

-- check 1, except for keys: the values are of their columns' types, and meta_row has one row
pub record AreWellTyped (found : TableContents) : Type 0 where
  pub rows : (kind : StoredTable) → IsTrue (is_wanted (version_in found) kind) → IsTrue (list_all (is_well_typed kind) (values found kind))
  pub one : IsTrue (is_single (values found Meta))

-- check 2: the texts are valid names
abbrev pub HaveValidNames : TableContents → Type 0
HaveValidNames found = (kind : StoredTable) → IsTrue (is_wanted (version_in found) kind) → IsTrue (list_all (has_names kind) (values found kind))

-- the rows of a table
abbrev pub rows_at : StoredTable → TableContents → List Row
rows_at table found = map (row_in table) (values found table)

-- the rows of these tables, table by table
abbrev pub rows_in_all : TableContents → List StoredTable → List Row
rows_in_all found tables = flat_map (λ table. rows_at table found) tables

-- the rows of an office of the version that was found; the table of locks is not read in version 1
abbrev pub office_rows : TableContents → List Row
office_rows found = rows_in_all found (row_tables (version_in found))

-- the rows, read in some order, are refused so
abbrev pub RefusesRead : TableContents → Refusal → Type 0
RefusesRead found refusal = (rows : List Row) × IsPermutation (office_rows found) rows × RefusesRows (version_in found) rows refusal

-- how an opening may be refused because of what was found; an allocation may fail at any time
abbrev pub RefusesContents : TableContents → Refusal → Type 0
RefusesContents found Memory = Unit {0}
RefusesContents found NotAnOffice = (IsOffice found → ⊥) ⊎ (IsOffice found × HasKnownVersions found × (HasLocks found → ⊥))
RefusesContents found (Version n) = IsOffice found × IsLeastUnknown (versions (values found Meta)) n
RefusesContents found (TooMany kind) = HasKnownOffice found × AreWellTyped found × HaveValidNames found × RefusesRead found (TooMany kind)
RefusesContents found (Damaged check) = HasKnownOffice found × (
    ((check ≡ 1) × (AreWellTyped found → ⊥))
    ⊎ (((check ≡ 2) × AreWellTyped found × (HaveValidNames found → ⊥))
    ⊎ (AreWellTyped found × HaveValidNames found × RefusesRead found (Damaged check))))
RefusesContents found _ = ⊥

-- the state is the good one whose rows were found, each once, under the one row of its version
pub record IsStateOfContents (found : TableContents) (S : RbacState) : Type 0 where
  pub reached : HasKnownOffice found
  pub whole : AreWellTyped found
  pub named : HaveValidNames found
  pub rows : List Row
  pub same : IsPermutation (office_rows found) rows
  pub state : IsStateOf (version_in found) rows S

-- the state was read, and nothing was changed
abbrev pub ReadsState : State → State → RbacState → Type 0
ReadsState old new S = IsStateOfContents (contents_of old.now) S × IsUnchanged old new

-- an allocation failed, or the store did
abbrev pub IsMemoryOrStore : Refusal → Type 0
IsMemoryOrStore refusal = (refusal ≡ Memory) ⊎ (refusal ≡ Store)

-- an opening may be refused so, whatever the disk does: because an allocation or the store failed, or because of what is found
abbrev pub is_opening_refusal : Refusal → Bool
is_opening_refusal Memory = true
is_opening_refusal Store = true
is_opening_refusal NotAnOffice = true
is_opening_refusal (Version n) = true
is_opening_refusal (TooMany kind) = true
is_opening_refusal (Damaged check) = true
is_opening_refusal _ = false

-- if an opening is refused because of what is found, no good state has exactly these rows, each once, under the one row of its
-- version
abbrev pub RefusedHaveNoState : Type 0
RefusedHaveNoState = (found : TableContents) (refusal : Refusal) (S : RbacState) → RefusesContents found refusal → refusal ≢ Memory → IsStateOfContents found S → ⊥

-- Each table of the state's version was found with its rows of the state, each once and in some order, and meta_row with the
-- one row of the version. Nothing is required of how the tables were created.
pub record HasRowsOf (found : TableContents) (S : RbacState) : Type 0 where
  pub rows : List Row
  pub rows_are : AreRowsOf S rows
  pub tables : (kind : StoredTable) → IsTrue (is_wanted S.version kind) → (values : List sql.Row) × (found kind ≡ Some values) × IsPermutation (stored_rows S.version rows kind) values

-- if the rows of a good state whose texts are valid names were found, they are refused by Memory alone
abbrev pub GoodContentsAreRead : Type 0
GoodContentsAreRead = (found : TableContents) (S : RbacState) (refusal : Refusal) → IsGood S → names.AreNamed S → HasRowsOf found S → RefusesContents found refusal → refusal ≡ Memory

-- and no other state is read from them
abbrev pub StateIsUnique : Type 0
StateIsUnique = (found : TableContents) (S T : RbacState) → IsGood S → names.AreNamed S → HasRowsOf found S → IsStateOfContents found T → T ≡ S
