-- What is gathered of the rows of tables as they are read.
use Rattle.std.specs.Prelude.{ℕ, ℤ, IsSome, ◌≡◌, ◌≢◌, ◌⊎◌, ◌&&◌, Bool, false, List, ◌++◌, map, Option, Some, None, IsTrue, IsPermutation}
use Rattle.std.specs.List.{list_all, AllByRecursion}
use Rattle.sqlite.specs.Order as sql
use Rattle.sqlite.specs.State.{State, IsUnchanged}
use Rattle.role_tables.specs.OfficeTables.{StoredTable, Meta, Locks}
use Rattle.role_tables.specs.TableContents.{TableContents, is_well_typed, has_names, row_in, contents_of}
use Rattle.role_tables.specs.OpeningChecks.{values, rows_in_all}
use Rattle.role_tables.specs.private.NamedTables.{is_there}
use Rattle.role_tables.specs.declared.meta_rows.Metas.{Metas}
use Rattle.rbac_sets.specs.declared.row.Row.{Row}
use Rattle.rbac_sets.specs.declared.refusal.Refusal.{Refusal}
use Rattle.rbac_sets.specs.declared.refusal.Refusal.TheVariants.{NotAnOffice, Version, Damaged}
use Rattle.admin_mgr.specs.RowChecks.{RefusesRows}
use Rattle.sqlite.specs.Schema.{Schema}
use Rattle.role_tables.specs.declared.gathering.Gathering.{Gathering}

-- a table that has rows of the state
abbrev pub IsOfRows : StoredTable → Type 0
IsOfRows table = table ≢ Meta

-- the values of these rows were judged and, while all passed, their rows kept
pub record Gathers (kind : StoredTable) (shown : List sql.Row) (old new : Gathering) : Type 0 where
  pub whole : new.is_well_typed ≡ (old.is_well_typed && list_all (is_well_typed kind) shown)
  pub named : IsTrue new.is_well_typed → new.is_named ≡ (old.is_named && list_all (has_names kind) shown)
  pub rows : IsTrue new.is_well_typed → IsTrue new.is_named → new.rows.items ≡ old.rows.items ++ map (row_in kind) shown

-- these are the values that were found, in some order
abbrev pub IsRead : Option (List sql.Row) → List sql.Row → Type 0
IsRead None shown = ⊥
IsRead (Some values) shown = IsPermutation values shown

-- the values of the table were gathered
abbrev pub GathersTable : Option (List sql.Row) → StoredTable → Gathering → Gathering → Type 0
GathersTable found kind old new = (shown : List sql.Row) × IsRead found shown × Gathers kind shown old new

-- the values were judged with these results and, while all passed, these rows kept in some order
pub record GathersPart (are_whole are_named : Bool) (rows : List Row) (old new : Gathering) : Type 0 where
  pub whole : new.is_well_typed ≡ (old.is_well_typed && are_whole)
  pub named : IsTrue new.is_well_typed → new.is_named ≡ (old.is_named && are_named)
  pub kept : IsTrue new.is_well_typed → IsTrue new.is_named → (more : List Row) × IsPermutation rows more × (new.rows.items ≡ old.rows.items ++ more)

-- the values of the table pass check 1
abbrev pub well_typed_at : StoredTable → TableContents → Bool
well_typed_at kind found = list_all (is_well_typed kind) (values found kind)

-- the texts of the table are valid names
abbrev pub named_at : StoredTable → TableContents → Bool
named_at kind found = list_all (has_names kind) (values found kind)

-- each of these tables is there
abbrev pub AreThere : TableContents → List StoredTable → Type 0
AreThere found tables = AllByRecursion (λ table. IsSome (found table)) tables

-- the connection is open, and each of these tables is there
abbrev pub HasTables : State → List StoredTable → Type 0
HasTables s tables = IsTrue s.is_open × AreThere (contents_of s.now) tables

-- each of them has rows of the state
abbrev pub AreOfRows : List StoredTable → Type 0
AreOfRows tables = AllByRecursion IsOfRows tables

-- the values of these tables were gathered
abbrev pub GathersTables : TableContents → List StoredTable → Gathering → Gathering → Type 0
GathersTables found tables = GathersPart (list_all (λ table. well_typed_at table found) tables) (list_all (λ table. named_at table found) tables) (rows_in_all found tables)

-- by what was read of meta_row, this is the version
abbrev pub IsVersionSeen : Metas → Schema → ℕ → Type 0
IsVersionSeen metas schema version =
    IsTrue metas.is_tagged × (metas.unknown ≡ None) × (((version ≡ 1) × (metas.has_version_2 ≡ false)) ⊎ ((version ≡ 2) × IsTrue metas.has_version_2 × IsTrue (is_there schema Locks)))

-- or this is why there is none
abbrev pub RefusesVersion : Metas → Schema → Refusal → Type 0
RefusesVersion metas schema refusal =
    ((refusal ≡ NotAnOffice) × (metas.is_tagged ≡ false))
    ⊎ (((n : ℤ) × (refusal ≡ Version n) × IsTrue metas.is_tagged × (metas.unknown ≡ Some n))
    ⊎ ((refusal ≡ NotAnOffice) × IsTrue metas.is_tagged × (metas.unknown ≡ None) × IsTrue metas.has_version_2 × (is_there schema Locks ≡ false)))

-- the rows that were gathered are refused so
abbrev pub RefusesGathering : ℕ → Gathering → Refusal → Type 0
RefusesGathering version all refusal =
    ((refusal ≡ Damaged 1) × (all.is_well_typed ≡ false))
    ⊎ (((refusal ≡ Damaged 2) × IsTrue all.is_well_typed × (all.is_named ≡ false))
    ⊎ (IsTrue all.is_well_typed × IsTrue all.is_named × RefusesRows version all.rows.items refusal))

-- the table was read, and nothing was changed
abbrev pub ReadsTable : State → State → StoredTable → Gathering → Gathering → Type 0
ReadsTable old new kind before after = GathersTable (contents_of old.now kind) kind before after × IsUnchanged old new

-- these tables were read, and nothing was changed
abbrev pub ReadsTables : State → State → List StoredTable → Gathering → Gathering → Type 0
ReadsTables old new tables before after = GathersTables (contents_of old.now) tables before after × IsUnchanged old new
