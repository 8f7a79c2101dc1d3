-- A table that is found by its name: its columns, its rows, and how it may be refused.
use Rattle.std.specs.Prelude.{not, IsTrue, ℕ, ◌==◌, if◌then◌else◌, Bool, List, [], ◌∷◌, ◌≡◌, ◌⊎◌, false, Option, Some, None, IsSome, is_some, slice_get, filter}
use Rattle.sqlite.specs.Order.{Row, row_cmp}
use Rattle.sqlite.specs.Table.{Table}
use Rattle.role_tables.specs.declared.stored_table.StoredTable.{StoredTable}
use Rattle.std.specs.List.{list_all}
use Rattle.role_tables.specs.TableByName.{Place, names_of}
use Rattle.role_tables.specs.OfficeTables.{Rows, code, making, places}
use Rattle.std.specs.Ordering.{is_eq}
use Rattle.rbac_sets.specs.declared.refusal.Refusal.{Refusal}
use Rattle.rbac_sets.specs.declared.refusal.Refusal.TheVariants.{Memory, NotAnOffice, Damaged, Store}
use Rattle.sqlite.specs.State.{State}
use Rattle.role_tables.specs.TableContents.{TableContents, is_well_typed, has_names, contents_of, find_table}
use Rattle.role_tables.specs.OpeningChecks.{HasCommonTables}
use Rattle.sqlite.specs.Schema.{Schema}
use Rattle.sqlite_schema.specs.Names.{column_named}
use Rattle.sqlite_rules.specs.Action.{works}
use Rattle.sqlite_schema.specs.declared.schema.Keys.{Keys}

-- the rows, with those of one table changed so
abbrev pub changed_at : StoredTable → (List Row → List Row) → Rows → Rows
changed_at kind change rows other = if code other == code kind then change (rows other) else rows other

-- an allocation failed, or the store did, or one of the five tables is missing
abbrev pub RefusesMetas : TableContents → Refusal → Type 0
RefusesMetas found refusal = (refusal ≡ Memory) ⊎ ((refusal ≡ Store) ⊎ ((refusal ≡ NotAnOffice) × (HasCommonTables found → ⊥)))

-- the table has columns of these names
abbrev pub has_all : Table → List (List ℕ) → Bool
has_all table columns = list_all (λ name. is_some (column_named table name)) columns

-- there is a table, and it passes the test
abbrev pub is_such : Option Table → (Table → Bool) → Bool
is_such None test = false
is_such (Some table) test = test table

-- there is a table of this name, with these columns
abbrev pub has_columns : Schema → List ℕ → List (List ℕ) → Bool
has_columns schema name columns = is_such (find_table schema name) (λ table. has_all table columns)

-- the table of the kind is there with its columns
abbrev pub is_there : Schema → StoredTable → Bool
is_there schema kind = has_columns schema (making kind).name (names_of (places kind))

-- each of these tables is there with its columns
abbrev pub are_there : Schema → List StoredTable → Bool
are_there schema tables = list_all (is_there schema) tables

abbrev pub AreIn : Table → List Place → Type 0
AreIn table [] = Unit {0}
AreIn table (p ∷ ps) = (column_named table p.0 ≡ Some p.1) × (slice_get table.columns p.1 ≡ Some p.2) × AreIn table ps

-- no foreign key acts on the table
abbrev pub IsUnreferenced : Schema → Table → Type 0
IsUnreferenced schema table = (keys : Keys) (olds news : List Row) → works schema keys 0 table.tree olds news ≡ []

abbrev pub same_row : Row → Row → Bool
same_row a b = is_eq (row_cmp a b)

-- the rows except this one
abbrev pub without_row : Row → List Row → List Row
without_row row rows = filter (λ r. not (same_row r row)) rows

-- a table of the kind is there with its columns
abbrev pub HasTable : State → StoredTable → Type 0
HasTable s kind = IsSome (contents_of s.now kind)

-- how one row may be refused; a text that isn't UTF-8 is no valid name
abbrev pub RefusesRow : StoredTable → Row → Refusal → Type 0
RefusesRow kind v Memory = Unit {0}
RefusesRow kind v (Damaged check) = ((check ≡ 1) × (is_well_typed kind v ≡ false)) ⊎ ((check ≡ 2) × IsTrue (is_well_typed kind v) × (has_names kind v ≡ false))
RefusesRow kind v _ = ⊥
