-- What a database has of an office, by the names of tables and columns, however the tables were created; and the first two of
-- the checks that it has to pass.
use Rattle.std.specs.Prelude.{ℕ, ◌&&◌, ◌^◌, pos, nat_le, nat_lt, Bool, true, false, List, [], ◌∷◌, map, slice_get, Option, Some}
use Rattle.std.specs.Option.{option_and_then, option_map}
use Rattle.rbac_sets.specs.Name.{is_name}
use Rattle.rbac_sets.specs.declared.row.Row.{Row}
use Rattle.rbac_sets.specs.declared.row.Row.TheVariants.{NameRow, PairRow, GrantRow, SetRow, LockedRow}
use Rattle.sqlite.specs.declared.types.Value.{Value}
use Rattle.sqlite.specs.declared.types.Value.TheVariants.{Int, Text}
use Rattle.sqlite.specs.Order as sql
use Rattle.sqlite.specs.Order.{column}
use Rattle.sqlite.specs.Schema.{Schema}
use Rattle.sqlite.specs.Table.{Table}
use Rattle.sqlite.specs.Effect.{Database}
use Rattle.sqlite_schema.specs.Names.{table_named, column_named}
use Rattle.role_tables.specs.TableByName.{Place, names_of, cells_at}
use Rattle.role_tables.specs.OfficeTables.{StoredTable, Meta, Names, Pairs, Grants, Sets, Locks, making, places}

-- ---- the rows of the tables

-- the columns of these names, if each is there
abbrev pub find_places : Table → List (List ℕ) → Option (List Place)
find_places table [] = Some []
find_places table (name ∷ names) =
    option_and_then (λ at. option_and_then (λ c. option_map (λ (more : List Place). (name, at, c) ∷ more) (find_places table names)) (slice_get table.columns at)) (column_named table name)

-- the table of this name, if it is there
abbrev pub find_table : Schema → List ℕ → Option Table
find_table schema name = option_and_then (slice_get schema.tables) (table_named schema name)

-- the values in the columns of this kind of table, row by row, if the table and the columns are there
abbrev pub contents_of : Database → StoredTable → Option (List sql.Row)
contents_of db kind = option_and_then (λ table. option_map (λ found. map (cells_at table found) (db.trees table.tree)) (find_places table (names_of (places kind)))) (find_table db.schema (making kind).name)

-- what a database has of each kind of table, if it is there: the values of its rows
abbrev pub TableContents : Type 0
TableContents = StoredTable → Option (List sql.Row)

-- ---- check 1, except for keys

abbrev pub is_text : Value → Bool
is_text (Text t) = true
is_text _ = false

abbrev pub is_whole_number : Value → Bool
is_whole_number (Int n) = true
is_whole_number _ = false

-- a kind from 1 to this one
abbrev pub is_kind : ℕ → Value → Bool
is_kind most (Int (pos n)) = nat_le 1 n && nat_le n most
is_kind most _ = false

-- a number that fits a u32
abbrev pub is_count : Value → Bool
is_count (Int (pos n)) = nat_lt n (2 ^ 32)
is_count _ = false

-- the values are of their columns' types, the kind is known, and a cardinality fits a u32
abbrev pub is_well_typed : StoredTable → sql.Row → Bool
is_well_typed Meta v = is_text (column v 0) && is_whole_number (column v 1)
is_well_typed Names v = is_kind 3 (column v 0) && is_text (column v 1)
is_well_typed Pairs v = is_kind 8 (column v 0) && (is_text (column v 1) && is_text (column v 2))
is_well_typed Grants v = is_text (column v 0) && (is_text (column v 1) && is_text (column v 2))
is_well_typed Sets v = is_kind 2 (column v 0) && (is_text (column v 1) && is_count (column v 2))
is_well_typed Locks v = is_text (column v 0)

-- ---- check 2

abbrev pub text_of : Value → List ℕ
text_of (Text t) = t
text_of _ = []

abbrev pub number_of : Value → ℕ
number_of (Int (pos n)) = n
number_of _ = 0

-- the texts are valid names
abbrev pub has_names : StoredTable → sql.Row → Bool
has_names Meta v = true
has_names Names v = is_name (text_of (column v 1))
has_names Pairs v = is_name (text_of (column v 1)) && is_name (text_of (column v 2))
has_names Grants v = is_name (text_of (column v 0)) && (is_name (text_of (column v 1)) && is_name (text_of (column v 2)))
has_names Sets v = is_name (text_of (column v 1))
has_names Locks v = is_name (text_of (column v 0))

-- the row that has these values
abbrev pub row_in : StoredTable → sql.Row → Row
row_in Meta v = LockedRow []
row_in Names v = NameRow (number_of (column v 0)) (text_of (column v 1))
row_in Pairs v = PairRow (number_of (column v 0)) (text_of (column v 1)) (text_of (column v 2))
row_in Grants v = GrantRow (text_of (column v 0)) (text_of (column v 1)) (text_of (column v 2))
row_in Sets v = SetRow (number_of (column v 0)) (text_of (column v 1)) (number_of (column v 2))
row_in Locks v = LockedRow (text_of (column v 0))
