-- Whether the tables of an office are in a schema, and whether they can be created in it.
use Rattle.std.specs.Prelude.{ℕ, ◌&&◌, ◌||◌, not, Bool, List, codes}
use Rattle.std.specs.List.{list_any, list_all}
use Rattle.sqlite.specs.Schema.{Schema}
use Rattle.sqlite_schema.specs.Names.{same_name}
use Rattle.role_tables.specs.TableByName.{is_referred}
use Rattle.role_tables.specs.OfficeTables.{StoredTable, making, tables_of}

-- no table has the name, and no foreign key names it
abbrev pub is_free : Schema → List ℕ → Bool
is_free schema name = not (list_any (λ t. same_name t.name name) schema.tables) && not (is_referred schema name)

-- no table counts its rowids (AUTOINCREMENT), or the table that has the counts is there
abbrev pub may_count : Schema → Bool
may_count schema = not (list_any (λ t. t.is_counted) schema.tables) || list_any (λ t. same_name t.name (codes "sqlite_sequence")) schema.tables

-- each of these tables is free
abbrev pub are_free : Schema → List StoredTable → Bool
are_free schema tables = list_all (λ table. is_free schema (making table).name) tables

-- the tables of an office of this version can be created
abbrev pub may_create : ℕ → Schema → Bool
may_create version schema = are_free schema (tables_of version) && may_count schema
