-- The texts of the statements. The values of a row are their parameters, in the order of the table's columns.
use Rattle.std.specs.Prelude.{ℕ, List, codes}
use Rattle.rbac_sets.specs.declared.row.Change.{Change}
use Rattle.rbac_sets.specs.declared.row.Change.TheVariants.{Put, Take}
use Rattle.role_tables.specs.OfficeTables.{StoredTable, Meta, Names, Pairs, Grants, Sets, Locks, table_of}
use Rattle.role_tables.specs.StoredState.{stored}

-- inserts one row
abbrev pub insert_text : StoredTable → List ℕ
insert_text Meta = codes "INSERT INTO meta_row (tag, version) VALUES (?1, ?2)"
insert_text Names = codes "INSERT INTO name_row (kind, a) VALUES (?1, ?2)"
insert_text Pairs = codes "INSERT INTO pair_row (kind, a, b) VALUES (?1, ?2, ?3)"
insert_text Grants = codes "INSERT INTO grant_row (ob, op, role) VALUES (?1, ?2, ?3)"
insert_text Sets = codes "INSERT INTO set_row (kind, name, n) VALUES (?1, ?2, ?3)"
insert_text Locks = codes "INSERT INTO locked_row (a) VALUES (?1)"

-- deletes one row
abbrev pub delete_text : StoredTable → List ℕ
delete_text Meta = codes "DELETE FROM meta_row WHERE tag = ?1 AND version = ?2"
delete_text Names = codes "DELETE FROM name_row WHERE kind = ?1 AND a = ?2"
delete_text Pairs = codes "DELETE FROM pair_row WHERE kind = ?1 AND a = ?2 AND b = ?3"
delete_text Grants = codes "DELETE FROM grant_row WHERE ob = ?1 AND op = ?2 AND role = ?3"
delete_text Sets = codes "DELETE FROM set_row WHERE kind = ?1 AND name = ?2 AND n = ?3"
delete_text Locks = codes "DELETE FROM locked_row WHERE a = ?1"

-- reads all rows
abbrev pub read_text : StoredTable → List ℕ
read_text Meta = codes "SELECT tag, version FROM meta_row"
read_text Names = codes "SELECT kind, a FROM name_row"
read_text Pairs = codes "SELECT kind, a, b FROM pair_row"
read_text Grants = codes "SELECT ob, op, role FROM grant_row"
read_text Sets = codes "SELECT kind, name, n FROM set_row"
read_text Locks = codes "SELECT a FROM locked_row"

-- creates the table
abbrev pub create_text : StoredTable → List ℕ
create_text Meta = codes "CREATE TABLE meta_row (tag TEXT NOT NULL, version INTEGER NOT NULL, PRIMARY KEY (tag)) STRICT"
create_text Names = codes "CREATE TABLE name_row (kind INTEGER NOT NULL CHECK (kind BETWEEN 1 AND 3), a TEXT NOT NULL, PRIMARY KEY (kind, a)) STRICT"
create_text Pairs = codes "CREATE TABLE pair_row (kind INTEGER NOT NULL CHECK (kind BETWEEN 1 AND 8), a TEXT NOT NULL, b TEXT NOT NULL, PRIMARY KEY (kind, a, b)) STRICT"
create_text Grants = codes "CREATE TABLE grant_row (ob TEXT NOT NULL, op TEXT NOT NULL, role TEXT NOT NULL, PRIMARY KEY (ob, op, role)) STRICT"
create_text Sets = codes "CREATE TABLE set_row (kind INTEGER NOT NULL CHECK (kind BETWEEN 1 AND 2), name TEXT NOT NULL, n INTEGER NOT NULL CHECK (n >= 2), PRIMARY KEY (kind, name)) STRICT"
create_text Locks = codes "CREATE TABLE locked_row (a TEXT NOT NULL, PRIMARY KEY (a)) STRICT"

-- makes the change
abbrev pub change_text : Change → List ℕ
change_text (Put row) = insert_text (table_of (stored row))
change_text (Take row) = delete_text (table_of (stored row))
