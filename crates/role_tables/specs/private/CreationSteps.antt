-- The stages in which the tables of an office are created inside a transaction.
use Rattle.std.specs.Prelude.{ℕ, ◌≡◌, ◌==◌, ◌||◌, Bool, false, List, [], ◌∷◌, None, IsTrue, codes}
use Rattle.sqlite.specs.Does.{lacks_sequence}
use Rattle.sqlite.specs.Effect.{Database, IsDatabase}
use Rattle.sqlite.specs.State.{State}
use Rattle.sqlite_schema.specs.Names.{table_named}
use Rattle.role_tables.specs.TableByName.{is_referred}
use Rattle.role_tables.specs.OfficeTables.{StoredTable, Meta, making, Rows, code, meta_row, cells, is_wanted, HoldsTables}
use Rattle.role_tables.specs.private.NamedTables.{changed_at}
use Rattle.sqlite.specs.Table.{Table}
use Rattle.sqlite.specs.Schema.{Schema}
use Rattle.sqlite.specs.Change.{created, next_tree, KeepsRows}

-- these tables, and this one too
abbrev pub with_table : StoredTable → (StoredTable → Bool) → StoredTable → Bool
with_table table want other = want other || (code other == code table)

-- these tables, and each of the list
abbrev pub with_tables : List StoredTable → (StoredTable → Bool) → StoredTable → Bool
with_tables [] want = want
with_tables (table ∷ tables) want = with_tables tables (with_table table want)

abbrev pub no_table : StoredTable → Bool
no_table table = false

abbrev pub no_rows : Rows
no_rows table = []

-- some tables are created and hold these rows, and the others of the version can be created: no table has their names, and no
-- foreign key names one of the version's tables
pub record IsStage (version : ℕ) (want : StoredTable → Bool) (db : Database) (rows : Rows) : Type 0 where
  pub held : HoldsTables want db rows
  pub unnamed : (table : StoredTable) → IsTrue (is_wanted version table) → want table ≡ false → table_named db.schema (making table).name ≡ None
  pub unreferred : (table : StoredTable) → IsTrue (is_wanted version table) → is_referred db.schema (making table).name ≡ false
  pub counted : lacks_sequence db.schema ≡ false

-- if the connection is open, no table of an office of this version is created yet, and each can be
abbrev pub IsFirstStage : ℕ → State → Type 0
IsFirstStage version s = IsTrue s.is_open → IsStage version no_table s.now no_rows

-- tables of the version that are not created yet
abbrev pub AreNew : ℕ → (StoredTable → Bool) → Rows → List StoredTable → Type 0
AreNew version want rows [] = Unit {0}
AreNew version want rows (table ∷ tables) = IsTrue (is_wanted version table) × (want table ≡ false) × (rows table ≡ []) × AreNew version (with_table table want) rows tables

-- inside a transaction, these tables are created
pub record StageAfter (old new : State) (tables : List StoredTable) : Type 0 where
  pub stage : (version : ℕ) (want : StoredTable → Bool) (rows : Rows) → AreNew version want rows tables → IsStage version want old.now rows → IsStage version (with_tables tables want) new.now rows
  pub mode : new.in_transaction ≡ old.in_transaction

-- inside a transaction, the row of the version is inserted
pub record InsertsVersion (version : ℕ) (old new : State) : Type 0 where
  pub was_open : IsTrue old.is_open
  pub put : (want : StoredTable → Bool) (rows : Rows) → IsTrue (want Meta) → HoldsTables want old.now rows → HoldsTables want new.now (changed_at Meta (λ all. cells (meta_row (codes "rbac") version) ∷ all) rows)
  pub mode : new.in_transaction ≡ old.in_transaction

-- the table is created, empty, and the other tables keep their rows
pub record Creates (schema : Schema) (table : Table) (old new : State) : Type 0 where
  pub schema_is : new.now.schema ≡ created schema table
  pub empty : new.now.trees (next_tree schema) ≡ []
  pub others : KeepsRows schema.tables old.now.trees new.now.trees
  pub sound : IsDatabase new.now
