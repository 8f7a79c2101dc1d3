-- From the tables that were created to an empty office.
use Rattle.std.proofs.Common.{◌≡◌, ◌⊎◌, inl, inr, ℕ, [], ◌∷◌, Bool, IsTrue, Ok, refl, ◌∙◌, codes}
use Rattle.admin_mgr.specs.RbacState.{empty_state}
use Rattle.admin_mgr.specs.RowChecks.{AreRowsOf}
use Rattle.admin_mgr.proofs.StateAfter.EmptyLaws.{empty_has_no_row}
use Rattle.sqlite.specs.Effect.{Database}
use Rattle.sqlite.specs.State.{State, Executes}
use Rattle.role_tables.specs.OfficeTables.{StoredTable, Meta, Names, Pairs, Grants, Sets, Locks, made, Rows, meta_row, cells, is_wanted, tables_of, HoldsTables}
use Rattle.role_tables.specs.private.NamedTables.{changed_at}
use Rattle.role_tables.specs.private.Texts.{insert_text}
use Rattle.role_tables.specs.StoredState.{stored_rows, HoldsState}
use Rattle.role_tables.specs.private.CreationSteps.{with_tables, no_table, no_rows, IsStage, AreNew, StageAfter, InsertsVersion}
use Rattle.role_tables.proofs.OfficeTables.Changes.{puts_row}
use Rattle.role_tables.proofs.StoredRows.Texts.{holds_same}

pub version_put : (version : ℕ) (old new : State) (count : ℕ) → Executes (insert_text Meta) (cells (meta_row (codes "rbac") version)) old new (Ok count) → IsTrue old.is_open → new.in_transaction ≡ old.in_transaction → InsertsVersion version old new
version_put version old new count ran is_open mode = record {
  was_open = is_open;
  put = λ want rows wanted held. puts_row want (meta_row (codes "rbac") version) wanted old new count rows held ran;
  mode = mode;
}

pub nothing_stored : (version : ℕ) → AreRowsOf (empty_state version) []
nothing_stored version = record { rows_are = empty_has_no_row version; once = tt }

-- ---- the tables of a version

all_wanted : (version : ℕ) → (version ≡ 1) ⊎ (version ≡ 2) → (table : StoredTable) → with_tables (tables_of version) no_table table ≡ is_wanted version table
all_wanted version (inl one) table = rw one (first table)
  where
    first : (table : StoredTable) → with_tables (tables_of 1) no_table table ≡ is_wanted 1 table
    first Meta = refl
    first Names = refl
    first Pairs = refl
    first Grants = refl
    first Sets = refl
    first Locks = refl
all_wanted version (inr two) table = rw two (second table)
  where
    second : (table : StoredTable) → with_tables (tables_of 2) no_table table ≡ is_wanted 2 table
    second Meta = refl
    second Names = refl
    second Pairs = refl
    second Grants = refl
    second Sets = refl
    second Locks = refl

all_new : (version : ℕ) → (version ≡ 1) ⊎ (version ≡ 2) → AreNew version no_table no_rows (tables_of version)
all_new version (inl one) = rw one (refl, refl, refl, (refl, refl, refl, (refl, refl, refl, (refl, refl, refl, (refl, refl, refl, tt)))))
all_new version (inr two) = rw two (refl, refl, refl, (refl, refl, refl, (refl, refl, refl, (refl, refl, refl, (refl, refl, refl, (refl, refl, refl, tt))))))

pub holds_wanted : (want other : StoredTable → Bool) (db : Database) (rows : Rows) → ((table : StoredTable) → want table ≡ other table) → HoldsTables want db rows → HoldsTables other db rows
holds_wanted want other db rows same held = record {
  sound = held.sound;
  tables = λ table is. held.tables table (same table ∙ is);
  solid = held.solid;
}

-- the rows of the tables of an empty office
first_rows : (version : ℕ) (table : StoredTable) → changed_at Meta (λ all. cells (meta_row (codes "rbac") version) ∷ all) no_rows table ≡ stored_rows version [] table
first_rows version Meta = refl
first_rows version Names = refl
first_rows version Pairs = refl
first_rows version Grants = refl
first_rows version Sets = refl
first_rows version Locks = refl

-- the empty state is stored once the tables are created and the row of the version is inserted
pub office_made : (version : ℕ) → (version ≡ 1) ⊎ (version ≡ 2) → (old mid new : State) → StageAfter old mid (tables_of version) → InsertsVersion version mid new → IsStage version no_table old.now no_rows → HoldsState new.now (empty_state version)
office_made version known old mid new made put stage =
    let wanted = all_wanted version known in
    let all = with_tables (tables_of version) no_table in
    record {
      rows = [];
      rows_are = nothing_stored version;
      tables = holds_same (is_wanted version) new.now _ _ (first_rows version)
          (holds_wanted all (is_wanted version) new.now _ wanted (put.put all no_rows (wanted Meta) (made.stage version no_table no_rows (all_new version known) stage).held));
    }
