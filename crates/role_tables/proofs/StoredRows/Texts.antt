-- What the statements of changes do to the tables inside a transaction.
use Rattle.std.proofs.Common.{◌≡◌, ℕ, ◌+◌, ◌<◌, Bool, List, length, get_or, take, inl, inr, false, Ok, Err, Result, OnOk, IsTrue, refl, sym, ap, subst, ◌∙◌, arith}
use Rattle.std.proofs.lemmas.List.Sums.{fold_more}
use Rattle.std.proofs.lemmas.List.{take_all}
use Rattle.std.proofs.lemmas.Bool.{cases_Bool}
use Rattle.std.specs.List.{AllByRecursion}
use Rattle.rbac_sets.specs.Named.{row_of}
use Rattle.rbac_sets.specs.declared.row.Row.{Row}
use Rattle.rbac_sets.specs.declared.row.Change.{Change}
use Rattle.rbac_sets.specs.declared.row.Change.TheVariants.{Put, Take}
use Rattle.admin_mgr.specs.RowsAfter.{rows_by, rows_after}
use Rattle.sqlite.specs.declared.error.Error.{Error}
use Rattle.sqlite.specs.declared.error.Error.TheVariants.{SqliteFailure}
use Rattle.sqlite.specs.declared.error.ErrorCode.TheVariants.{TransactionState}
use Rattle.sqlite.specs.Order as sql
use Rattle.sqlite.specs.Effect.{Database}
use Rattle.sqlite.specs.State.{State, Executes, ExecutesInside, KeepsCommit}
use Rattle.sqlite.proofs.InsideLemmas.{inside_keeps}
use Rattle.role_tables.specs.TableByName.{HasNoNull, HoldsRows}
use Rattle.role_tables.specs.OfficeTables.{StoredTable, making, made, places, Rows, is_wanted, HoldsTables}
use Rattle.role_tables.specs.private.Texts.{change_text}
use Rattle.role_tables.specs.StoredState.{stored, cells_of, stored_rows}
use Rattle.role_tables.specs.private.TableChanges.{IsKept, AreKept, TablesAfter, ChangesTables}
use Rattle.role_tables.proofs.OfficeTables.Changes.{puts_row, takes_row}
use Rattle.role_tables.proofs.OfficeTables.Lists.{all_at}
use Rattle.role_tables.proofs.StoredRows.Changes.{put_tables, take_tables}

-- the same rows, table by table
pub holds_same : (want : StoredTable → Bool) (db : Database) (rows others : Rows) → ((table : StoredTable) → rows table ≡ others table) → HoldsTables want db rows → HoldsTables want db others
holds_same want db rows others same held = record {
  sound = held.sound;
  tables = λ table wanted. subst (HoldsRows db (making table).name (made table) (places table)) (same table) (held.tables table wanted);
  solid = λ table. subst (AllByRecursion HasNoNull) (same table) (held.solid table);
}

changed_tables : (old new : State) (change : Change) (count : ℕ) → Executes (change_text change) (cells_of (row_of change)) old new (Ok count) → (version : ℕ) (rows : List Row) → IsKept version change
    → HoldsTables (is_wanted version) old.now (stored_rows version rows) → HoldsTables (is_wanted version) new.now (stored_rows version (rows_by rows change))
changed_tables old new (Put row) count ran version rows wanted held = holds_same (is_wanted version) new.now _ _ (put_tables version row rows) (puts_row (is_wanted version) (stored row) wanted old new count (stored_rows version rows) held ran)
changed_tables old new (Take row) count ran version rows wanted held = holds_same (is_wanted version) new.now _ _ (take_tables version row rows) (takes_row (is_wanted version) (stored row) wanted old new count (stored_rows version rows) held ran)

-- ---- one statement inside a transaction

ok_is_no_error : {count : ℕ} {e : Error} → ◌≡◌ {A = Result ℕ Error} (Ok count) (Err e) → ⊥
ok_is_no_error e = cc

-- what a statement that returned Ok did to the database
pub made_inside : (old new : State) (text : List ℕ) (values : sql.Row) (r : Result ℕ Error) (Made : Type 0) → ((count : ℕ) → Executes text values old new (Ok count) → IsTrue old.is_open → new.in_transaction ≡ old.in_transaction → Made)
    → (old.in_transaction ≡ false → r ≡ Err (SqliteFailure TransactionState)) → (IsTrue old.in_transaction → ExecutesInside 0 text values old new r) → OnOk r Made
made_inside old new text values (Err e) Made makes ended runs = tt
made_inside old new text values (Ok count) Made makes ended runs = elim (cases_Bool old.in_transaction) [
  | inl inside ↦ let h = runs inside in makes count h.0 h.1.was_open (h.1.mode ∙ sym inside)
  | inr outside ↦ absurd (ok_is_no_error (ended outside))
]

-- a statement leaves what was committed
pub kept_inside : (old new : State) (text : List ℕ) (values : sql.Row) (r : Result ℕ Error) → (old.in_transaction ≡ false → KeepsCommit old new) → (IsTrue old.in_transaction → ExecutesInside 0 text values old new r) → KeepsCommit old new
kept_inside old new text values r ended runs = elim (cases_Bool old.in_transaction) [
  | inl inside ↦ inside_keeps old new 0 false text values r (runs inside)
  | inr outside ↦ ended outside
]

pub keeps_itself : (s : State) → KeepsCommit s s
keeps_itself s = record { was_open = λ h. h; committed = λ h. refl }

pub change_made : (old new : State) (change : Change) (count : ℕ) → Executes (change_text change) (cells_of (row_of change)) old new (Ok count) → new.in_transaction ≡ old.in_transaction → ChangesTables old new change
change_made old new change count ran mode = record { rows = changed_tables old new change count ran; mode = mode }

-- ---- one change after the other

pub after_none : (s : State) (changes : List Change) → TablesAfter s s (AreKept changes) (λ rows. rows_after rows (take 0 changes))
after_none s changes = record { rows = λ version rows kept held. held; mode = refl }

pub after_next : (a b c : State) (changes : List Change) (i : ℕ) (change : Change) → i < length changes → change ≡ get_or changes i change → TablesAfter a b (AreKept changes) (λ rows. rows_after rows (take i changes)) → ChangesTables b c change
    → TablesAfter a c (AreKept changes) (λ rows. rows_after rows (take (i + 1) changes))
after_next a b c changes i change low is one two = record {
  rows = λ version rows kept held.
      subst (λ all. HoldsTables (is_wanted version) c.now (stored_rows version all)) (sym (fold_more rows_by rows changes i change low ∙ ap (λ r. rows_by (rows_after rows (take i changes)) r) (sym is)))
      (two.rows version (rows_after rows (take i changes)) (subst (IsKept version) (sym is) (all_at (IsKept version) changes i change low kept)) (one.rows version rows kept held));
  mode = two.mode ∙ one.mode;
}

pub after_all : (a b : State) (changes : List Change) (i : ℕ) → length changes ≡ i → TablesAfter a b (AreKept changes) (λ rows. rows_after rows (take i changes)) → TablesAfter a b (AreKept changes) (λ rows. rows_after rows changes)
after_all a b changes i end h = subst (λ l. TablesAfter a b (AreKept changes) (λ rows. rows_after rows l)) (take_all i changes (omega arith)) h
