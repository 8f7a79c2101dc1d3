-- From the tables of version 1 to those of version 2.
use Rattle.std.proofs.Common.{None, ◌≡◌, ℕ, List, [], ◌∷◌, map, filter, true, false, Ok, refl, sym, ap, subst, ◌∙◌, codes}
use Rattle.std.proofs.lemmas.Bool.{and_parts, or_left, true≢false}
use Rattle.std.proofs.lemmas.Cmp.{tied_itself}
use Rattle.std.specs.Cmp.{Equal-is}
use Rattle.rbac_sets.specs.Sets.{contains, empty, name_cmp}
use Rattle.rbac_sets.proofs.SetLaws.{contains-empty}
use Rattle.rbac_sets.specs.declared.row.Row.{Row}
use Rattle.rbac_sets.specs.declared.row.Row.TheVariants.{NameRow, PairRow, GrantRow, SetRow, LockedRow}
use Rattle.admin_mgr.specs.RbacState.{RbacState}
use Rattle.admin_mgr.specs.Rows.{has_row}
use Rattle.admin_mgr.specs.Changes as change
use Rattle.admin_mgr.specs.StoredSets.{is_among}
use Rattle.admin_mgr.specs.Good.{IsGood}
use Rattle.admin_mgr.specs.OfficeRun.{migrated_to_version_2}
use Rattle.admin_mgr.proofs.PlanRows.CommitLaws.{same_row-self}
use Rattle.sqlite.specs.Order as sql
use Rattle.sqlite.specs.Order.{row_cmp}
use Rattle.sqlite_value.proofs.OrderLemmas.{row_cmp_total}
use Rattle.sqlite.specs.Effect.{Database}
use Rattle.sqlite.specs.State.{State, Executes}
use Rattle.role_tables.specs.TableByName.{is_referred}
use Rattle.role_tables.specs.private.NamedTables.{same_row, without_row, changed_at}
use Rattle.sqlite_schema.specs.Names.{table_named}
use Rattle.role_tables.specs.OfficeTables.{StoredTable, Meta, Names, Pairs, Grants, Sets, Locks, making, Rows, meta_row, cells, is_wanted, HoldsTables}
use Rattle.role_tables.specs.private.Texts.{delete_text}
use Rattle.role_tables.specs.StoredState.{is_of, cells_of, stored_rows, HoldsState}
use Rattle.role_tables.specs.SchemaTests.{is_free, may_count}
use Rattle.role_tables.specs.private.CreationSteps.{with_table, IsStage, StageAfter, InsertsVersion}
use Rattle.role_tables.specs.Migration.{may_lock}
use Rattle.role_tables.specs.private.Transactions.{DeletesVersion}
use Rattle.role_tables.proofs.OfficeTables.Changes.{takes_row}
use Rattle.role_tables.proofs.StoredRows.Texts.{holds_same}
use Rattle.role_tables.proofs.OfficeTables.Looking.{free_parts, counts}
use Rattle.role_tables.proofs.OfficeTables.EmptyOffice.{holds_wanted}

pub version_taken : (version : ℕ) (old new : State) (count : ℕ) → Executes (delete_text Meta) (cells (meta_row (codes "rbac") version)) old new (Ok count) → new.in_transaction ≡ old.in_transaction → DeletesVersion version old new
version_taken version old new count ran mode = record {
  taken = λ want rows wanted held. takes_row want (meta_row (codes "rbac") version) wanted old new count rows held ran;
  mode = mode;
}

-- ---- the rows are those of the state in version 2 too

same_rows : (S : RbacState) → S.locked ≡ empty → (row : Row) → has_row (migrated_to_version_2 S) row ≡ has_row S row
unfolding has_row
same_rows S none (NameRow kind a) = refl
same_rows S none (PairRow kind a b) = refl
same_rows S none (GrantRow a b c) = refl
same_rows S none (SetRow kind a n) = refl
same_rows S none (LockedRow a) = ap (λ s. contains s a) (sym none)

-- a state without locks has no row in the table of locks
no_locks : (rows : List Row) → ((a : List ℕ) → is_among rows (LockedRow a) ≡ false) → map cells_of (filter (is_of Locks) rows) ≡ []
no_locks [] none = refl
no_locks (NameRow kind a ∷ rows) none = no_locks rows none
no_locks (PairRow kind a b ∷ rows) none = no_locks rows none
no_locks (GrantRow a b c ∷ rows) none = no_locks rows none
no_locks (SetRow kind a n ∷ rows) none = no_locks rows none
no_locks (LockedRow a ∷ rows) none = absurd (true≢false (sym (or_left (change.same_row (LockedRow a) (LockedRow a)) (is_among rows (LockedRow a)) (same_row-self (LockedRow a))) ∙ none a))

no_metas : (rows : List Row) → map cells_of (filter (is_of Meta) rows) ≡ []
no_metas [] = refl
no_metas (NameRow kind a ∷ rows) = no_metas rows
no_metas (PairRow kind a b ∷ rows) = no_metas rows
no_metas (GrantRow a b c ∷ rows) = no_metas rows
no_metas (SetRow kind a n ∷ rows) = no_metas rows
no_metas (LockedRow a ∷ rows) = no_metas rows

alone : (row : sql.Row) → without_row row (row ∷ []) ≡ []
alone row = let same : same_row row row ≡ true = (Equal-is (row_cmp row row)).1 (tied_itself row_cmp_total row) in rw same refl

abbrev one : sql.Row
one = cells (meta_row (codes "rbac") 1)

abbrev two : sql.Row
two = cells (meta_row (codes "rbac") 2)

moved_rows : (rows : List Row) (kind : StoredTable) → changed_at Meta (λ all. two ∷ all) (changed_at Meta (without_row one) (stored_rows 1 rows)) kind ≡ stored_rows 2 rows kind
moved_rows rows Meta = ap (λ l. two ∷ without_row one (one ∷ l)) (no_metas rows) ∙ ap (λ l. two ∷ l) (alone one) ∙ ap (λ l. two ∷ l) (sym (no_metas rows))
moved_rows rows Names = refl
moved_rows rows Pairs = refl
moved_rows rows Grants = refl
moved_rows rows Sets = refl
moved_rows rows Locks = refl

all_wanted : (kind : StoredTable) → with_table Locks (is_wanted 1) kind ≡ is_wanted 2 kind
all_wanted Meta = refl
all_wanted Names = refl
all_wanted Pairs = refl
all_wanted Grants = refl
all_wanted Sets = refl
all_wanted Locks = refl

version_2_stage : (db : Database) (rows : Rows) → may_lock db.schema ≡ true → HoldsTables (is_wanted 1) db rows → IsStage 2 (is_wanted 1) db rows
version_2_stage db rows may held =
    let both = and_parts (is_free db.schema (codes "locked_row")) (may_count db.schema) may in
    let locks = free_parts db.schema (codes "locked_row") both.0 in
    record {
      held = held;
      unnamed = λ kind w fresh. go kind fresh locks.0;
      unreferred = λ kind w. free kind locks.1;
      counted = counts db.schema both.1;
    }
  where
    go : (kind : StoredTable) → is_wanted 1 kind ≡ false → table_named db.schema (codes "locked_row") ≡ None → table_named db.schema (making kind).name ≡ None
    go Meta fresh new = absurd (cc)
    go Names fresh new = absurd (cc)
    go Pairs fresh new = absurd (cc)
    go Grants fresh new = absurd (cc)
    go Sets fresh new = absurd (cc)
    go Locks fresh new = new

    free : (kind : StoredTable) → is_referred db.schema (codes "locked_row") ≡ false → is_referred db.schema (making kind).name ≡ false
    free Meta new = (held.tables Meta refl).unreferenced
    free Names new = (held.tables Names refl).unreferenced
    free Pairs new = (held.tables Pairs refl).unreferenced
    free Grants new = (held.tables Grants refl).unreferenced
    free Sets new = (held.tables Sets refl).unreferenced
    free Locks new = new

lock_row : (S : RbacState) (x : List ℕ) → has_row S (LockedRow x) ≡ contains S.locked x
unfolding has_row
lock_row S x = refl

-- the tables hold the state in version 2 once the table of locks is created and the version is changed
pub migrated : (old a b new : State) → StageAfter old a (Locks ∷ []) → DeletesVersion 1 a b → InsertsVersion 2 b new → (S : RbacState) → S.version ≡ 1 → IsGood S → may_lock old.now.schema ≡ true → HoldsState old.now S → HoldsState new.now (migrated_to_version_2 S)
migrated old a b new made taken put S first good may held =
    let none = good.no_locks first in
    let stored_in : HoldsTables (is_wanted 1) old.now (stored_rows 1 held.rows) = subst (λ v. HoldsTables (is_wanted v) old.now (stored_rows v held.rows)) first held.tables in
    let unlocked : stored_rows 1 held.rows Locks ≡ [] = no_locks held.rows (λ x. sym (held.rows_are.rows_are (LockedRow x)) ∙ lock_row S x ∙ ap (λ s. contains s x) none ∙ contains-empty name_cmp x) in
    let stage = made.stage 2 (is_wanted 1) (stored_rows 1 held.rows) (refl, refl, unlocked, tt) (version_2_stage old.now (stored_rows 1 held.rows) may stored_in) in
    let bare = taken.taken (with_table Locks (is_wanted 1)) (stored_rows 1 held.rows) refl stage.held in
    record {
      rows = held.rows;
      rows_are = record { rows_are = λ row. same_rows S none row ∙ held.rows_are.rows_are row; once = held.rows_are.once };
      tables = holds_same (is_wanted 2) new.now _ _ (moved_rows held.rows)
          (holds_wanted (with_table Locks (is_wanted 1)) (is_wanted 2) new.now _ all_wanted (put.put (with_table Locks (is_wanted 1)) _ refl bare));
    }
