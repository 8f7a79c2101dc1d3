-- What a transaction leaves, and what the changes of a plan do to a database that holds a state.
use Rattle.std.proofs.Common.{◌≡◌, ℕ, List, [], ◌∷◌, inl, inr, true, false, not, ◌&&◌, Ok, Err, Result, OnOk, OnErr, IfErr, IsTrue, refl, sym, ap, subst, ◌∙◌, arith}
use Rattle.std.specs.Prelude.{nat_eq}
use Rattle.std.proofs.lemmas.Bool.{cases_Bool, or_right, or_left, eqb-true}
use Rattle.rbac_sets.specs.Sets.{name_cmp}
use Rattle.rbac_sets.proofs.SetLaws.{contains-empty}
use Rattle.rbac_sets.specs.declared.row.Row.{Row}
use Rattle.rbac_sets.specs.declared.row.Row.TheVariants.{NameRow, PairRow, GrantRow, SetRow, LockedRow}
use Rattle.rbac_sets.specs.declared.row.Change.{Change}
use Rattle.rbac_sets.specs.declared.row.Change.TheVariants.{Put, Take}
use Rattle.admin_mgr.specs.RbacState.{RbacState}
use Rattle.admin_mgr.specs.Rows.{has_row}
use Rattle.admin_mgr.specs.Changes as change
use Rattle.admin_mgr.specs.Good.{IsGood}
use Rattle.admin_mgr.specs.RowsAfter.{rows_after}
use Rattle.admin_mgr.proofs.PlanRows.CommitLaws.{same_row-self}
use Rattle.admin_mgr.proofs.PlanRows.RowsAfterLaws.{rows_follow}
use Rattle.sqlite.specs.State.{State, HasCleanDisk, Survives, Shows, KeepsCounts, KeepsCommit}
use Rattle.sqlite.specs.Steps.{FailsToCommit}
use Rattle.sqlite.specs.Held.{Held, state}
use Rattle.sqlite.specs.declared.error.Error.{Error}
use Rattle.sqlite.specs.Effect.{Database}
use Rattle.sqlite.specs.Tree.{Trees}
use Rattle.sqlite_trees.specs.declared.store.Store.{Ghosts}
use Rattle.sqlite.proofs.StateLemmas.{survives_then}
use Rattle.sqlite.proofs.Callers.{survives_begin}
use Rattle.role_tables.specs.OfficeTables.{HoldsTables, table_of, is_wanted}
use Rattle.role_tables.specs.StoredState.{stored, stored_rows, HoldsState}
use Rattle.role_tables.specs.Durability.{HoldsDurably, HoldsAsBefore}
use Rattle.role_tables.specs.private.Transactions.{Transacts}
use Rattle.role_tables.specs.private.TableChanges.{AreKept, TablesAfter}

-- ---- a transaction

module _ {S : Type 0} (g : Ghosts S) (old : Held S) (mid end : State) (Is : Database → Type 0) (inside : Survives (state g (record old { in_transaction = true })) mid (λ _. ⊥))
    (still : IsTrue (state g old).is_open → (state g old).now ≡ (state g old).committed) where
  -- one that reached its commit
  pub transaction_ended : (r : Result (Unit {0}) Error) → HasCleanDisk end → (HasCleanDisk mid → KeepsCommit (state g (record old { in_transaction = true })) mid) → Is mid.now
      → ((trees : Trees) → IsTrue end.is_open → end.may_leave trees → trees ≡ end.committed.trees)
      → OnOk r (IsTrue mid.in_transaction × Shows mid end mid.now mid.now false × KeepsCounts mid end × (end.marks ≡ [])) → IfErr r (FailsToCommit mid end) → IsTrue mid.in_transaction
      → Survives mid end (λ db. db ≡ mid.now.trees) → Transacts (state g old) end Is r
  transaction_ended r clean kept held settled ok err began after = record {
    done = stands r ok;
    undone = undoes r err;
    left = λ trees may. elim (whole.crash clean trees may) [ inl before ↦ inl before | inr is ↦ inr (mid.now, is, held) ];
  }
    where
      whole : Survives (state g old) end (λ db. db ≡ mid.now.trees)
      whole = survives_then (state g old) mid end (λ _. ⊥) (λ db. db ≡ mid.now.trees) (λ db. db ≡ mid.now.trees) (λ _ db none. absurd none) (λ _ db is. is) (survives_begin g old mid (λ _. ⊥) inside) after

      stands : (r : Result (Unit {0}) Error) → OnOk r (IsTrue mid.in_transaction × Shows mid end mid.now mid.now false × KeepsCounts mid end × (end.marks ≡ [])) → OnOk r (HoldsDurably end Is)
      stands (Err e) ok = tt
      stands (Ok u) ok = let shows = ok.1 in record {
        is_open = shows.is_open;
        autocommit = shows.mode;
        held = subst Is (sym shows.now_is) held;
        left = λ trees may. (mid.now, settled trees shows.is_open may ∙ ap (λ (db : Database). db.trees) shows.committed_is, held);
      }

      undoes : (r : Result (Unit {0}) Error) → IfErr r (FailsToCommit mid end) → OnErr r (HoldsAsBefore (state g old) end)
      undoes (Ok u) err = tt
      undoes (Err e) (inl fails) = λ is_open.
          let was : HasCleanDisk mid = omega (arith, clean, after.clean) in
          let undone = fails.3 in
          let back = undone.undone is_open in
          let was_open = undone.was_open is_open in
          back.0 ∙ (kept was).committed was_open ∙ sym (still ((kept was).was_open was_open))
      undoes (Err e) (inr outside) = absurd (let no = sym began ∙ outside.1 in cc)

-- ---- the changes of a plan

abbrev IsKnown : ℕ → Row → Type 0
IsKnown version row = IsTrue (is_wanted version (table_of (stored row)))

-- each row of a good state has a table in its version
pub known_row : (S : RbacState) → IsGood S → (row : Row) → IsTrue (has_row S row) → IsKnown S.version row
unfolding has_row
known_row S good (NameRow kind a) has = refl
known_row S good (PairRow kind a b) has = refl
known_row S good (GrantRow a b c) has = refl
known_row S good (SetRow kind a n) has = refl
known_row S good (LockedRow a) has = elim (cases_Bool (nat_eq S.version 1)) [
  | inl one ↦ absurd (let none = good.no_locks (eqb-true S.version 1 one) in let h = rw none at has in let e = contains-empty name_cmp a in cc)
  | inr other ↦ rw other refl
]

all_kept : (version : ℕ) (changes : List Change) → ((row : Row) → IsTrue (change.is_put changes row) → IsKnown version row) → ((row : Row) → IsTrue (change.is_taken changes row) → IsKnown version row) → AreKept changes version
unfolding change.is_put change.is_taken
all_kept version [] puts takes = tt
all_kept version (Put row ∷ changes) puts takes =
    (puts row (or_left (change.same_row row row) _ (same_row-self row)), all_kept version changes (λ r h. puts r (or_right (change.same_row row r) _ h)) takes)
all_kept version (Take row ∷ changes) puts takes =
    (takes row (or_left (change.same_row row row) _ (same_row-self row)), all_kept version changes puts (λ r h. takes r (or_right (change.same_row row r) _ h)))

turns_kept : (S T : RbacState) (changes : List Change) → IsGood S → IsGood T → change.Turns S changes T → AreKept changes S.version
turns_kept S T changes good_S good_T turns =
    all_kept S.version changes
    (λ row put. subst (λ v. IsKnown v row) (sym turns.version) (known_row T good_T row (turns.rows row ∙ or_right (has_row S row && not (change.is_taken changes row)) _ put)))
    (λ row taken. known_row S good_S row (turns.there row taken))

pub state_after : (old new : State) (S T : RbacState) (changes : List Change) → IsGood S → IsGood T → change.Turns S changes T → TablesAfter old new (AreKept changes) (λ rows. rows_after rows changes) → HoldsState old.now S → HoldsState new.now T
state_after old new S T changes good_S good_T turns after held = record {
  rows = rows_after held.rows changes;
  rows_are = rows_follow S T changes held.rows turns held.rows_are;
  tables = subst (λ v. HoldsTables (is_wanted v) new.now (stored_rows v (rows_after held.rows changes))) turns.version (after.rows S.version held.rows (turns_kept S T changes good_S good_T turns) held.tables);
}
