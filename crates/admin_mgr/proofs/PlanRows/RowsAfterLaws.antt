-- The effect of changes on a list of a state's rows.
use Rattle.std.proofs.Common.{◌≡◌, Bool, true, false, not, ◌&&◌, ◌||◌, List, [], ◌∷◌, refl, sym, ap, subst, ◌∙◌}
use Rattle.std.specs.Prelude.{IsTrue}
use Rattle.std.specs.List.{list_any}
use Rattle.std.proofs.lemmas.Bool.{or_parts, false_from_ne_true, true≢false}
use Rattle.std.proofs.lemmas.Map.Views.{any-filter_same}
use Rattle.rbac_sets.specs.declared.row.Row.{Row}
use Rattle.rbac_sets.specs.declared.row.Change.{Change}
use Rattle.rbac_sets.specs.declared.row.Change.TheVariants.{Put, Take}
use Rattle.admin_mgr.specs.Changes.{same_row, is_put, is_taken, IsOnce, TakesFirst}
use Rattle.admin_mgr.specs.RowChecks.{OccurOnce}
use Rattle.admin_mgr.specs.StoredSets.{is_among}
use Rattle.admin_mgr.specs.RowsAfter.{rows_by, rows_after, RowsFollow}
use Rattle.admin_mgr.proofs.PlanRows.CommitLaws.{same_row-self, same_row-is}

-- ---- which rows are in the list afterwards

-- the rows after one is removed
among_less : (row other : Row) (rows : List Row) → is_among (rows_by rows (Take row)) other ≡ (not (same_row row other) && is_among rows other)
among_less row other rows =
    any-filter_same (λ r. same_row r other) (λ r. not (same_row row r)) (not (same_row row other)) (λ r same. ap (λ s. not (same_row row s)) (sym (same_row-is r other same))) rows

-- a row is removed, and then others are
take_first : (among same taken put : Bool) → (((not same && among) && not taken) || put) ≡ ((among && not (same || taken)) || put)
take_first true true taken put = refl
take_first false true taken put = refl
take_first among false taken put = refl

-- a row is inserted, and none is removed later
put_first : (among same taken put : Bool) → taken ≡ false → (((same || among) && not taken) || put) ≡ ((among && not taken) || (same || put))
put_first among same true put none = absurd (true≢false none)
put_first among false false put none = refl
put_first true true false put none = refl
put_first false true false put none = refl

-- a row is in the list after the changes exactly if it was and isn't removed, or is inserted
among_after : (changes : List Change) (rows : List Row) (row : Row) → TakesFirst changes → is_among (rows_after rows changes) row ≡ ((is_among rows row && not (is_taken changes row)) || is_put changes row)
unfolding is_taken is_put
among_after [] rows row takes = by (is_among rows row)
  where
    by : (b : Bool) → b ≡ ((b && true) || false)
    by true = refl
    by false = refl
among_after (Take first ∷ changes) rows row takes =
    among_after changes (rows_by rows (Take first)) row takes
    ∙ ap (λ b. (b && not (is_taken changes row)) || is_put changes row) (among_less first row rows)
    ∙ take_first (is_among rows row) (same_row first row) (is_taken changes row) (is_put changes row)
among_after (Put first ∷ changes) rows row takes =
    among_after changes (first ∷ rows) row takes.1
    ∙ put_first (is_among rows row) (same_row first row) (is_taken changes row) (is_put changes row) (takes.0 row)

-- ---- each row is in the list once

neither : (b : Bool) → (b && false) ≡ false
neither true = refl
neither false = refl

-- without one row, the others occur once
once_less : (row : Row) (rows : List Row) → OccurOnce rows → OccurOnce (rows_by rows (Take row))
once_less row [] once = tt
once_less row (first ∷ rows) once = by (same_row row first) refl (once_less row rows once.1)
  where
    fewer : list_any (λ other. same_row first other) (rows_by rows (Take row)) ≡ false
    fewer =
        any-filter_same (λ other. same_row first other) (λ r. not (same_row row r)) (not (same_row row first)) (λ r same. ap (λ s. not (same_row row s)) (same_row-is first r same)) rows
        ∙ ap (λ b. not (same_row row first) && b) once.0
        ∙ neither (not (same_row row first))

    by : (b : Bool) → same_row row first ≡ b → OccurOnce (rows_by rows (Take row)) → OccurOnce (rows_by (first ∷ rows) (Take row))
    by true is less = rw is less
    by false is less = rw is (fewer, less)

-- a row that isn't in the list is the same as none of its rows
same_as_none : (row : Row) (rows : List Row) → is_among rows row ≡ false → list_any (λ other. same_row row other) rows ≡ false
same_as_none row [] none = refl
same_as_none row (first ∷ rows) none =
    let both = or_parts (same_row first row) (is_among rows row) none in
    λ i. false_from_ne_true (same_row row first) (λ same. true≢false (sym (same_row-self row) ∙ ap (λ r. same_row r row) (sym (same_row-is row first same)) ∙ both.0)) i
    || same_as_none row rows both.1 i

-- changes that insert absent rows, each once, leave each row occurring once
once_after : (changes : List Change) (rows : List Row) → IsOnce changes → ((row : Row) → IsTrue (is_put changes row) → is_among rows row ≡ false) → OccurOnce rows → OccurOnce (rows_after rows changes)
unfolding is_put
once_after [] rows singly absent once = once
once_after (Take row ∷ changes) rows singly absent once =
    once_after changes (rows_by rows (Take row)) singly.1
    (λ other put. among_less row other rows ∙ ap (λ b. not (same_row row other) && b) (absent other put) ∙ neither (not (same_row row other))) (once_less row rows once)
once_after (Put row ∷ changes) rows singly absent once =
    once_after changes (row ∷ rows) singly.1 (λ other put. fresh other put (same_row row other) refl) (same_as_none row rows (absent row (rw (same_row-self row) refl)), once)
  where
    fresh : (other : Row) → IsTrue (is_put changes other) → (b : Bool) → same_row row other ≡ b → (b || is_among rows other) ≡ false
    fresh other put false is = absent other (rw is put)
    fresh other put true is = absurd (true≢false (sym (subst (λ r. IsTrue (is_put changes r)) (same_row-is row other is) put) ∙ singly.0))

-- ---- the law

-- the rows after the changes are those of the state that they lead to
pub rows_follow : RowsFollow
rows_follow S T changes rows turns are = record {
  rows_are = λ row. turns.rows row ∙ ap (λ b. (b && not (is_taken changes row)) || is_put changes row) (are.rows_are row) ∙ sym (among_after changes rows row turns.takes_first);
  once = once_after changes rows turns.once (λ row put. sym (are.rows_are row) ∙ turns.absent row put) are.once;
}
