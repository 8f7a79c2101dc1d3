-- The rows of a state, in another order.
use Rattle.std.proofs.Common.{◌≡◌, inl, inr, suc, ◌≤◌, List, [], ◌∷◌, length, filter, false, refl, sym, ap, ◌∙◌, arith}
use Rattle.std.specs.List.{list_any}
use Rattle.std.specs.List.Sorted.{IsPermutation}
use Rattle.std.proofs.lemmas.Bool.{cases_Bool, or_parts}
use Rattle.std.proofs.lemmas.List.Sorted.{list_any-IsPermutation, length_permutation}
use Rattle.sqlite_trees.proofs.ListLemmas.{IsPermutation-filter}
use Rattle.rbac_sets.specs.declared.row.Row.{Row}
use Rattle.admin_mgr.specs.RbacState.{RbacState}
use Rattle.admin_mgr.specs.Changes.{same_row}
use Rattle.admin_mgr.specs.RowChecks.{AreRowsOf, OccurOnce}
use Rattle.admin_mgr.proofs.PlanRows.CommitLaws.{same_row-self, same_row-is}

abbrev alike : Row → List Row → List Row
alike row rows = filter (λ other. same_row row other) rows

none_alike : (row : Row) (rows : List Row) → list_any (λ (other : Row). same_row row other) rows ≡ false → alike row rows ≡ []
none_alike row [] none = refl
none_alike row (x ∷ xs) none = let both = or_parts (same_row row x) (list_any (λ (other : Row). same_row row other) xs) none in rw both.0 (none_alike row xs both.1)

alike_none : (row : Row) (rows : List Row) → length (alike row rows) ≡ 0 → list_any (λ (other : Row). same_row row other) rows ≡ false
alike_none row [] none = refl
alike_none row (x ∷ xs) none = elim (cases_Bool (same_row row x)) [
  | inl here ↦ absurd (let e : suc (length (alike row xs)) ≡ 0 = rw here at none in omega (arith, e))
  | inr there ↦ rw there (alike_none row xs (rw there at none))
]

once_few : (rows : List Row) → OccurOnce rows → (row : Row) → length (alike row rows) ≤ 1
once_few [] once row = omega arith
once_few (x ∷ xs) once row = elim (cases_Bool (same_row row x)) [
  | inl here ↦ (
      let is : row ≡ x = sym (same_row-is row x here) in
      let none : length (alike row xs) ≡ 0 = ap (λ r. length (alike r xs)) is ∙ ap length (none_alike x xs once.0) in
      rw here (omega (arith, none)))
  | inr there ↦ rw there (once_few xs once.1 row)
]

few_once : (rows : List Row) → ((row : Row) → length (alike row rows) ≤ 1) → OccurOnce rows
few_once [] few = tt
few_once (x ∷ xs) few = (
  (let one : suc (length (alike x xs)) ≤ 1 = rw (same_row-self x) at (few x) in alike_none x xs (omega (arith, one))),
  few_once xs (λ row. elim (cases_Bool (same_row row x)) [
    | inl here ↦ (let h : suc (length (alike row xs)) ≤ 1 = rw here at (few row) in omega (arith, h))
    | inr there ↦ (let h : length (alike row xs) ≤ 1 = rw there at (few row) in h)
  ]),
)

pub rows_of_same : (S : RbacState) (rows others : List Row) → IsPermutation rows others → AreRowsOf S rows → AreRowsOf S others
rows_of_same S rows others same are = record {
  rows_are = λ row. are.rows_are row ∙ list_any-IsPermutation (λ (other : Row). same_row other row) rows others same;
  once = few_once others (λ row.
      let long : length (alike row others) ≡ length (alike row rows) = length_permutation _ _ (IsPermutation-filter (λ other. same_row row other) rows others same) in
      let few = once_few rows are.once row in
      omega (arith, long, few));
}
