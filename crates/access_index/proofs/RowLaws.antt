-- What one change of a row does to the facts that the index keeps.
use Rattle.std.proofs.Common.{◌≡◌, ◌≢◌, ℕ, Bool, true, false, not, ◌&&◌, ◌||◌, inl, inr, refl, sym, ◌∙◌, ap}
use Rattle.std.specs.Prelude.{IsTrue}
use Rattle.std.proofs.lemmas.Bool.{false_from_ne_true, or_right, cases_Bool}
use Rattle.rbac_sets.specs.Sets.{Bytes, Pair}
use Rattle.rbac_sets.specs.declared.row.Row.{Row}
use Rattle.rbac_sets.specs.declared.row.Row.TheVariants.{PairRow, GrantRow}
use Rattle.rbac_sets.specs.declared.row.Change.TheVariants.{Put, Take}
use Rattle.admin_mgr.specs.Changes.{same_row}
use Rattle.admin_mgr.proofs.PlanRows.CommitLaws.{same_row-self, same_row-is}
use Rattle.access_index.specs.Index.{Rows}
use Rattle.access_index.specs.private.Changing.{rows_by}

pub or_false : (b : Bool) → (b || false) ≡ b
or_false true = refl
or_false false = refl

pub and_true : (b : Bool) → (b && true) ≡ b
and_true true = refl
and_true false = refl

pub and_false : (b : Bool) → (b && false) ≡ false
and_false true = refl
and_false false = refl

module _ (rows : Rows) (row : Row) where
  -- the row itself
  pub put_here : IsTrue ((rows_by rows (Put row)).stored row)
  put_here = or_right (rows.stored row) (same_row row row) (same_row-self row)

  pub taken_here : (rows_by rows (Take row)).stored row ≡ false
  taken_here = ap (λ b. rows.stored row && not b) (same_row-self row) ∙ and_false (rows.stored row)

  module _ (other : Row) where
    -- a row that the test tells from it
    pub put_apart : same_row row other ≡ false → (rows_by rows (Put row)).stored other ≡ rows.stored other
    put_apart apart = ap (λ b. rows.stored other || b) apart ∙ or_false (rows.stored other)

    pub taken_apart : same_row row other ≡ false → (rows_by rows (Take row)).stored other ≡ rows.stored other
    taken_apart apart = ap (λ b. rows.stored other && not b) apart ∙ and_true (rows.stored other)

    -- another row
    apart : other ≢ row → same_row row other ≡ false
    apart differ = false_from_ne_true (same_row row other) (λ same. differ (same_row-is row other same))

    pub put_other : other ≢ row → (rows_by rows (Put row)).stored other ≡ rows.stored other
    put_other differ = put_apart (apart differ)

    pub taken_other : other ≢ row → (rows_by rows (Take row)).stored other ≡ rows.stored other
    taken_other differ = taken_apart (apart differ)

-- a row that isn't there is taken, which changes nothing
pub taken_absent : (rows : Rows) (row : Row) → rows.stored row ≡ false → (other : Row) → (rows_by rows (Take row)).stored other ≡ rows.stored other
taken_absent rows row absent other = elim (cases_Bool (same_row row other)) [
  | inl same ↦
      let is : rows.stored other ≡ false = ap rows.stored (same_row-is row other same) ∙ absent in
      ap (λ b. b && not (same_row row other)) is ∙ sym is
  | inr differ ↦ taken_apart rows row other differ
]

-- pairs of one kind, and grants, differ by their names
pub pair_differs : (kind : ℕ) (a b x y : Bytes) → (x ≡ a → y ≢ b) → PairRow kind x y ≢ PairRow kind a b
pair_differs kind a b x y differ same = let first : x ≡ a = cc in let second : y ≡ b = cc in differ first second

pub grant_differs : (p : Pair) (b : Bytes) (q : Pair) (y : Bytes) → (q ≡ p → y ≢ b) → GrantRow q.0 q.1 y ≢ GrantRow p.0 p.1 b
grant_differs p b q y differ same =
    let first : q.0 ≡ p.0 = cc in
    let second : q.1 ≡ p.1 = cc in
    let third : y ≡ b = cc in
    differ (λ i. (first i, second i)) third
