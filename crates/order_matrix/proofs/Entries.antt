-- The entries of a matrix.
use Rattle.std.proofs.Common.{◌≡◌, ◌<◌, ◌≤◌, max, ℕ, inl, inr, false, Bool, List, [], length, get_or, map, ap, ◌∙◌, arith}
use Rattle.std.proofs.lemmas.Bool.{cases_lt}
use Rattle.std.proofs.lemmas.List.{get_or-map, get_or_past, length-map}
use Rattle.std.proofs.lemmas.Option.{slice_get_within, get_or_from_slice_get}
use Rattle.rbac_sets.specs.Sets.{Bytes, Pairs}
use Rattle.role_order.specs.Order.{geq}
use Rattle.order_matrix.specs.Table.{MatchesOrder, table_of, entry}

module _ (edges : Pairs) (roles : List Bytes) where
  abbrev row_of : Bytes → List Bool
  row_of above = map (λ (below : Bytes). geq edges above below) roles

  pub rows_count : length (table_of edges roles) ≡ length roles
  rows_count = length-map roles row_of

  -- the entry at the numbers of two roles
  pub entry_in : (i j : ℕ) → i < length roles → j < length roles → entry (table_of edges roles) i j ≡ geq edges (get_or roles i []) (get_or roles j [])
  entry_in i j i_in j_in = ap (λ (entries : List Bool). get_or entries j false) (get_or-map row_of roles i [] [] i_in) ∙ get_or-map (λ (b : Bytes). geq edges (get_or roles i []) b) roles j [] false j_in

  -- there is none at other numbers
  pub no_entry : (i j : ℕ) → length roles ≤ max i j → entry (table_of edges roles) i j ≡ false
  no_entry i j past = elim (cases_lt i (length roles)) [
    | inr i_past ↦
        let no_row : length (table_of edges roles) ≤ i = omega (arith, i_past, rows_count) in
        ap (λ (entries : List Bool). get_or entries j false) (get_or_past (table_of edges roles) i [] no_row) ∙ get_or_past [] j false (omega arith)
    | inl i_in ↦
        let row : List Bool = row_of (get_or roles i []) in
        let width : length row ≡ length roles = length-map roles (λ (b : Bytes). geq edges (get_or roles i []) b) in
        ap (λ (entries : List Bool). get_or entries j false) (get_or-map row_of roles i [] [] i_in) ∙ get_or_past row j false (omega (arith, past, i_in, width))
  ]

-- the matrix of the roles has their order
pub matches-table_of : (edges : Pairs) (roles : List Bytes) → MatchesOrder edges roles (table_of edges roles)
matches-table_of edges roles i j above below at_i at_j =
    entry_in edges roles i j (slice_get_within roles i above at_i) (slice_get_within roles j below at_j)
    ∙ (λ k. geq edges (get_or_from_slice_get roles i above [] at_i k) (get_or_from_slice_get roles j below [] at_j k))
