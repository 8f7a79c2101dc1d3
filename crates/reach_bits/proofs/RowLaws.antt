-- Rows of numbers as a graph.
use Rattle.std.proofs.Common.{◌≡◌, ◌≢◌, ◌↔◌, ◌⊎◌, ℕ, zero, suc, ◌/◌, ◌%◌, ◌<◌, ◌≤◌, Bool, false, ◌||◌, List, [], length, get_or, replicate, refl, sym, ◌∙◌, ap, subst, inl, inr, arith}
use Rattle.std.specs.Prelude.{IsTrue, slice_set}
use Rattle.std.specs.Int.{bit_at}
use Rattle.std.proofs.lemmas.Bool.{cases_eq, cases_lt, or_cases, or_left, or_right, true≢false}
use Rattle.std.proofs.lemmas.List.{get_or-set_same, get_or-set_other, get_or_past, length-set}
use Rattle.std.proofs.lemmas.Nat.Bits.{bit_at-zero}
use Rattle.bit_rows.specs.Rows.{has_bit}
use Rattle.bit_rows.proofs.RowLaws.{absent_from_bit, absent_past}
use Rattle.reach_bits.specs.Graph.{Graph, HasEdge, has_edge}
use Rattle.reach_bits.specs.private.Closing.{AreWide}

zeros : (none : ℕ) (count k : ℕ) → get_or (replicate count none) k none ≡ none
zeros none zero k = refl
zeros none (suc count) zero = refl
zeros none (suc count) (suc k) = zeros none count k

pub none_in_zeros : (count n : ℕ) → has_bit (replicate count 0) n ≡ false
none_in_zeros count n = absent_from_bit (replicate count 0) n (ap (λ w. bit_at w (n % 64)) (zeros 0 count (n / 64)) ∙ bit_at-zero (n % 64))

-- a number of a union is in either set
pub either : (x y z : Bool) → z ≡ (x || y) → IsTrue z ↔ (IsTrue x ⊎ IsTrue y)
either x y z is = (λ h. or_cases x y (sym is ∙ h), λ s. elim s [ inl h ↦ is ∙ or_left x y h | inr h ↦ is ∙ or_right x y h ])

-- a number was put into a set
pub put_is : (new old : ℕ → Bool) (number : ℕ) → IsTrue (new number) → ((n : ℕ) → n ≢ number → new n ≡ old n) → (n : ℕ) → IsTrue (new n) ↔ (IsTrue (old n) ⊎ (n ≡ number))
put_is new old number there others n = elim (cases_eq n number) [
  | inl same ↦ (λ h. inr same, λ s. ap new same ∙ there)
  | inr other ↦ (
    λ h. inl (sym (others n other) ∙ h),
    λ s. elim s [ inl h ↦ others n other ∙ h | inr same ↦ absurd (other same) ],
  )
]

-- a number was taken out of a set
pub take_is : (new old : ℕ → Bool) (number : ℕ) → new number ≡ false → ((n : ℕ) → n ≢ number → new n ≡ old n) → (n : ℕ) → IsTrue (new n) ↔ (IsTrue (old n) × (n ≢ number))
take_is new old number gone others n = elim (cases_eq n number) [
  | inl same ↦ (λ h. absurd (true≢false (sym h ∙ ap new same ∙ gone)), λ s. absurd (s.1 same))
  | inr other ↦ (λ h. (sym (others n other) ∙ h, other), λ s. others n other ∙ s.0)
]

-- ---- rows of a graph

-- a number without a row has no edges
pub past_rows : (rows : Graph) (a b : ℕ) → length rows ≤ a → has_edge rows a b ≡ false
past_rows rows a b past = ap (λ (row : List ℕ). has_bit row b) (get_or_past rows a [] past) ∙ absent_past [] b (omega arith)

pub has_row : (rows : Graph) (a b : ℕ) → HasEdge rows a b → a < length rows
has_row rows a b h = elim (cases_lt a (length rows)) [ inl below ↦ below | inr past ↦ absurd (true≢false (sym h ∙ past_rows rows a b past)) ]

-- a row is written
pub at_written : (rows : Graph) (a : ℕ) (row : List ℕ) → a < length rows → (x : ℕ) → x ≡ a → get_or (slice_set rows a row) x [] ≡ row
at_written rows a row inside x same = ap (λ k. get_or (slice_set rows a row) k []) same ∙ get_or-set_same rows a row [] inside

pub edge_written : (rows : Graph) (a : ℕ) (row : List ℕ) → a < length rows → (x b : ℕ) → x ≡ a → has_edge (slice_set rows a row) x b ≡ has_bit row b
edge_written rows a row inside x b same = ap (λ (r : List ℕ). has_bit r b) (at_written rows a row inside x same)

pub edge_kept : (rows : Graph) (a : ℕ) (row : List ℕ) (x b : ℕ) → x ≢ a → has_edge (slice_set rows a row) x b ≡ has_edge rows x b
edge_kept rows a row x b other = ap (λ (r : List ℕ). has_bit r b) (get_or-set_other rows a x row [] other)

pub wide_written : (words : ℕ) (rows : Graph) (a : ℕ) (row : List ℕ) → length row ≡ words → AreWide words rows → AreWide words (slice_set rows a row)
wide_written words rows a row size wide = record {
  count = length-set rows a row ∙ wide.count;
  width = λ n below.
      let low : n < length rows = omega (arith, below, length-set rows a row) in
      elim (cases_eq n a) [
        | inl same ↦ ap length (at_written rows a row (omega (arith, low, same)) n same) ∙ size
        | inr other ↦ ap length (get_or-set_other rows a n row [] other) ∙ wide.width n low
      ];
}

pub wide_at : (words other : ℕ) (rows : Graph) → words ≡ other → AreWide words rows → AreWide other rows
wide_at words other rows same wide = subst (λ (w : ℕ). AreWide w rows) same wide

-- ---- an edge is added or removed

module _ (edges : Graph) (a b : ℕ) (row : List ℕ) (inside : a < length edges) where
  pub edges_added : IsTrue (has_bit row b) → ((n : ℕ) → n ≢ b → has_bit row n ≡ has_edge edges a n)
      → (x y : ℕ) → HasEdge (slice_set edges a row) x y ↔ (HasEdge edges x y ⊎ ((x ≡ a) × (y ≡ b)))
  edges_added there others x y = elim (cases_eq x a) [
    | inl same ↦
        let at = edge_written edges a row inside x y same in
        let put = put_is (has_bit row) (has_edge edges a) b there others y in
        let from : has_edge edges a y ≡ has_edge edges x y = ap (λ k. has_edge edges k y) (sym same) in (
          λ h. elim (put.0 (sym at ∙ h)) [ inl old ↦ inl (sym from ∙ old) | inr end ↦ inr (same, end) ],
          λ s. elim s [ inl old ↦ at ∙ put.1 (inl (from ∙ old)) | inr new ↦ at ∙ put.1 (inr new.1) ],
        )
    | inr other ↦ (
      λ h. inl (sym (edge_kept edges a row x y other) ∙ h),
      λ s. elim s [ inl old ↦ edge_kept edges a row x y other ∙ old | inr new ↦ absurd (other new.0) ],
    )
  ]

  pub edges_removed : has_bit row b ≡ false → ((n : ℕ) → n ≢ b → has_bit row n ≡ has_edge edges a n)
      → (x y : ℕ) → HasEdge (slice_set edges a row) x y ↔ (HasEdge edges x y × ((x ≡ a) × (y ≡ b) → ⊥))
  edges_removed gone others x y = elim (cases_eq x a) [
    | inl same ↦
        let at = edge_written edges a row inside x y same in
        let taken = take_is (has_bit row) (has_edge edges a) b gone others y in
        let from : has_edge edges a y ≡ has_edge edges x y = ap (λ k. has_edge edges k y) (sym same) in (
          λ h. let left = taken.0 (sym at ∙ h) in (sym from ∙ left.0, λ removed. left.1 removed.1),
          λ s. at ∙ taken.1 (from ∙ s.0, λ end. s.1 (same, end)),
        )
    | inr other ↦ (
      λ h. (sym (edge_kept edges a row x y other) ∙ h, λ removed. other removed.0),
      λ s. edge_kept edges a row x y other ∙ s.0,
    )
  ]
