-- A conjunction of words is not zero exactly if the words have a bit in common.
use Rattle.std.proofs.Common.{◌≡◌, ℕ, zero, suc, ◌-◌, ◌<◌, ◌^◌, ◌↔◌, ◌&&◌, ◌||◌, not, refl, sym, ◌∙◌, ap, inl, inr, arith, w64}
use Rattle.std.specs.Prelude.{IsTrue, nat_eq, min, max}
use Rattle.std.proofs.lemmas.Nat.{and_le_l}
use Rattle.std.specs.Int.{bit_at, bit_not, trailing_zeros}
use Rattle.std.specs.Int.Bits.{bit_and, bit_or}
use Rattle.std.proofs.lemmas.Nat.Bits.{bit_at_and, bit_at_or, bit_at_not, bit_at-zero, bit_at-lt, bit_at-trailing_zeros}
use Rattle.std.proofs.lemmas.Bool.{true≢false}
use Rattle.std.proofs.lemmas.Bool.Decides.{eqb_tells}
use Rattle.bit_rows.specs.Rows.{HaveCommon, word_has}

both : (a b : ℕ) → a < 2 → b < 2 → min a b ≡ 1 → (a ≡ 1) × (b ≡ 1)
both a b la lb e = (omega (arith, la, lb, e), omega (arith, la, lb, e))

pub common_bit : (a b : ℕ) → 0 < bit_and a b → bit_and a b < 2 ^ 64 → HaveCommon a b
common_bit a b some fits =
    let found = bit_at-trailing_zeros w64 (bit_and a b) some fits in
    let i = trailing_zeros w64 (bit_and a b) in
    let at = both (bit_at a i) (bit_at b i) (bit_at-lt a i) (bit_at-lt b i) (sym (bit_at_and a b i) ∙ found.1) in
    (i, found.0, at.0, at.1)

pub no_common_bit : (a b : ℕ) → bit_and a b ≡ 0 → HaveCommon a b → ⊥
no_common_bit a b none (i, low, is_a, is_b) =
    let one : bit_at (bit_and a b) i ≡ 1 = bit_at_and a b i ∙ (λ j. min (is_a j) (is_b j)) in
    let zero' : bit_at (bit_and a b) i ≡ 0 = ap (λ n. bit_at n i) none ∙ bit_at-zero i in
    omega (arith, one, zero')

not_zero : (n : ℕ) → IsTrue (not (nat_eq n 0)) → 0 < n
not_zero n h = elim (eqb_tells n 0) [
  | inl same ↦ absurd (true≢false (sym h ∙ ap not same.0))
  | inr other ↦ omega (arith, other.1)
]

is_some : (n : ℕ) → (n ≡ 0 → ⊥) → IsTrue (not (nat_eq n 0))
is_some n h = elim (eqb_tells n 0) [ inl same ↦ absurd (h same.1) | inr other ↦ ap not other.0 ]

pub meets_exactly : (a b : ℕ) → a < 2 ^ 64 → IsTrue (not (nat_eq (bit_and a b) 0)) ↔ HaveCommon a b
meets_exactly a b fits = (
  λ h. common_bit a b (not_zero (bit_and a b) h) (omega (arith, fits, and_le_l a b)),
  λ common. is_some (bit_and a b) (λ none. no_common_bit a b none common),
)

-- ---- one bit of a word made of others

less : (x y : ℕ) → x < 2 → y < 2 → nat_eq (min x (1 - y)) 1 ≡ (nat_eq x 1 && not (nat_eq y 1))
less zero zero lx ly = refl
less zero (suc zero) lx ly = refl
less (suc zero) zero lx ly = refl
less (suc zero) (suc zero) lx ly = refl
less (suc (suc x)) y lx ly = absurd (omega (arith, lx))
less zero (suc (suc y)) lx ly = absurd (omega (arith, ly))
less (suc zero) (suc (suc y)) lx ly = absurd (omega (arith, ly))

pub bit_of_difference : (a b i : ℕ) → b < 2 ^ 64 → i < 64 → word_has (bit_and a (bit_not w64 b)) i ≡ (word_has a i && not (word_has b i))
bit_of_difference a b i fits low =
    ap (λ n. nat_eq n 1) (bit_at_and a (bit_not w64 b) i ∙ ap (min (bit_at a i)) (bit_at_not w64 b i fits low))
    ∙ less (bit_at a i) (bit_at b i) (bit_at-lt a i) (bit_at-lt b i)

both_bits : (x y : ℕ) → x < 2 → y < 2 → nat_eq (min x y) 1 ≡ (nat_eq x 1 && nat_eq y 1)
both_bits zero zero lx ly = refl
both_bits zero (suc zero) lx ly = refl
both_bits (suc zero) zero lx ly = refl
both_bits (suc zero) (suc zero) lx ly = refl
both_bits (suc (suc x)) y lx ly = absurd (omega (arith, lx))
both_bits zero (suc (suc y)) lx ly = absurd (omega (arith, ly))
both_bits (suc zero) (suc (suc y)) lx ly = absurd (omega (arith, ly))

either_bit : (x y : ℕ) → x < 2 → y < 2 → nat_eq (max x y) 1 ≡ (nat_eq x 1 || nat_eq y 1)
either_bit zero zero lx ly = refl
either_bit zero (suc zero) lx ly = refl
either_bit (suc zero) zero lx ly = refl
either_bit (suc zero) (suc zero) lx ly = refl
either_bit (suc (suc x)) y lx ly = absurd (omega (arith, lx))
either_bit zero (suc (suc y)) lx ly = absurd (omega (arith, ly))
either_bit (suc zero) (suc (suc y)) lx ly = absurd (omega (arith, ly))

pub bit_of_union : (a b i : ℕ) → word_has (bit_or a b) i ≡ (word_has a i || word_has b i)
bit_of_union a b i = ap (λ n. nat_eq n 1) (bit_at_or a b i) ∙ either_bit (bit_at a i) (bit_at b i) (bit_at-lt a i) (bit_at-lt b i)

pub bit_with_common : (word a b i : ℕ) → word_has (bit_or word (bit_and a b)) i ≡ (word_has word i || (word_has a i && word_has b i))
bit_with_common word a b i =
    bit_of_union word (bit_and a b) i
    ∙ ap (λ t. word_has word i || t) (ap (λ n. nat_eq n 1) (bit_at_and a b i) ∙ both_bits (bit_at a i) (bit_at b i) (bit_at-lt a i) (bit_at-lt b i))
