-- The numbers of a row, in their order.
use Rattle.std.proofs.Common.{◌≡◌, ℕ, zero, suc, ◌+◌, ◌-◌, ◌*◌, ◌<◌, ◌≤◌, true, false, cond, List, [], ◌∷◌, length, refl, ◌∙◌, ap, arith}
use Rattle.std.specs.Prelude.{IsTrue}
use Rattle.bit_rows.specs.Rows.{has_bit}
use Rattle.reach_bits.specs.Numbers.{numbers_among, numbers_from}

among_next : (words : List ℕ) (first count : ℕ) → has_bit words first ≡ false → numbers_among words first (suc count) ≡ numbers_among words (first + 1) count
unfolding numbers_among
among_next words first count none = ap (λ b. cond b (first ∷ numbers_among words (first + 1) count) (numbers_among words (first + 1) count)) none

among_here : (words : List ℕ) (first count : ℕ) → has_bit words first ≡ true → numbers_among words first (suc count) ≡ first ∷ numbers_among words (first + 1) count
unfolding numbers_among
among_here words first count there = ap (λ b. cond b (first ∷ numbers_among words (first + 1) count) (numbers_among words (first + 1) count)) there

-- numbers that aren't there are passed over
among_skip : (words : List ℕ) (skipped first count n rest : ℕ) → n ≡ first + skipped → count ≡ skipped + rest → ((m : ℕ) → first ≤ m → m < n → has_bit words m ≡ false)
    → numbers_among words first count ≡ numbers_among words n rest
among_skip words zero first count n rest at size none =
    let same : first ≡ n = omega (arith, at) in
    let left : count ≡ rest = omega (arith, size) in
    ap (λ k. numbers_among words k count) same ∙ ap (numbers_among words n) left
among_skip words (suc skipped) first count n rest at size none =
    let more : count ≡ suc (skipped + rest) = omega (arith, size) in
    ap (numbers_among words first) more
    ∙ among_next words first (skipped + rest) (none first (omega arith) (omega (arith, at)))
    ∙ among_skip words skipped (first + 1) (skipped + rest) n rest (omega (arith, at)) refl (λ m late below. none m (omega (arith, late)) below)

among_none : (words : List ℕ) (first count : ℕ) → ((m : ℕ) → first ≤ m → has_bit words m ≡ false) → numbers_among words first count ≡ []
unfolding numbers_among
among_none words first zero none = refl
among_none words first (suc count) none =
    among_next words first count (none first (omega arith)) ∙ among_none words (first + 1) count (λ m late. none m (omega (arith, late)))

-- the least number comes first
pub numbers_some : (words : List ℕ) (first n : ℕ) → first ≤ n → n < 64 * length words → IsTrue (has_bit words n) → ((m : ℕ) → first ≤ m → m < n → has_bit words m ≡ false)
    → numbers_from words first ≡ n ∷ numbers_from words (n + 1)
numbers_some words first n late low there none =
    among_skip words (n - first) first (64 * length words - first) n (suc (64 * length words - (n + 1))) (omega (arith, late)) (omega (arith, late, low)) none
    ∙ among_here words n (64 * length words - (n + 1)) there

pub numbers_none : (words : List ℕ) (first : ℕ) → ((m : ℕ) → first ≤ m → has_bit words m ≡ false) → numbers_from words first ≡ []
numbers_none words first none = among_none words first (64 * length words - first) none
