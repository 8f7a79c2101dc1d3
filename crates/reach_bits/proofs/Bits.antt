-- The bits of two words.
use Rattle.std.proofs.Common.{◌≡◌, ℕ, ◌<◌, ◌≤◌, sym, ◌∙◌, arith}
use Rattle.std.specs.Prelude.{Option, None, Some, IfNone, min}
use Rattle.std.specs.Int.{bit_at}
use Rattle.std.specs.Int.Bits.{bit_and}
use Rattle.std.proofs.lemmas.Nat.Bits.{bit_at_and, bit_at-lt}
use Rattle.bit_rows.specs.Rows.{HaveCommon}

both : (x y : ℕ) → x < 2 → y < 2 → min x y ≡ 1 → (x ≡ 1) × (y ≡ 1)
both x y lx ly e = (omega (arith, lx, ly, e), omega (arith, lx, ly, e))

-- a bit of the conjunction is one of both words
pub common_bit : (a b i : ℕ) → bit_at (bit_and a b) i ≡ 1 → (bit_at a i ≡ 1) × (bit_at b i ≡ 1)
common_bit a b i one = both (bit_at a i) (bit_at b i) (bit_at-lt a i) (bit_at-lt b i) (sym (bit_at_and a b i) ∙ one)

pub no_common_bit : (a b : ℕ) → ((i : ℕ) → 0 ≤ i → bit_at (bit_and a b) i ≡ 0) → HaveCommon a b → ⊥
no_common_bit a b none (i, low, is_a, is_b) =
    let one : bit_at (bit_and a b) i ≡ 1 = bit_at_and a b i ∙ (λ j. min (is_a j) (is_b j)) in
    let zero' : bit_at (bit_and a b) i ≡ 0 = none i (omega arith) in
    omega (arith, one, zero')

-- what follows if there is no value
pub IfNone_then : {X : Type 0} (o : Option X) {P Q : Type 0} → IfNone o P → (P → Q) → IfNone o Q
IfNone_then None p f = f p
IfNone_then (Some x) p f = tt
