-- The bits of a word from one place on.
use Rattle.std.proofs.Common.{◌≡◌, ℕ, ◌+◌, ◌-◌, ◌/◌, ◌%◌, ◌^◌, ◌<◌, ◌≤◌, sym, ◌∙◌, ap, inl, inr, arith, w64}
use Rattle.std.specs.Int.{bit_at, trailing_zeros}
use Rattle.std.proofs.lemmas.Nat.{shr-shr, shr_le}
use Rattle.std.proofs.lemmas.Bool.{cases_lt}
use Rattle.std.proofs.lemmas.Nat.Bits.{bit_at-zero, bit_at-trailing_zeros, bit_at_above}

-- a bit of the shifted word
pub bit_of_rest : (word from i : ℕ) → bit_at (word / 2 ^ from) i ≡ bit_at word (from + i)
bit_of_rest word from i = ap (λ n. n % 2) (shr-shr word from i)

pub bit_from_rest : (word from i : ℕ) → from ≤ i → bit_at word i ≡ bit_at (word / 2 ^ from) (i - from)
bit_from_rest word from i past =
    let is : from + (i - from) ≡ i = omega (arith, past) in
    ap (bit_at word) (sym is) ∙ sym (bit_of_rest word from (i - from))

pub none_in_rest : (word from : ℕ) → word / 2 ^ from ≡ 0 → (i : ℕ) → from ≤ i → bit_at word i ≡ 0
none_in_rest word from none i past = bit_from_rest word from i past ∙ ap (λ n. bit_at n (i - from)) none ∙ bit_at-zero (i - from)

pub record IsFirstFrom (word from n : ℕ) : Type 0 where
  pub late : from ≤ n
  pub low : n < 64
  pub there : bit_at word n ≡ 1
  pub before : (i : ℕ) → from ≤ i → i < n → bit_at word i ≡ 0

pub first_from_rest : (word from : ℕ) → word < 2 ^ 64 → 0 < word / 2 ^ from → IsFirstFrom word from (from + trailing_zeros w64 (word / 2 ^ from))
first_from_rest word from fits some =
    let rest = word / 2 ^ from in
    let steps = trailing_zeros w64 rest in
    let found = bit_at-trailing_zeros w64 rest some (omega (arith, fits, shr_le word from)) in
    let there : bit_at word (from + steps) ≡ 1 = sym (bit_of_rest word from steps) ∙ found.1 in
    record {
      late = omega arith;
      low = elim (cases_lt (from + steps) 64) [
        | inl below ↦ below
        | inr above ↦ let none : bit_at word (from + steps) ≡ 0 = bit_at_above word 64 (from + steps) fits above in omega (arith, none, there)
      ];
      there = there;
      before = λ i past less. bit_from_rest word from i past ∙ found.2 (i - from) (omega (arith, past, less));
    }
