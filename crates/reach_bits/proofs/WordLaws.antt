-- The numbers of two rows, word by word.
use Rattle.std.proofs.Common.{◌≡◌, ℕ, ◌+◌, ◌*◌, ◌%◌, ◌<◌, ◌≤◌, true, false, List, length, sym, ◌∙◌, ap, inl, inr, arith}
use Rattle.std.specs.Prelude.{IsTrue, nat_eq, slice_set}
use Rattle.std.proofs.lemmas.Bool.{cases_lt, true≢false, false_from_ne_true}
use Rattle.std.proofs.lemmas.Nat.Bits.{bit_at-zero}
use Rattle.bit_rows.specs.Rows.{has_bit, word_has}
use Rattle.bit_rows.proofs.RowLaws.{AreApart, AreChanged, absent_past, changed_more, none_common}

-- a number of a row is below its end
pub within : (words : List ℕ) (n : ℕ) → has_bit words n ≡ true → n < 64 * length words
within words n there = elim (cases_lt n (64 * length words)) [
  | inl below ↦ below
  | inr past ↦ absurd (true≢false (sym there ∙ absent_past words n (omega (arith, past))))
]

no_word : (k : ℕ) → word_has 0 k ≡ false
no_word k = ap (λ b. nat_eq b 1) (bit_at-zero k)

-- one more word is emptied
pub cleared_more : (words old : List ℕ) (i : ℕ) → i < length words → AreChanged words old (λ _. false) i → AreChanged (slice_set words i 0) old (λ _. false) (i + 1)
cleared_more words old i inside before = changed_more words old (λ _. false) i 0 inside before (λ n at. no_word (n % 64))

-- two rows without a common bit in any word
pub apart_all : (words others : List ℕ) (upto : ℕ) → length words ≤ upto → AreApart words others upto → (n : ℕ) → IsTrue (has_bit words n) → has_bit others n ≡ false
apart_all words others upto whole apart n there = false_from_ne_true (has_bit others n) (λ also. none_common words others upto apart (omega (arith, whole)) n there also)
