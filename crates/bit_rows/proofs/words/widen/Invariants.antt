use Rattle.std.proofs.Common.{◌≡◌, ◌≤◌, ◌-◌, ℕ, vec_len}
use Rattle.std.specs.Prelude.{max}
use Rattle.bit_rows.specs.Rows.{has_bit}
use Rattle.bit_rows.proofs.words.widen.Given as goal

abbrev pub invariant-loop-words : goal.invariant-loop-words
invariant-loop-words l = (vec_len l.words ≤ max l.count (vec_len l.fn.words)) × ((n : ℕ) → has_bit l.words.items n ≡ has_bit l.fn.words.items n)

abbrev pub decreases-loop-words : goal.decreases-loop-words
decreases-loop-words l = l.count - vec_len l.words
