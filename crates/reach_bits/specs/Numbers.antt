-- The numbers of a row, in their order.
use Rattle.std.specs.Prelude.{ℕ, zero, suc, ◌+◌, ◌-◌, ◌*◌, List, [], ◌∷◌, cond, length}
use Rattle.bit_rows.specs.Rows.{has_bit}
use Rattle.reach_bits.specs.declared.numbers.Numbers.{Numbers}

-- the numbers of a row from `first` to `first + count - 1`
unfoldable pub numbers_among : List ℕ → ℕ → ℕ → List ℕ
numbers_among words first zero = []
numbers_among words first (suc count) = cond (has_bit words first) (first ∷ numbers_among words (first + 1) count) (numbers_among words (first + 1) count)

-- the numbers of a row that are at least `first`
abbrev pub numbers_from : List ℕ → ℕ → List ℕ
numbers_from words first = numbers_among words first (64 * length words - first)

-- the numbers that an iterator has left
abbrev pub numbers_left : Numbers → List ℕ
numbers_left numbers = numbers_from numbers.row.now numbers.from
