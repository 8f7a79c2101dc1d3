use Rattle.std.proofs.Common.{◌≡◌, ◌≢◌, ℕ, false, length, take}
use Rattle.bit_tables.specs.Tables.{is_one_of}
use Rattle.bit_tables.proofs.numbers.without_place.Given as goal

abbrev pub invariant-loop-at : goal.invariant-loop-at
invariant-loop-at l = (length l.places ≡ length l.fn.places) × (is_one_of (take l.at l.places) l.number ≡ false) × ((n : ℕ) → n ≢ l.number → is_one_of l.places n ≡ is_one_of l.fn.places n)
