use Rattle.std.proofs.Common.{◌≡◌, ℕ, take}
use Rattle.bit_rows.specs.Rows.{has}
use Rattle.bit_tables.specs.Tables.{is_one_of}
use Rattle.bit_tables.proofs.numbers.row_of.Given as goal

abbrev pub invariant-loop-place : goal.invariant-loop-place
invariant-loop-place l = (n : ℕ) → has l.row n ≡ is_one_of (take l.place-index l.places) n
