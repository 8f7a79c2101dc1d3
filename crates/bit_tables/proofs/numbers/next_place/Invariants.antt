use Rattle.std.proofs.Common.{take}
use Rattle.bit_tables.proofs.PlaceLaws.{IsLeast}
use Rattle.bit_tables.proofs.numbers.next_place.Given as goal

abbrev pub invariant-loop-place : goal.invariant-loop-place
invariant-loop-place l = IsLeast (take l.place-index l.places) l.from l.least
