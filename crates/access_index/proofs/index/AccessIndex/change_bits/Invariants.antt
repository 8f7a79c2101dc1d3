use Rattle.std.proofs.Common.{◌≡◌, take}
use Rattle.access_index.specs.Index.{Keeps, Rows, seeds_of}
use Rattle.access_index.specs.private.Changing.{rows_after}
use Rattle.access_index.proofs.index.AccessIndex.change_bits.Given as goal

abbrev pub invariant-loop-change : goal.invariant-loop-change
invariant-loop-change l = ((rows : Rows) → Keeps l.initial.self rows → Keeps l.self (rows_after rows (take l.change-index l.changes))) × (seeds_of l.self ≡ seeds_of l.initial.self)
