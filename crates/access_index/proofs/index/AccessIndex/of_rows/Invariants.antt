use Rattle.std.proofs.Common.{take}
use Rattle.access_index.specs.Index.{IsSeeded, Keeps}
use Rattle.access_index.proofs.IndexLaws.{among}
use Rattle.access_index.proofs.index.AccessIndex.of_rows.Given as goal

abbrev pub invariant-loop-row : goal.invariant-loop-row
invariant-loop-row l = Keeps l.index (among (take l.row-index l.rows)) × IsSeeded l.index l.fn.seed
