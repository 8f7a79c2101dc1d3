use Rattle.std.proofs.Common.{◌≡◌, ◌++◌, length, drop}
use Rattle.chunked_sets.specs.Chunks.{entries_of}
use Rattle.chunked_sets.proofs.run.rest_of_chunks.Given as goal

abbrev pub invariant-loop-chunk : goal.invariant-loop-chunk
invariant-loop-chunk g l = drop l.left (entries_of l.rest ++ l.last) ≡ drop l.count (entries_of l.chunks ++ l.last)

abbrev pub decreases-loop-chunk : goal.decreases-loop-chunk
decreases-loop-chunk g l = length l.rest
