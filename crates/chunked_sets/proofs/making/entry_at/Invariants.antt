use Rattle.std.proofs.Common.{◌≡◌, ◌+◌, length, take}
use Rattle.chunked_sets.specs.Chunks.{entries_of}
use Rattle.chunked_sets.proofs.making.entry_at.Given as goal

abbrev pub invariant-loop-chunk : goal.invariant-loop-chunk
invariant-loop-chunk g l = l.index ≡ l.left + length (entries_of (take l.chunk-index l.chunks))
