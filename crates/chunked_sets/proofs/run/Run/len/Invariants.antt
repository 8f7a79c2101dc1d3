use Rattle.std.proofs.Common.{◌≡◌, ◌+◌, length, take}
use Rattle.chunked_sets.specs.Chunks.{entries_of}
use Rattle.chunked_sets.proofs.run.Run.len.Given as goal

abbrev pub invariant-loop-chunk : goal.invariant-loop-chunk
invariant-loop-chunk g l = l.count ≡ l.initial.count + length (entries_of (take l.chunk-index l.chunk-items))
