use Rattle.std.proofs.Common.{◌≡◌, ◌*◌, ◌≤◌, take}
use Rattle.chunked_sets.specs.private.Rooms.{weight_of}
use Rattle.chunked_sets.proofs.chunks.weight.Given as goal

abbrev pub invariant-loop-chunk : goal.invariant-loop-chunk
invariant-loop-chunk g l = record {
  weight : l.weight ≡ weight_of l.width (take l.chunk-index l.chunks);
  bound : l.weight ≤ 128 * l.chunk-index;
}
