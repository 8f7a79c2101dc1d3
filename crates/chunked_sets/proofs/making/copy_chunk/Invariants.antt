use Rattle.std.proofs.Common.{◌≡◌, ◌≤◌, take, vec_capacity}
use Rattle.chunked_sets.proofs.making.copy_chunk.Given as goal

abbrev pub invariant-loop-entry : goal.invariant-loop-entry
invariant-loop-entry g l = record {
  items : l.copy.items ≡ take l.entry-index l.chunk;
  memory : 128 ≤ vec_capacity l.copy;
}
