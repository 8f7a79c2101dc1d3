use Rattle.std.proofs.Common.{◌≡◌, ◌≤◌, ◌^◌, vec_len}
use Rattle.chunked_sets.specs.Chunks.{entries_of}
use Rattle.chunked_sets.specs.private.Chunks.{AreChunks}
use Rattle.chunked_sets.proofs.making.chunks_from.Given as goal

abbrev pub invariant-loop-entry : goal.invariant-loop-entry
invariant-loop-entry g l = record {
  entries : entries_of l.chunks.items ≡ l.yielded;
  chunks : AreChunks l.chunks.items;
  few : vec_len l.chunks ≤ 2 ^ 56;
}
