use Rattle.std.proofs.Common.{◌≡◌, take, vec_len}
use Rattle.chunked_sets.specs.Chunks.{entries_of}
use Rattle.chunked_sets.specs.private.Chunks.{AreChunks}
use Rattle.chunked_sets.proofs.making.copy_chunks.Given as goal

abbrev pub invariant-loop-chunk : goal.invariant-loop-chunk
invariant-loop-chunk g l = record {
  entries : entries_of l.copies.items ≡ entries_of (take l.chunk-index l.chunks);
  chunks : AreChunks l.copies.items;
  len : vec_len l.copies ≡ l.chunk-index;
}
