use Rattle.std.proofs.Common.{ℕ, ◌+◌, ◌≤◌, ◌^◌, vec_len, vec_capacity}
use Rattle.std.specs.VecDeque.{deque_len}
use Rattle.std.specs.List.Sorted.{IsStrictlySortedBy}
use Rattle.chunked_sets.specs.Chunks.{entries_of}
use Rattle.chunked_sets.specs.private.Chunks.{AreChunks, AreSpare}
use Rattle.chunked_sets.specs.private.Rooms.{HasRoom}
use Rattle.chunked_sets.proofs.Merges.{Remains}
use Rattle.chunked_sets.proofs.pass.insert_each.Given as goal

abbrev pub invariant-loop-entry : goal.invariant-loop-entry
invariant-loop-entry g l = record {
  chunks : AreChunks l.all.items;
  sorted : IsStrictlySortedBy g.K.Ord.cmp (entries_of l.all.items);
  remains : Remains g.K.Ord.cmp (entries_of l.initial.all.items) l.fn.others.items (entries_of l.all.items) l.rest.items;
  few : vec_len l.all ≤ 2 ^ 56;
  spare : AreSpare l.spare.items;
  room : (k : ℕ) → HasRoom (k + vec_len l.fn.others) l.initial.all.items (vec_capacity l.initial.all) l.initial.spare → HasRoom (k + deque_len l.rest) l.all.items (vec_capacity l.all) l.spare;
}

abbrev pub decreases-loop-entry : goal.decreases-loop-entry
decreases-loop-entry g l = deque_len l.rest
