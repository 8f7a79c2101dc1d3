use Rattle.std.proofs.Common.{ℕ, ◌+◌, ◌<◌, ◌≤◌, ◌^◌, vec_len, vec_capacity}
use Rattle.std.specs.VecDeque.{deque_len, deque_capacity}
use Rattle.std.specs.List.{AllByRecursion}
use Rattle.std.specs.List.Sorted.{IsStrictlySortedBy}
use Rattle.chunked_sets.specs.Chunks.{entries_of}
use Rattle.chunked_sets.specs.private.Chunks.{AreChunks, AreSpare}
use Rattle.chunked_sets.specs.private.Rooms.{HasRoom}
use Rattle.chunked_sets.specs.private.Passes.{in_order, HasPassed}
use Rattle.chunked_sets.proofs.Merges.{Remains}
use Rattle.chunked_sets.proofs.pass.merge_pass.Given as goal

abbrev pub invariant-loop-entry : goal.invariant-loop-entry
invariant-loop-entry g l = record {
  chunks : AreChunks (in_order l.pass.ahead l.pass.ring.items l.pass.current);
  sorted : IsStrictlySortedBy g.K.Ord.cmp (entries_of (in_order l.pass.ahead l.pass.ring.items l.pass.current));
  remains : Remains g.K.Ord.cmp (entries_of l.fn.chunks.items) l.fn.others.items (entries_of (in_order l.pass.ahead l.pass.ring.items l.pass.current)) l.rest.items;
  passed : AllByRecursion (λ x. HasPassed g.K.Ord.cmp x l.pass.ahead l.pass.ring.items) l.rest.items;
  ahead : l.pass.ahead ≤ deque_len l.pass.ring;
  listed : deque_len l.pass.ring < deque_capacity l.pass.ring;
  few : deque_len l.pass.ring < 2 ^ 56;
  spare : AreSpare l.spare.items;
  room : (k : ℕ) → HasRoom (k + vec_len l.fn.others) l.fn.chunks.items (vec_capacity l.fn.chunks) l.initial.spare
      → HasRoom (k + deque_len l.rest) (in_order l.pass.ahead l.pass.ring.items l.pass.current) (deque_capacity l.pass.ring) l.spare;
}

abbrev pub decreases-loop-entry : goal.decreases-loop-entry
decreases-loop-entry g l = deque_len l.rest
