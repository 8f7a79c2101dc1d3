use Rattle.std.proofs.Common.{◌≤◌, ◌-◌, vec_len, vec_capacity}
use Rattle.chunked_sets.specs.private.Chunks.{AreSpare}
use Rattle.chunked_sets.proofs.chunks.add_spare.Given as goal

abbrev pub invariant-loop-alloc : goal.invariant-loop-alloc
invariant-loop-alloc g l = record {
  spare : AreSpare l.spare.items;
  len : vec_len l.initial.spare ≤ vec_len l.spare;
  capacity : vec_capacity l.initial.spare ≤ vec_capacity l.spare;
}

abbrev pub decreases-loop-alloc : goal.decreases-loop-alloc
decreases-loop-alloc g l = l.count - vec_len l.spare
