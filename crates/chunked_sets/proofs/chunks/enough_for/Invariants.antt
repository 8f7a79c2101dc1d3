use Rattle.std.proofs.Common.{◌+◌, ◌≤◌, ◌⊎◌, length}
use Rattle.chunked_sets.specs.private.Rooms.{IsLight}
use Rattle.chunked_sets.proofs.chunks.enough_for.Given as goal

abbrev pub invariant-loop-width : goal.invariant-loop-width
invariant-loop-width g l = record {
  narrow : l.width ≤ 64;
  least : length l.chunks ≤ l.most;
  fewer : l.most ≤ length l.chunks + l.count;
  enough : (length l.chunks + l.count ≤ l.most) ⊎ IsLight l.count l.chunks l.most;
}

abbrev pub decreases-loop-width : goal.decreases-loop-width
decreases-loop-width g l = l.width
