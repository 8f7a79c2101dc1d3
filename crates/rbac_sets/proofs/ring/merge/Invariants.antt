use Rattle.std.proofs.Common.{◌≡◌, ◌+◌, ◌≤◌, vec_capacity, vec_len}
use Rattle.std.specs.VecDeque.{deque_len, deque_capacity}
use Rattle.rbac_sets.proofs.Merging.{Merging}
use Rattle.rbac_sets.proofs.ring.merge.Given as goal

abbrev pub invariant-loop-other : goal.invariant-loop-other
invariant-loop-other g l = record {
  merging : Merging g.K.Ord.cmp l.fn.entries.items l.fn.others.items l.ring.items l.others.items l.placed;
  within : l.placed ≤ deque_len l.ring;
  total : deque_len l.ring + vec_len l.others ≡ vec_len l.fn.entries + vec_len l.fn.others;
  room : deque_capacity l.ring ≡ vec_capacity l.fn.entries;
}

abbrev pub decreases-loop-other : goal.decreases-loop-other
decreases-loop-other g l = vec_len l.others
