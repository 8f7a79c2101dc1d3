use Rattle.std.proofs.Common.{◌≡◌, ◌+◌, ◌-◌, ◌<◌, ◌≤◌, true, false, length, drop}
use Rattle.std.specs.List.{AllWithin}
use Rattle.std.specs.Ordering.{is_lt}
use Rattle.std.specs.VecDeque.{deque_len}
use Rattle.rbac_sets.proofs.ring.count_below.Given as goal

abbrev pub invariant-loop-low : goal.invariant-loop-low
invariant-loop-low g l = record {
  order : l.low ≤ l.high;
  within : l.start + l.high ≤ deque_len l.ring;
  some : 0 < l.step;
  below : AllWithin (λ y. is_lt (g.K.Ord.cmp y l.other) ≡ true) (drop l.start l.ring.items) 0 l.low;
  not_below : AllWithin (λ y. is_lt (g.K.Ord.cmp y l.other) ≡ false) (drop l.start l.ring.items) l.high (length (drop l.start l.ring.items));
}

abbrev pub decreases-loop-low : goal.decreases-loop-low
decreases-loop-low g l = l.high - l.low
