use Rattle.std.proofs.Common.{◌≡◌, ◌≤◌}
use Rattle.std.specs.VecDeque.{deque_len, deque_capacity}
use Rattle.chunked_sets.specs.private.Passes.{in_order, HasPassed}
use Rattle.chunked_sets.proofs.pass.seek.Given as goal

abbrev pub invariant-loop-pass : goal.invariant-loop-pass
invariant-loop-pass g l = record {
  same : in_order l.pass.ahead l.pass.ring.items l.pass.current ≡ in_order l.initial.pass.ahead l.initial.pass.ring.items l.initial.pass.current;
  passed : HasPassed g.K.Ord.cmp (g.P.Probe.entry l.probe) l.pass.ahead l.pass.ring.items;
  ahead : l.pass.ahead ≤ deque_len l.pass.ring;
  len : deque_len l.pass.ring ≡ deque_len l.initial.pass.ring;
  capacity : deque_capacity l.pass.ring ≡ deque_capacity l.initial.pass.ring;
}

abbrev pub decreases-loop-pass : goal.decreases-loop-pass
decreases-loop-pass g l = l.pass.ahead
