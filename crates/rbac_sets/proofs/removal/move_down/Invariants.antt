use Rattle.std.proofs.Common.{◌≡◌, ◌+◌, ◌-◌, ◌≤◌, vec_len, vec_capacity}
use Rattle.rbac_sets.specs.SetRemoval.{around}
use Rattle.rbac_sets.proofs.removal.move_down.Given as goal

abbrev pub invariant-loop-moved : goal.invariant-loop-moved
invariant-loop-moved g l = record {
  within : l.moved ≤ l.count;
  same : around (l.start + l.moved) (l.end + l.moved) l.entries.items ≡ around l.start l.end l.fn.entries.items;
  len : vec_len l.entries ≡ vec_len l.fn.entries;
  capacity : vec_capacity l.entries ≡ vec_capacity l.fn.entries;
}

abbrev pub decreases-loop-moved : goal.decreases-loop-moved
decreases-loop-moved g l = l.count - l.moved
