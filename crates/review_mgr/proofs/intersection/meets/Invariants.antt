use Rattle.std.proofs.Common.{length, ◌-◌, ◌≡◌, ◌≤◌, ◌+◌, drop}
use Rattle.review_mgr.specs.private.Intersection.{meets}
use Rattle.review_mgr.proofs.intersection.meets.Given as goal

abbrev pub invariant-loop-at : goal.invariant-loop-at
invariant-loop-at l = record {
  within : l.at ≤ length l.pairs;
  along : l.next ≤ length l.grants;
  same : meets l.pairs l.grants ≡ meets (drop l.at l.pairs) (drop l.next l.grants);
}

abbrev pub decreases-loop-at : goal.decreases-loop-at
decreases-loop-at l = (length l.pairs - l.at) + (length l.grants - l.next)
