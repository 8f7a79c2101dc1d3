use Rattle.std.proofs.Common.{length, ◌-◌, ◌≤◌}
use Rattle.rbac_sets.proofs.removal.bound_of_less.Given as goal

abbrev pub invariant-loop-bound : goal.invariant-loop-bound
invariant-loop-bound g l = 1 ≤ l.bound

abbrev pub decreases-loop-bound : goal.decreases-loop-bound
decreases-loop-bound g l = length l.entries - l.bound
