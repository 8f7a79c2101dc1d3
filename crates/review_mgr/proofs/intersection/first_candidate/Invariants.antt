use Rattle.std.proofs.Common.{◌≡◌, ◌≤◌, ◌-◌, false, length}
use Rattle.std.specs.List.{AllWithin}
use Rattle.rbac_sets.specs.Sets.{Pair}
use Rattle.review_mgr.specs.private.Intersection.{may_have}
use Rattle.review_mgr.proofs.intersection.first_candidate.Given as goal

abbrev pub invariant-loop-place : goal.invariant-loop-place
invariant-loop-place l = record {
  from : l.at ≤ l.place;
  within : l.place ≤ length l.pairs;
  passed : AllWithin (λ (pair : Pair). may_have l.flags pair.1 ≡ false) l.pairs l.at l.place;
}

abbrev pub decreases-loop-place : goal.decreases-loop-place
decreases-loop-place l = length l.pairs - l.place
