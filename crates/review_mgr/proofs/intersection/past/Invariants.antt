use Rattle.std.proofs.Common.{◌≡◌, ◌<◌, ◌≤◌, length}
use Rattle.std.specs.List.{HoldsAt}
use Rattle.std.specs.declared.cmp.Ordering.TheVariants.{Less}
use Rattle.rbac_sets.specs.Sets.{name_cmp}
use Rattle.review_mgr.proofs.intersection.past.Given as goal

abbrev pub invariant-loop-step : goal.invariant-loop-step
invariant-loop-step g l = record {
  from : l.at ≤ l.low;
  within : l.low < length l.entries;
  below : HoldsAt (λ entry. name_cmp (g.T.OfRole.role entry) l.name ≡ Less) l.entries l.low;
}

abbrev pub decreases-loop-step : goal.decreases-loop-step
decreases-loop-step g l = l.step
