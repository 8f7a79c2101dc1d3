use Rattle.std.proofs.Common.{◌≡◌, length}
use Rattle.std.specs.List.Sorted.{IsStrictlySortedBy}
use Rattle.chunked_sets.specs.Entries.{entries_left}
use Rattle.review_mgr.specs.private.Intersection.{third_cmp}
use Rattle.review_mgr.proofs.ReachedByParts.{reaches_one}
use Rattle.review_mgr.proofs.intersection.is_granted.Given as goal

abbrev pub invariant-loop-part : goal.invariant-loop-part
invariant-loop-part l = record {
  sorted : IsStrictlySortedBy third_cmp (entries_left l.entries);
  same : reaches_one l.order.edges l.held l.grants ≡ reaches_one l.order.edges l.held (entries_left l.entries);
}

abbrev pub decreases-loop-part : goal.decreases-loop-part
decreases-loop-part l = length (entries_left l.entries)
