use Rattle.std.proofs.Common.{◌≡◌, length}
use Rattle.std.specs.List.Sorted.{IsStrictlySortedBy}
use Rattle.chunked_sets.specs.Entries.{entries_left}
use Rattle.role_order.specs.private.Checked.{second_cmp}
use Rattle.review_mgr.specs.private.Intersection.{meets}
use Rattle.review_mgr.proofs.intersection.meets_run.Given as goal

abbrev pub invariant-loop-part : goal.invariant-loop-part
invariant-loop-part l = record {
  sorted : IsStrictlySortedBy second_cmp (entries_left l.entries);
  same : meets l.run l.grants ≡ meets (entries_left l.entries) l.grants;
}

abbrev pub decreases-loop-part : goal.decreases-loop-part
decreases-loop-part l = length (entries_left l.entries)
