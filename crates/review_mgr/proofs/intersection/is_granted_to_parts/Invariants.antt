use Rattle.std.proofs.Common.{◌≡◌, length}
use Rattle.std.specs.List.Sorted.{IsStrictlySortedBy}
use Rattle.chunked_sets.specs.Entries.{entries_left}
use Rattle.role_order.specs.Order.{geq}
use Rattle.role_order.specs.private.Checked.{second_cmp}
use Rattle.review_mgr.proofs.ReachedByParts.{passes_one}
use Rattle.review_mgr.proofs.intersection.is_granted_to_parts.Given as goal

abbrev pub invariant-loop-part : goal.invariant-loop-part
invariant-loop-part l = record {
  sorted : IsStrictlySortedBy second_cmp (entries_left l.entries);
  same : passes_one (geq l.order.edges) l.held l.grants ≡ passes_one (geq l.order.edges) (entries_left l.entries) l.grants;
}

abbrev pub decreases-loop-part : goal.decreases-loop-part
decreases-loop-part l = length (entries_left l.entries)
