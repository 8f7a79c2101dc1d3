use Rattle.std.proofs.Common.{subst, sym}
use Rattle.std.specs.List.Sorted.{IsStrictlySortedBy}
use Rattle.role_order.specs.private.Checked.{second_cmp}
use Rattle.role_order.proofs.Runs.{run-rises}
use Rattle.review_mgr.proofs.intersection.is_granted_to_junior.Goals as goal

pub meets_run-requires-clause-pairs : goal.meets_run-requires-clause-pairs
meets_run-requires-clause-pairs g c = subst (IsStrictlySortedBy second_cmp) (sym c.entries_with_first.ensures) (run-rises _ c.pair-item.result.1)
