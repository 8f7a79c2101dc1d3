use Rattle.std.proofs.Common.{◌≡◌, ◌++◌, map}
use Rattle.rbac_sets.specs.Sets.{Bytes, Pair, pair_cmp}
use Rattle.rbac_sets.specs.SortedSet.{set_of}
use Rattle.chunked_sets.specs.Entries.{entries_left}
use Rattle.role_order.specs.private.Runs.{run_of}
use Rattle.order_matrix.specs.Table.{number_in}
use Rattle.review_mgr.proofs.report.numbering.assigned_numbers.Given as goal

abbrev pub invariant-loop-user : goal.invariant-loop-user
invariant-loop-user l =
    map (λ run. run.items) l.runs.items ++ map (λ (user : Bytes). map (λ (pair : Pair). number_in l.roles pair.1) (run_of (set_of pair_cmp l.assignments) user)) (entries_left l.user-iterator)
    ≡ map (λ (user : Bytes). map (λ (pair : Pair). number_in l.roles pair.1) (run_of (set_of pair_cmp l.assignments) user)) l.users
