use Rattle.std.proofs.Common.{◌≡◌, ◌++◌, filter, map}
use Rattle.std.specs.Ordering.{eq_by_cmp}
use Rattle.rbac_sets.specs.Sets.{Pair, Triple, pair_cmp, triple_cmp, members}
use Rattle.rbac_sets.specs.SortedSet.{set_of}
use Rattle.chunked_sets.specs.Entries.{entries_left}
use Rattle.order_matrix.specs.Table.{number_in}
use Rattle.review_mgr.proofs.report.numbering.granted_numbers.Given as goal

abbrev pub invariant-loop-permission : goal.invariant-loop-permission
invariant-loop-permission l =
    map (λ run. run.items) l.runs.items
    ++ map (λ (permission : Pair). map (λ (grant : Triple). number_in l.roles grant.2) (filter (λ (grant : Triple). eq_by_cmp pair_cmp (grant.0, grant.1) permission) (members (set_of triple_cmp l.grants)))) (entries_left l.permission-iterator)
    ≡ map (λ (permission : Pair). map (λ (grant : Triple). number_in l.roles grant.2) (filter (λ (grant : Triple). eq_by_cmp pair_cmp (grant.0, grant.1) permission) (members (set_of triple_cmp l.grants)))) l.permissions
