use Rattle.std.proofs.Common.{◌≡◌, List, ◌++◌}
use Rattle.rbac_sets.specs.Sets.{Pair}
use Rattle.chunked_sets.specs.Entries.{entries_left}
use Rattle.review_mgr.proofs.Below.{Reaches}
use Rattle.review_mgr.proofs.gather.roles_reached.Given as goal

-- the pairs are those that are done and those that are left
abbrev pub invariant-loop-pair : goal.invariant-loop-pair
invariant-loop-pair l = (done : List Pair) × (l.held ≡ done ++ entries_left l.pair-iterator) × Reaches l.order.edges done l.names.items
