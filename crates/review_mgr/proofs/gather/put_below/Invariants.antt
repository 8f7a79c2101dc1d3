use Rattle.std.proofs.Common.{◌≡◌, List, ◌++◌}
use Rattle.rbac_sets.specs.Sets.{Pair}
use Rattle.chunked_sets.specs.Entries.{entries_left}
use Rattle.review_mgr.proofs.Below.{Joins}
use Rattle.review_mgr.proofs.gather.put_below.Given as goal

-- the pairs are those that are done and those that are left
abbrev pub invariant-loop-pair : goal.invariant-loop-pair
invariant-loop-pair l = (done : List Pair) × (entries_left l.initial.pair-iterator ≡ done ++ entries_left l.pair-iterator) × Joins l.initial.names.items l.names.items done
