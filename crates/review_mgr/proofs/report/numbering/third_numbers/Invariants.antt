use Rattle.std.proofs.Common.{◌≡◌, ◌++◌, map}
use Rattle.rbac_sets.specs.Sets.{Triple}
use Rattle.chunked_sets.specs.Entries.{entries_left}
use Rattle.order_matrix.specs.Table.{number_in}
use Rattle.review_mgr.proofs.report.numbering.third_numbers.Given as goal

abbrev pub invariant-loop-grant : goal.invariant-loop-grant
invariant-loop-grant l =
    l.numbers.items ++ map (λ (grant : Triple). number_in l.roles grant.2) (entries_left l.grant-iterator) ≡ map (λ (grant : Triple). number_in l.roles grant.2) l.grants
