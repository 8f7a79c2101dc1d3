use Rattle.std.proofs.Common.{take, rules}
use Rattle.std.specs.Ordering.{is_lt}
use Rattle.std.proofs.lemmas.List.Sorted.{IsPartitionPoint-from_clause}
use Rattle.rbac_sets.proofs.Runs.{parted-take, ends-take}
use Rattle.rbac_sets.proofs.removal.count_less.Goals as goal

pub returns-clause-point : goal.returns-clause-point
returns-clause-point g c =
    let p = λ (y : g.row.K.Denot). is_lt (g.K.Ord.cmp y (g.P.Probe.entry c.args.probe)) in
    let xs = c.args.entries.now in
    let n = c.bound_of_less-bound.result in
    let within = c.bound_of_less-bound.ensures.bound in
    ends-take p xs n c.partition_point.result within c.bound_of_less-bound.ensures.behind c.partition_point.ensures.bound
    (IsPartitionPoint-from_clause p (take n xs) c.partition_point.result c.partition_point.ensures.partitioned (parted-take p xs n within c.requires) (λ a r h called. (search rules, search rules)))
