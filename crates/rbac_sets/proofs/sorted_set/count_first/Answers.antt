use Rattle.std.proofs.Common.{take, rules}
use Rattle.std.specs.Ordering.{is_eq}
use Rattle.std.proofs.lemmas.List.Sorted.{IsPartitionPoint-from_clause}
use Rattle.rbac_sets.proofs.Runs.{parted-take, ends-take}
use Rattle.rbac_sets.proofs.sorted_set.count_first.Goals as goal

pub returns-clause-ends : goal.returns-clause-ends
returns-clause-ends g c =
    let p = λ (y : g.row.K.Denot). is_eq (g.P.Prefix.place c.args.prefix y) in
    let xs = c.args.entries.now in
    let n = c.bound_of_first-bound.result in
    let within = c.bound_of_first-bound.ensures.bound in
    ends-take p xs n c.partition_point.result within c.bound_of_first-bound.ensures.behind c.partition_point.ensures.bound
    (IsPartitionPoint-from_clause p (take n xs) c.partition_point.result c.partition_point.ensures.partitioned (parted-take p xs n within c.requires) (λ a r h called. (search rules, search rules)))
