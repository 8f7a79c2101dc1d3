use Rattle.std.proofs.Common.{◌≡◌, rules, subst}
use Rattle.std.specs.declared.cmp.Ordering.TheVariants.{Less}
use Rattle.rbac_sets.specs.private.Gaps.{IsPassed}
use Rattle.std.specs.Ordering.{is_lt}
use Rattle.std.specs.List.Sorted.{IsStrictlySortedBy}
use Rattle.std.proofs.lemmas.List.Sorted.{IsPartitionPoint-from_clause}
use Rattle.rbac_sets.proofs.Gaps.{below_first, passed-partition, sorted-first, within-take}
use Rattle.rbac_sets.proofs.removal.move_gap.Goals as goal

pub are_before-requires : goal.are_before-requires
are_before-requires g c = rw c.deref.ensures.value (sorted-first g.K.Ord.cmp _ _ c.requires.sorted)

pub pass-passed-requires-clause-below : goal.pass-passed-requires-clause-below
pass-passed-requires-clause-below g c = within-take (λ y. g.K.Ord.cmp y (g.P.Probe.entry c.args.probe) ≡ Less) c.args.entries.now.items c.args.start (search rules) (rw c.deref.ensures.value at (c.are_before.ensures.0 (search rules)))

pub returns-clause-passed : goal.returns-clause-passed
returns-clause-passed g c =
    let x = g.P.Probe.entry c.args.probe in
    let xs = c.deref-2.result.now in
    let sorted : IsStrictlySortedBy g.K.Ord.cmp xs = search rules in
    let point = IsPartitionPoint-from_clause (λ y. is_lt (g.K.Ord.cmp y x)) xs c.partition_point-at.result c.partition_point-at.ensures.partitioned (below_first g.met.K.Ord.total xs x sorted) (λ a r h called. (search rules, search rules)) in
    subst (λ l. IsPassed g.K.Ord.cmp x c.partition_point-at.result c.partition_point-at.result l) c.deref-2.ensures.value (passed-partition g.K.Ord.cmp xs x c.partition_point-at.result (search rules) point)
