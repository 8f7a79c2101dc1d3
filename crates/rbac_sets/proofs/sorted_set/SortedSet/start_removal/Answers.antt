use Rattle.std.proofs.Common.{ap}
use Rattle.std.specs.List.Sorted.{IsStrictlySortedBy}
use Rattle.rbac_sets.specs.Sets.{from_list}
use Rattle.rbac_sets.proofs.sorted_set.SortedSet.start_removal.Goals as goal

pub invariant_of-self : goal.invariant_of-self
unfolding IsStrictlySortedBy
invariant_of-self g c = rw (c.replace.ensures.after, c.new-nothing.ensures.items) tt

pub returns-clause-left : goal.returns-clause-left
unfolding from_list
returns-clause-left g c = rw (c.replace.ensures.after) (ap (from_list {R = g.K.Ord.cmp}) c.new-nothing.ensures.items)
