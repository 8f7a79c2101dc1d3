use Rattle.std.proofs.Common.{sym}
use Rattle.rbac_sets.proofs.InOrder.{members-sorted}
use Rattle.rbac_sets.proofs.sorted_set.SortedSet.into_entries.Goals as goal

pub returns-clause-entries : goal.returns-clause-entries
returns-clause-entries g c = rw (← c.self.view_is) (sym (members-sorted g.met.K.Ord.total _ c.self.invariant))
