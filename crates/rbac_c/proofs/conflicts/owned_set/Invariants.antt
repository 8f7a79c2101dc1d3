use Rattle.rbac_sets.specs.Sets.{name_cmp}
use Rattle.rbac_sets.specs.SortedSet.{set_of}
use Rattle.rbac_c.proofs.OwnedNames.{HasOwned}
use Rattle.rbac_c.proofs.conflicts.owned_set.Given as goal

abbrev pub invariant-loop-length : goal.invariant-loop-length
invariant-loop-length l = HasOwned l.text l.lengths l.length-index l.rest (set_of name_cmp l.set)
