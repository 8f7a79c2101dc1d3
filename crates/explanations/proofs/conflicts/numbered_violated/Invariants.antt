use Rattle.std.proofs.Common.{◌≡◌, take}
use Rattle.rbac_sets.specs.Sets.{pair_cmp}
use Rattle.rbac_sets.specs.SortedSet.{set_of}
use Rattle.explanations.specs.private.Numbered.{numbered_violated}
use Rattle.explanations.proofs.conflicts.numbered_violated.Given as goal

abbrev pub invariant-loop-set : goal.invariant-loop-set
invariant-loop-set l = l.names.items ≡ numbered_violated l.table l.roles l.held (set_of pair_cmp l.members) (take l.set-index l.sets)
