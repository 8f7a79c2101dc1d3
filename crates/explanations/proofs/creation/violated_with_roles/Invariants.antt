use Rattle.std.proofs.Common.{◌≡◌, take}
use Rattle.rbac_sets.specs.Sets.{pair_cmp}
use Rattle.rbac_sets.specs.SortedSet.{set_of}
use Rattle.explanations.specs.private.Found.{violated_with_roles}
use Rattle.explanations.proofs.creation.violated_with_roles.Given as goal

abbrev pub invariant-loop-set : goal.invariant-loop-set
invariant-loop-set l = l.pairs.items ≡ violated_with_roles l.order.edges l.roles (set_of pair_cmp l.members) (take l.set-index l.sets)
