use Rattle.std.proofs.Common.{◌≡◌, ℕ, List, map, take}
use Rattle.rbac_sets.specs.Sets.{Bytes, pair_cmp}
use Rattle.rbac_sets.specs.SortedSet.{set_of}
use Rattle.explanations.specs.private.Numbered.{numbered_conflicts}
use Rattle.explanations.proofs.inheritance.numbered_conflicts.Given as goal

abbrev pub invariant-loop-set : goal.invariant-loop-set
invariant-loop-set l =
    l.conflicts.items ≡ numbered_conflicts l.table l.roles (map {B = Bytes × List ℕ} (λ one. (one.0.now, one.1.items)) l.holders) l.more (set_of pair_cmp l.members) (take l.set-index l.sets)
