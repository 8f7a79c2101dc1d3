use Rattle.std.proofs.Common.{◌≡◌, drop, map}
use Rattle.rbac_sets.specs.Sets.{pair_cmp}
use Rattle.rbac_sets.specs.SortedSet.{set_of}
use Rattle.admin_mgr.specs.private.NumberedSeparation.{keep_all}
use Rattle.admin_mgr.proofs.separation_of_duty.by_number.keep_all.Given as goal

abbrev pub invariant-loop-set : goal.invariant-loop-set
invariant-loop-set l =
    keep_all l.table l.roles (map (λ run. run.items) l.runs) (set_of pair_cmp l.members) (drop l.set-index l.sets)
    ≡ keep_all l.table l.roles (map (λ run. run.items) l.runs) (set_of pair_cmp l.members) l.sets
