use Rattle.std.proofs.Common.{◌≡◌, drop, map}
use Rattle.rbac_sets.specs.Sets.{pair_cmp}
use Rattle.rbac_sets.specs.SortedSet.{set_of}
use Rattle.admin_mgr.specs.private.NumberedSeparation.{first_violated_by}
use Rattle.admin_mgr.proofs.separation_of_duty.by_number.first_violated_by.Given as goal

abbrev pub invariant-loop-set : goal.invariant-loop-set
invariant-loop-set l =
    first_violated_by l.table l.roles (map (λ run. run.items) l.runs) l.role (set_of pair_cmp l.members) (drop l.set-index l.sets)
    ≡ first_violated_by l.table l.roles (map (λ run. run.items) l.runs) l.role (set_of pair_cmp l.members) l.sets
