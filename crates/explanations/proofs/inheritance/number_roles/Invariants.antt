use Rattle.std.proofs.Common.{◌≡◌, ℕ, List, ◌++◌, ◌∷◌, [], map, take}
use Rattle.rbac_sets.specs.Sets.{Bytes, pair_cmp}
use Rattle.rbac_sets.specs.SortedSet.{set_of}
use Rattle.order_matrix.specs.Table.{numbers_of}
use Rattle.admin_mgr.specs.private.HolderRoles.{run_of}
use Rattle.explanations.proofs.inheritance.number_roles.Given as goal

abbrev pub invariant-loop-holder : goal.invariant-loop-holder
invariant-loop-holder l =
    map {B = Bytes × List ℕ} (λ one. (one.0.now, one.1.items)) l.numbered.items
    ≡ map {B = Bytes × List ℕ} (λ holder. (holder.now, numbers_of l.roles (run_of (set_of pair_cmp l.pairs) holder.now) ++ l.more ∷ [])) (take l.holder-index l.holders)
