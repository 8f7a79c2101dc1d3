use Rattle.std.proofs.Common.{◌≡◌, drop}
use Rattle.std.specs.List.{list_any}
use Rattle.rbac_sets.specs.Sets.{Pair, pair_cmp}
use Rattle.rbac_sets.specs.SortedSet.{set_of}
use Rattle.admin_mgr.specs.private.HolderRoles.{run_of}
use Rattle.review_mgr.specs.private.Intersection.{meets}
use Rattle.review_mgr.proofs.intersection.is_granted_to_junior.Given as goal

abbrev pub invariant-loop-pair : goal.invariant-loop-pair
invariant-loop-pair g l =
    list_any (λ (pair : Pair). meets (run_of (set_of pair_cmp (g.P.EntrySet.stored l.pairs)) pair.1) l.grants) l.held ≡ list_any (λ (pair : Pair). meets (run_of (set_of pair_cmp (g.P.EntrySet.stored l.pairs)) pair.1) l.grants) (drop l.pair-index l.held)
