use Rattle.std.proofs.Common.{◌||◌, sym, ap, ◌∙◌}
use Rattle.std.specs.List.{list_any}
use Rattle.rbac_sets.specs.Sets.{Pair, pair_cmp}
use Rattle.rbac_sets.specs.SortedSet.{set_of}
use Rattle.admin_mgr.specs.private.HolderRoles.{run_of}
use Rattle.review_mgr.specs.private.Intersection.{meets}
use Rattle.review_mgr.proofs.RunsAndGrants.{meets_reached}
use Rattle.review_mgr.proofs.intersection.is_granted_by_runs.Goals as goal

pub returns-then-meets : goal.returns-then-meets
returns-then-meets c =
    let held = c.args.held.now in
    let grants = c.args.grants.now in
    let pairs = set_of pair_cmp c.pairs-pairs.result.now in
    c.if-meets.true
    ∙ ap (λ b. b || list_any (λ (pair : Pair). meets (run_of pairs pair.1) grants) held) (sym c.if-meets.true ∙ c.meets.ensures)
    ∙ meets_reached c.args.order.now.edges pairs c.pairs-pairs.ensures held grants

pub returns-else-meets : goal.returns-else-meets
returns-else-meets c =
    let held = c.args.held.now in
    let grants = c.args.grants.now in
    let pairs = set_of pair_cmp c.pairs-pairs.result.now in
    c.is_granted_to_junior.ensures
    ∙ ap (λ b. b || list_any (λ (pair : Pair). meets (run_of pairs pair.1) grants) held) (sym c.if-meets.false ∙ c.meets.ensures)
    ∙ meets_reached c.args.order.now.edges pairs c.pairs-pairs.ensures held grants
