use Rattle.std.proofs.Common.{◌++◌, map, ap, ◌∙◌, rules}
use Rattle.rbac_sets.specs.Sets.{Pair, pair_cmp}
use Rattle.rbac_sets.specs.SortedSet.{set_of}
use Rattle.rbac_sets.specs.NameOrder.{name_exact, name_total, pair_exact, pair_total}
use Rattle.review_mgr.proofs.Below.{if_both}
use Rattle.review_mgr.proofs.ByRole.{lists_start, lists_more, listed-members}
use Rattle.review_mgr.proofs.gather.users_of.Goals as goal

pub loop-role-init : goal.loop-role-init
loop-role-init c =
    lists_start pair_total pair_exact name_total name_exact (λ (pair : Pair). pair.0) (λ (pair : Pair). pair.1) (set_of pair_cmp c.args.by_role.now) c.args.roles.now _ cc

pub loop-role-preserved : goal.loop-role-preserved
loop-role-preserved c =
    lists_more pair_total pair_exact name_total name_exact (λ (pair : Pair). pair.0) (λ (pair : Pair). pair.1) (set_of pair_cmp c.args.by_role.now) c.args.roles.now
    c.loop-role.role-index c.role-item.result _ _ c.loop-role-test.true c.role-item.is c.loop-role.invariant
    (c.in_ok-push_parts.ensures.pushed (λ (pair : Pair). pair.1) (λ x p k. search rules) ∙ ap (λ ys. c.loop-role.users.items ++ map (λ (pair : Pair). pair.1) ys) c.with_first.ensures)

pub returns-clause-ok : goal.returns-clause-ok
returns-clause-ok c =
    if_both _ _ _ c.sorted_once.result
    (λ sorted in_order same.
    listed-members pair_total pair_exact name_total name_exact (λ (pair : Pair). pair.0) (λ (pair : Pair). pair.1) (set_of pair_cmp c.args.by_role.now) c.args.roles.now
    c.loop-role.role-index c.loop-role.users.items sorted.items c.loop-role-test.false c.loop-role.invariant in_order same)
    c.sorted_once.ensures.sorted c.sorted_once.ensures.same
