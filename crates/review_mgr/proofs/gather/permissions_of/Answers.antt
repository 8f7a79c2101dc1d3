use Rattle.std.proofs.Common.{◌++◌, map, ap, ◌∙◌, rules}
use Rattle.rbac_sets.specs.Sets.{Triple, triple_cmp}
use Rattle.rbac_sets.specs.SortedSet.{set_of}
use Rattle.rbac_sets.specs.NameOrder.{pair_exact, pair_total, triple_exact, triple_total}
use Rattle.review_mgr.proofs.Below.{if_both}
use Rattle.review_mgr.proofs.ByRole.{lists_start, lists_more, listed-members}
use Rattle.review_mgr.proofs.gather.permissions_of.Goals as goal

pub loop-role-init : goal.loop-role-init
loop-role-init c =
    lists_start triple_total triple_exact pair_total pair_exact (λ (grant : Triple). grant.0) (λ (grant : Triple). (grant.1, grant.2)) (set_of triple_cmp c.args.by_role.now) c.args.roles.now _ cc

pub loop-role-preserved : goal.loop-role-preserved
loop-role-preserved c =
    lists_more triple_total triple_exact pair_total pair_exact (λ (grant : Triple). grant.0) (λ (grant : Triple). (grant.1, grant.2)) (set_of triple_cmp c.args.by_role.now) c.args.roles.now
    c.loop-role.role-index c.role-item.result _ _ c.loop-role-test.true c.role-item.is c.loop-role.invariant
    (c.in_ok-push_parts.ensures.pushed (λ (grant : Triple). (grant.1, grant.2)) (λ x p k. search rules) ∙ ap (λ ys. c.loop-role.permissions.items ++ map (λ (grant : Triple). (grant.1, grant.2)) ys) c.with_first.ensures)

pub returns-clause-ok : goal.returns-clause-ok
returns-clause-ok c =
    if_both _ _ _ c.sorted_once.result
    (λ sorted in_order same.
    listed-members triple_total triple_exact pair_total pair_exact (λ (grant : Triple). grant.0) (λ (grant : Triple). (grant.1, grant.2)) (set_of triple_cmp c.args.by_role.now) c.args.roles.now
    c.loop-role.role-index c.loop-role.permissions.items sorted.items c.loop-role-test.false c.loop-role.invariant in_order same)
    c.sorted_once.ensures.sorted c.sorted_once.ensures.same
