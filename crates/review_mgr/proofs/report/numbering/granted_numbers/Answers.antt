use Rattle.std.proofs.Common.{filter, map, ap, ◌∙◌}
use Rattle.std.specs.Ordering.{eq_by_cmp}
use Rattle.rbac_sets.specs.Sets.{Pair, Triple, pair_cmp, triple_cmp, members}
use Rattle.rbac_sets.specs.SortedSet.{set_of}
use Rattle.order_matrix.specs.Table.{number_in}
use Rattle.order_matrix.proofs.Mapped.{mapped_next_through, mapped_whole}
use Rattle.review_mgr.proofs.report.numbering.granted_numbers.Goals as goal

pub loop-permission-preserved : goal.loop-permission-preserved
loop-permission-preserved c =
    mapped_next_through
    (λ (permission : Pair). map (λ (grant : Triple). number_in c.args.roles.now grant.2) (filter (λ (grant : Triple). eq_by_cmp pair_cmp (grant.0, grant.1) permission) (members (set_of triple_cmp c.args.grants.now))))
    (λ run. run.items)
    _ _ c.in-Some.permission.now c.in-Some.ensures.steps c.loop-permission.runs.items c.in_ok-third_numbers.field-0 c.push.new.self.items _
    (c.in_ok-third_numbers.ensures.ok ∙ ap (map (λ (grant : Triple). number_in c.args.roles.now grant.2)) c.with_first-run.ensures) c.loop-permission.invariant c.in_ok-push.ensures.items

pub returns-clause-ok : goal.returns-clause-ok
returns-clause-ok c =
    mapped_whole
    (λ (permission : Pair). map (λ (grant : Triple). number_in c.args.roles.now grant.2) (filter (λ (grant : Triple). eq_by_cmp pair_cmp (grant.0, grant.1) permission) (members (set_of triple_cmp c.args.grants.now))))
    _ c.in-None.ensures.steps.0 (map (λ run. run.items) c.loop-permission.runs.items) _ c.loop-permission.invariant
