use Rattle.std.proofs.Common.{◌∙◌, ap}
use Rattle.rbac_sets.specs.Sets.{Pairs, contains}
use Rattle.admin_mgr.proofs.PlanRows.EdgeTurns.{take_refused}
use Rattle.admin_mgr.proofs.planning.hierarchy.order_without_edge.Goals as goal

pub returns-clause-cause : goal.returns-clause-cause
returns-clause-cause c = take_refused c.plan_remove.result c.plan_remove.ensures.absent c.plan_remove.ensures.only
    (ap (λ (edges : Pairs). contains edges (c.args.asc.now, c.args.desc.now)) c.order.ensures ∙ c.requires.there)
