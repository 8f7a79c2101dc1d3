use Rattle.std.proofs.Common.{◌∙◌, ap, sym}
use Rattle.std.proofs.lemmas.Bool.{true≢false}
use Rattle.rbac_sets.specs.Sets.{Pairs, contains}
use Rattle.role_order.specs.Order.{geq}
use Rattle.role_order.proofs.Deciding.{geq-Decides}
use Rattle.admin_mgr.proofs.PlanRows.EdgeTurns.{put_refused}
use Rattle.admin_mgr.proofs.planning.hierarchy.order_with_edge.Goals as goal

pub returns-clause-cause : goal.returns-clause-cause
returns-clause-cause c = put_refused c.plan_add.result c.plan_add.ensures.exists c.plan_add.ensures.cycle c.plan_add.ensures.only
    (λ h. true≢false (sym h ∙ ap (λ (edges : Pairs). contains edges (c.args.asc.now, c.args.desc.now)) c.order.ensures ∙ c.requires.absent))
    (λ h. true≢false (sym ((geq-Decides c.order.result.now.edges c.args.desc.now c.args.asc.now).1 h) ∙ ap (λ (edges : Pairs). geq edges c.args.desc.now c.args.asc.now) c.order.ensures ∙ c.requires.no_cycle))
