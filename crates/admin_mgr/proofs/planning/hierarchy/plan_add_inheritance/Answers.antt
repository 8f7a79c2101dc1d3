use Rattle.std.proofs.Common.{◌∙◌, refl}
use Rattle.rbac_sets.specs.declared.command.Command.TheVariants.{AddInheritance}
use Rattle.admin_mgr.specs.Run.{tally}
use Rattle.admin_mgr.proofs.PlanRows.ListLaws.{listed_then}
use Rattle.admin_mgr.proofs.PlanRows.PlanLaws.{plan_with}
use Rattle.admin_mgr.proofs.StateAfter.GoodInheritance.{good_after_add_inheritance}
use Rattle.admin_mgr.proofs.PlanRows.EdgeTurns.{turns_add_inheritance, edges_add_inheritance}
use Rattle.admin_mgr.proofs.planning.hierarchy.plan_add_inheritance.Goals as goal

pub returns-clause-planned : goal.returns-clause-planned
unfolding tally
returns-clause-planned c =
    let S = c.args.state.now.facts in
    let asc = c.args.asc.now in
    let desc = c.args.desc.now in
    let planned = c.in_ok-order.ensures.planned in
    plan_with S (AddInheritance asc desc) c.with_order.result _ refl
    (c.with_order.ensures.changes ∙ listed_then c.in_ok-put_edge.ensures.ok c.new-changes.ensures.items refl)
    c.with_order.ensures.report
    (turns_add_inheritance S c.recall_good.ensures asc desc _ planned c.requires.accepted)
    (good_after_add_inheritance S c.recall_good.ensures asc desc c.requires.accepted)
    _ c.with_order.ensures.order planned.fits (edges_add_inheritance S c.recall_good.ensures asc desc _ planned)
