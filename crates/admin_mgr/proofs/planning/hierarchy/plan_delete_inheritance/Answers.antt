use Rattle.std.proofs.Common.{◌∙◌, refl}
use Rattle.rbac_sets.specs.declared.command.Command.TheVariants.{DeleteInheritance}
use Rattle.admin_mgr.specs.Run.{tally}
use Rattle.admin_mgr.specs.private.SessionContinuation.{goes_on_without_pairs}
use Rattle.admin_mgr.specs.private.PlanChanges.{ended_rows}
use Rattle.admin_mgr.proofs.PlanRows.ListLaws.{listed_then}
use Rattle.admin_mgr.proofs.PlanRows.PlanLaws.{plan_with}
use Rattle.admin_mgr.proofs.StateAfter.RemovalLaws.{good_after_delete_inheritance}
use Rattle.admin_mgr.proofs.PlanRows.EdgeTurns.{turns_delete_inheritance, edges_delete_inheritance}
use Rattle.admin_mgr.proofs.planning.hierarchy.plan_delete_inheritance.Goals as goal

pub returns-clause-planned : goal.returns-clause-planned
unfolding tally
returns-clause-planned c =
    let S = c.args.state.now.facts in
    let asc = c.args.asc.now in
    let desc = c.args.desc.now in
    let planned = c.in_ok-order.ensures.planned in
    let taken = listed_then c.in_ok-take_edge.ensures.ok c.new-changes.ensures.items refl in
    plan_with S (DeleteInheritance asc desc) c.with_order.result _ refl
    (c.with_order.ensures.changes ∙ listed_then c.in_ok-take_ended.ensures.ok taken (λ i. ended_rows S (goes_on_without_pairs S (c.takes.ensures i))))
    c.with_order.ensures.report
    (turns_delete_inheritance S c.recall_good.ensures asc desc _ c.requires.accepted planned)
    (good_after_delete_inheritance S c.recall_good.ensures asc desc c.requires.accepted)
    _ c.with_order.ensures.order planned.fits (edges_delete_inheritance S c.recall_good.ensures asc desc _ c.requires.accepted planned)
