use Rattle.std.proofs.Common.{◌∷◌, [], ◌∙◌, refl, ap}
use Rattle.rbac_sets.specs.declared.command.Command.TheVariants.{AddAscendant}
use Rattle.rbac_sets.specs.declared.row.Row.TheVariants.{NameRow}
use Rattle.rbac_sets.specs.declared.row.TheConstants.Row.{ROLE}
use Rattle.rbac_sets.specs.declared.row.Change.TheVariants.{Put}
use Rattle.admin_mgr.specs.Run.{tally}
use Rattle.admin_mgr.proofs.PlanRows.ListLaws.{listed_then}
use Rattle.admin_mgr.proofs.PlanRows.PlanLaws.{plan_with}
use Rattle.admin_mgr.proofs.StateAfter.NewRoleLaws.{good_after_add_ascendant}
use Rattle.admin_mgr.proofs.PlanRows.EdgeTurns.{turns_add_ascendant, edges_add_ascendant}
use Rattle.admin_mgr.proofs.planning.hierarchy.plan_add_ascendant.Goals as goal

pub returns-clause-planned : goal.returns-clause-planned
unfolding tally
returns-clause-planned c =
    let S = c.args.state.now.facts in
    let asc = c.args.asc.now in
    let desc = c.args.desc.now in
    let planned = c.in_ok-order.ensures.planned in
    let named = listed_then c.in_ok-put.ensures.ok c.new-changes.ensures.items (λ i. Put ((c.role.ensures ∙ ap (NameRow ROLE) c.in_ok-copy.ensures.ok) i) ∷ []) in
    plan_with S (AddAscendant asc desc) c.with_order.result _ refl
    (c.with_order.ensures.changes ∙ listed_then c.in_ok-put_edge.ensures.ok named refl)
    c.with_order.ensures.report
    (turns_add_ascendant S c.recall_good.ensures asc desc _ planned c.requires.accepted)
    (good_after_add_ascendant S c.recall_good.ensures asc desc c.requires.accepted)
    _ c.with_order.ensures.order planned.fits (edges_add_ascendant S c.recall_good.ensures asc desc _ planned)
