use Rattle.std.proofs.Common.{◌∷◌, [], ◌∙◌, refl}
use Rattle.rbac_sets.specs.declared.command.Command.TheVariants.{DeassignUser}
use Rattle.rbac_sets.specs.declared.row.Row.TheVariants.{PairRow}
use Rattle.rbac_sets.specs.declared.row.TheConstants.Row.{ASSIGNMENT}
use Rattle.rbac_sets.specs.declared.row.Change.TheVariants.{Take}
use Rattle.admin_mgr.specs.Assignment.{end_sessions}
use Rattle.admin_mgr.specs.Run.{tally}
use Rattle.admin_mgr.specs.After.{changed, after}
use Rattle.admin_mgr.proofs.PlanRows.ListLaws.{listed_then}
use Rattle.admin_mgr.proofs.PlanRows.PlanLaws.{plan_of}
use Rattle.admin_mgr.proofs.StateAfter.RemovalLaws.{good_after_deassign_user}
use Rattle.admin_mgr.proofs.PlanRows.EndingTurns.{turns_deassign_user}
use Rattle.admin_mgr.proofs.planning.core_rbac.plan_deassign_user.Goals as goal

pub returns-clause-planned : goal.returns-clause-planned
unfolding after changed end_sessions tally
returns-clause-planned c =
    let S = c.args.state.now.facts in
    let taken = listed_then c.in_ok-take.ensures.ok c.new-changes.ensures.items (λ i. Take ((c.assignment.ensures ∙ (λ j. PairRow ASSIGNMENT (c.in_ok-copy.ensures.ok j) (c.in_ok-copy-2.ensures.ok j))) i) ∷ []) in
    plan_of S (DeassignUser c.args.user.now c.args.role.now) c.plain.result _ refl
    (c.plain.ensures.changes ∙ listed_then c.in_ok-take_ended.ensures.ok taken refl)
    c.plain.ensures.report
    (turns_deassign_user S c.recall_good.ensures c.args.user.now c.args.role.now c.requires.accepted)
    (good_after_deassign_user S c.recall_good.ensures c.args.user.now c.args.role.now c.requires.accepted)
    c.plain.ensures.order refl
