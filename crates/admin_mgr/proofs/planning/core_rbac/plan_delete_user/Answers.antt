use Rattle.std.proofs.Common.{◌∷◌, [], ◌∙◌, ap, refl}
use Rattle.rbac_sets.specs.declared.command.Command.TheVariants.{DeleteUser}
use Rattle.rbac_sets.specs.declared.row.Row.TheVariants.{NameRow}
use Rattle.rbac_sets.specs.declared.row.TheConstants.Row.{USER, ASSIGNMENT}
use Rattle.rbac_sets.specs.declared.row.Change.TheVariants.{Take}
use Rattle.admin_mgr.specs.Assignment.{end_sessions}
use Rattle.admin_mgr.specs.Run.{tally}
use Rattle.admin_mgr.specs.After.{changed, after}
use Rattle.admin_mgr.specs.private.HolderRoles.{run_of}
use Rattle.admin_mgr.specs.private.PlanChanges.{pair_row, take_all}
use Rattle.admin_mgr.proofs.PlanRows.ListLaws.{listed_then}
use Rattle.admin_mgr.proofs.PlanRows.PlanLaws.{plan_of}
use Rattle.admin_mgr.proofs.StateAfter.RemovalLaws.{good_after_delete_user}
use Rattle.admin_mgr.proofs.PlanRows.EndingTurns.{turns_delete_user}
use Rattle.admin_mgr.proofs.planning.core_rbac.plan_delete_user.Goals as goal

pub returns-clause-planned : goal.returns-clause-planned
unfolding after changed end_sessions tally
returns-clause-planned c =
    let S = c.args.state.now.facts in
    let taken = listed_then c.in_ok-take.ensures.ok c.new-changes.ensures.items (λ i. Take ((c.user.ensures ∙ ap (NameRow USER) c.in_ok-copy.ensures.ok) i) ∷ []) in
    let unlocked = listed_then c.in_ok-take_lock.ensures.ok taken refl in
    let deassigned = listed_then c.in_ok-take_pairs.ensures.ok unlocked (λ i. take_all (pair_row ASSIGNMENT) ((c.with_first.ensures ∙ ap (λ pairs. run_of pairs c.args.user.now) c.assignments.ensures) i)) in
    plan_of S (DeleteUser c.args.user.now) c.plain.result _ refl
    (c.plain.ensures.changes ∙ listed_then c.in_ok-take_ended.ensures.ok deassigned refl)
    c.plain.ensures.report
    (turns_delete_user S c.recall_good.ensures c.args.user.now c.requires.accepted)
    (good_after_delete_user S c.recall_good.ensures c.args.user.now c.requires.accepted)
    c.plain.ensures.order refl
