use Rattle.std.proofs.Common.{◌∷◌, [], ◌∙◌, ap, refl}
use Rattle.rbac_sets.specs.declared.command.Command.TheVariants.{DeleteRole}
use Rattle.rbac_sets.specs.declared.row.Row.TheVariants.{NameRow}
use Rattle.rbac_sets.specs.declared.row.TheConstants.Row.{ROLE}
use Rattle.rbac_sets.specs.declared.row.Change.TheVariants.{Take}
use Rattle.admin_mgr.specs.Assignment.{end_sessions}
use Rattle.admin_mgr.specs.Run.{tally}
use Rattle.admin_mgr.specs.After.{changed, after}
use Rattle.admin_mgr.proofs.PlanRows.ListLaws.{listed_then}
use Rattle.admin_mgr.proofs.PlanRows.PlanLaws.{plan_of}
use Rattle.admin_mgr.proofs.StateAfter.RemovalLaws.{good_after_delete_role}
use Rattle.admin_mgr.proofs.PlanRows.EndingTurns.{turns_delete_role}
use Rattle.admin_mgr.proofs.planning.core_rbac.plan_delete_role.Goals as goal

pub returns-clause-planned : goal.returns-clause-planned
unfolding after changed end_sessions tally
returns-clause-planned c =
    let S = c.args.state.now.facts in
    let taken = listed_then c.in_ok-take.ensures.ok c.new-changes.ensures.items (λ i. Take ((c.role.ensures ∙ ap (NameRow ROLE) c.in_ok-copy.ensures.ok) i) ∷ []) in
    let deassigned = listed_then c.in_ok-take_assignments_of_role.ensures.ok taken refl in
    let revoked = listed_then c.in_ok-take_grants_of_role.ensures.ok deassigned refl in
    plan_of S (DeleteRole c.args.role.now) c.plain.result _ refl
    (c.plain.ensures.changes ∙ listed_then c.in_ok-take_ended.ensures.ok revoked refl)
    c.plain.ensures.report
    (turns_delete_role S c.recall_good.ensures c.args.role.now c.requires.accepted)
    (good_after_delete_role S c.recall_good.ensures c.args.role.now c.requires.accepted)
    c.plain.ensures.order refl
