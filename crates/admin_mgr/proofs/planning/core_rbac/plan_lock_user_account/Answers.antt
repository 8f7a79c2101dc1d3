use Rattle.std.proofs.Common.{◌∙◌, refl}
use Rattle.rbac_sets.specs.declared.command.Command.TheVariants.{LockUserAccount}
use Rattle.admin_mgr.specs.Assignment.{end_sessions}
use Rattle.admin_mgr.specs.Run.{tally}
use Rattle.admin_mgr.specs.After.{changed, after}
use Rattle.admin_mgr.proofs.PlanRows.ListLaws.{listed_then}
use Rattle.admin_mgr.proofs.PlanRows.PlanLaws.{plan_of}
use Rattle.admin_mgr.proofs.StateAfter.RemovalLaws.{good_after_lock_user_account}
use Rattle.admin_mgr.proofs.PlanRows.EndingTurns.{turns_lock_user_account}
use Rattle.admin_mgr.proofs.planning.core_rbac.plan_lock_user_account.Goals as goal

pub returns-clause-planned : goal.returns-clause-planned
unfolding after changed end_sessions tally
returns-clause-planned c =
    let S = c.args.state.now.facts in
    let ended = listed_then c.in_ok-take_ended.ensures.ok c.new-changes.ensures.items refl in
    plan_of S (LockUserAccount c.args.user.now) c.plain.result _ refl
    (c.plain.ensures.changes ∙ listed_then c.in_ok-put_lock.ensures.ok ended refl)
    c.plain.ensures.report
    (turns_lock_user_account S c.recall_good.ensures c.args.user.now)
    (good_after_lock_user_account S c.recall_good.ensures c.args.user.now c.requires.accepted)
    c.plain.ensures.order refl
