use Rattle.std.proofs.Common.{◌++◌, ◌∙◌, ap}
use Rattle.admin_mgr.specs.private.PlanChanges.{lock_rows}
use Rattle.admin_mgr.proofs.PlanRows.RemovalPlans.{done_unlock_user_account}
use Rattle.admin_mgr.proofs.planning.core_rbac.plan_unlock_user_account.Goals as goal

pub returns-clause-planned : goal.returns-clause-planned
returns-clause-planned c = done_unlock_user_account c.args.state.now.facts c.recall_good.ensures c.args.user.now c.requires.accepted c.plain.result (record {
  changes = c.plain.ensures.changes ∙ c.in_ok-take_lock.ensures.ok ∙ ap (λ changes. changes ++ lock_rows c.args.state.now.facts c.args.user.now) c.new-changes.ensures.items;
  report = c.plain.ensures.report;
  order = c.plain.ensures.order;
})
