use Rattle.std.proofs.Common.{◌++◌, ◌∙◌, ap}
use Rattle.admin_mgr.specs.private.PlanChanges.{session_rows}
use Rattle.admin_mgr.proofs.PlanRows.RemovalPlans.{done_delete_session}
use Rattle.admin_mgr.proofs.planning.sessions.plan_delete_session.Goals as goal

pub returns-clause-planned : goal.returns-clause-planned
returns-clause-planned c = done_delete_session c.args.state.now.facts c.recall_good.ensures c.args.user.now c.args.session.now c.requires.accepted c.plain.result (record {
  changes = c.plain.ensures.changes ∙ c.in_ok-take_session.ensures.ok ∙ ap (λ changes. changes ++ session_rows c.args.state.now.facts (c.args.session.now, c.args.user.now)) c.new-changes.ensures.items;
  report = c.plain.ensures.report;
  order = c.plain.ensures.order;
})
