use Rattle.std.proofs.Common.{[], ◌∷◌, ◌++◌, ◌∙◌, ap}
use Rattle.std.specs.Prelude.{filter}
use Rattle.rbac_sets.specs.Sets.{members}
use Rattle.rbac_sets.specs.declared.row.Row.TheVariants.{PairRow}
use Rattle.rbac_sets.specs.declared.row.TheConstants.Row.{PERMISSION}
use Rattle.rbac_sets.specs.declared.row.Change.TheVariants.{Take}
use Rattle.admin_mgr.specs.private.PlanChanges.{grant_row, take_all}
use Rattle.admin_mgr.proofs.PlanRows.RemovalPlans.{is_grant_of, done_delete_permission}
use Rattle.admin_mgr.proofs.planning.core_rbac.plan_delete_permission.Goals as goal

pub returns-clause-planned : goal.returns-clause-planned
returns-clause-planned c =
    let grants = c.with_first.ensures ∙ ap (λ s. filter (is_grant_of c.args.object.now c.args.operation.now) (members s)) c.grants.ensures in
    let taken = c.in_ok-take.ensures.ok ∙ (λ i. c.new-changes.ensures.items i ++ Take ((c.permission.ensures ∙ (λ j. PairRow PERMISSION (c.in_ok-copy.ensures.ok j) (c.in_ok-copy-2.ensures.ok j))) i) ∷ []) in
    done_delete_permission c.args.state.now.facts c.recall_good.ensures c.args.object.now c.args.operation.now c.requires.accepted c.plain.result (record {
      changes = c.plain.ensures.changes ∙ c.in_ok-take_grants.ensures.ok ∙ (λ i. taken i ++ take_all grant_row (grants i));
      report = c.plain.ensures.report;
      order = c.plain.ensures.order;
    })
