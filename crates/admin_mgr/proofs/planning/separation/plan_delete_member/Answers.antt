use Rattle.std.proofs.Common.{◌++◌, ◌∷◌, [], ◌∙◌}
use Rattle.rbac_sets.specs.declared.row.Row.TheVariants.{PairRow}
use Rattle.rbac_sets.specs.declared.row.Change.TheVariants.{Take}
use Rattle.admin_mgr.proofs.PlanRows.SetCommandTurns.{plan_of_delete_member}
use Rattle.admin_mgr.proofs.planning.separation.plan_delete_member.Goals as goal

pub returns-clause-planned : goal.returns-clause-planned
returns-clause-planned c =
    plan_of_delete_member c.args.duty c.args.state.now.facts c.recall_good.ensures c.plain.result c.plain.ensures.report c.plain.ensures.order c.args.set.now c.args.role.now c.requires.accepted
    (c.plain.ensures.changes ∙ c.in_ok-take.ensures.ok ∙ (λ i. c.new-changes.ensures.items i ++ Take ((c.in_ok-pair_row.ensures.ok ∙ (λ j. PairRow (c.member_rows.ensures j) c.args.set.now c.args.role.now)) i) ∷ []))
