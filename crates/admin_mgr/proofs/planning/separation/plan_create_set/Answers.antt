use Rattle.std.proofs.Common.{◌++◌, ◌∷◌, [], ◌∙◌}
use Rattle.rbac_sets.specs.declared.row.Row.TheVariants.{PairRow, SetRow}
use Rattle.rbac_sets.specs.declared.row.Change.TheVariants.{Put}
use Rattle.admin_mgr.specs.private.PlanChanges.{put_all}
use Rattle.admin_mgr.proofs.PlanRows.SetCommandTurns.{plan_of_create_set}
use Rattle.admin_mgr.proofs.planning.separation.plan_create_set.Goals as goal

pub returns-clause-planned : goal.returns-clause-planned
returns-clause-planned c =
    plan_of_create_set c.args.duty c.args.state.now.facts c.recall_good.ensures c.plain.result c.plain.ensures.report c.plain.ensures.order c.args.set.now c.args.roles.now c.args.cardinality c.requires.accepted
    (c.plain.ensures.changes ∙ c.in_ok-put_paired.ensures.ok
    ∙ (λ i. (c.in_ok-put.ensures.ok ∙ (λ j. c.new-changes.ensures.items j ++ Put ((c.in_ok-set_row.ensures.ok ∙ (λ k. SetRow (c.cardinality_rows.ensures k) c.args.set.now c.args.cardinality)) j) ∷ [])) i ++ put_all (λ role. PairRow (c.member_rows.ensures i) c.args.set.now role) (c.as_slice.ensures i)))
