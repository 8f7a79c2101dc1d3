use Rattle.std.proofs.Common.{◌++◌, ◌∷◌, [], sym, ◌∙◌, ap, Some}
use Rattle.rbac_sets.specs.declared.row.Row.TheVariants.{SetRow}
use Rattle.rbac_sets.specs.declared.row.Change.TheVariants.{Put, Take}
use Rattle.admin_mgr.proofs.PlanRows.SetCommandTurns.{plan_of_set_cardinality, plan_of_same_cardinality, none_set}
use Rattle.admin_mgr.proofs.planning.separation.plan_set_cardinality.Goals as goal
use Rattle.admin_mgr.proofs.planning.separation.plan_set_cardinality.Goals.{in-Some+then-before-cardinality+in_ok-set_row+in_ok-take+in_ok-set_row-2+in_ok-put, in-Some+else-before-cardinality, in_default}
use Rattle.admin_mgr.proofs.Verdicts.VerdictLaws.{none_unless_some}

pub returns-clause-planned : goal.returns-clause-planned
returns-clause-planned c = elim c.match-cardinality.branch [
  | in-Some+then-before-cardinality+in_ok-set_row+in_ok-take+in_ok-set_row-2+in_ok-put w ↦
      plan_of_set_cardinality c.args.duty c.args.state.now.facts c.recall_good.ensures c.plain.result c.plain.ensures.report c.plain.ensures.order c.args.set.now w.in-Some.before c.args.cardinality c.requires.accepted
      (sym c.cardinality.ensures ∙ w.in-Some.is) w.if-before-cardinality.true
      (c.plain.ensures.changes ∙ ap (λ changes. changes.items) w.changes-is ∙ w.in_ok-put.ensures.ok
      ∙ (λ i. (w.in_ok-take.ensures.ok ∙ (λ j. c.new-changes.ensures.items j ++ Take ((w.in_ok-set_row.ensures.ok ∙ (λ k. SetRow (w.cardinality_rows.ensures k) c.args.set.now w.in-Some.before)) j) ∷ [])) i ++ Put ((w.in_ok-set_row-2.ensures.ok ∙ (λ k. SetRow (w.cardinality_rows-then-before-cardinality.ensures k) c.args.set.now c.args.cardinality)) i) ∷ []))
  | in-Some+else-before-cardinality w ↦
      plan_of_same_cardinality c.args.duty c.args.state.now.facts c.recall_good.ensures c.plain.result c.plain.ensures.report c.plain.ensures.order c.args.set.now c.args.cardinality c.requires.accepted
      (sym c.cardinality.ensures ∙ w.in-Some.is ∙ ap Some w.if-before-cardinality.false)
      (c.plain.ensures.changes ∙ ap (λ changes. changes.items) w.changes-is ∙ c.new-changes.ensures.items)
  | in_default w ↦ absurd (none_set c.args.duty c.args.state.now.facts c.args.set.now (sym c.cardinality.ensures ∙ none_unless_some _ w.in_default.not-Some) c.args.cardinality c.requires.accepted)
]
