use Rattle.std.proofs.Common.{◌++◌, ◌∷◌, [], sym, ◌∙◌, ap}
use Rattle.rbac_sets.specs.declared.row.Row.TheVariants.{SetRow}
use Rattle.rbac_sets.specs.declared.row.Change.TheVariants.{Take}
use Rattle.admin_mgr.specs.private.HolderRoles.{run_of}
use Rattle.admin_mgr.specs.private.PlanChanges.{pair_row, take_all}
use Rattle.admin_mgr.proofs.PlanRows.SetCommandTurns.{plan_of_delete_set, none_deleted}
use Rattle.admin_mgr.proofs.planning.separation.plan_delete_set.Goals as goal
use Rattle.admin_mgr.proofs.planning.separation.plan_delete_set.Goals.{in-Some+in_ok-set_row+in_ok-take, in_default}
use Rattle.admin_mgr.proofs.Verdicts.VerdictLaws.{none_unless_some}

pub returns-clause-planned : goal.returns-clause-planned
returns-clause-planned c = elim c.match-cardinality.branch [
  | in-Some+in_ok-set_row+in_ok-take w ↦
      plan_of_delete_set c.args.duty c.args.state.now.facts c.recall_good.ensures c.plain.result c.plain.ensures.report c.plain.ensures.order c.args.set.now w.in-Some.cardinality
      (sym c.cardinality.ensures ∙ w.in-Some.is)
      (c.plain.ensures.changes ∙ c.in_ok-take_pairs.ensures.ok
      ∙ (λ i. (ap (λ changes. changes.items) w.changes-is ∙ w.in_ok-take.ensures.ok ∙ (λ j. c.new-changes.ensures.items j ++ Take ((w.in_ok-set_row.ensures.ok ∙ (λ k. SetRow (w.cardinality_rows.ensures k) c.args.set.now w.in-Some.cardinality)) j) ∷ [])) i
      ++ take_all (pair_row (c.member_rows.ensures i)) ((c.of.ensures ∙ c.with_first.ensures ∙ ap (λ pairs. run_of pairs c.args.set.now) c.members.ensures) i)))
  | in_default w ↦ absurd (none_deleted c.args.duty c.args.state.now.facts c.args.set.now (sym c.cardinality.ensures ∙ none_unless_some _ w.in_default.not-Some) c.requires.accepted)
]
