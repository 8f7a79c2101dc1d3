use Rattle.std.proofs.Common.{rules, refl, arith, ◌∙◌}
use Rattle.role_tables.proofs.Meanings.Surviving.{survives_none, survives_both, keeps_both}
use Rattle.role_tables.proofs.OfficeTables.Staging.{stage_none, stage_more, stage_all}
use Rattle.role_tables.proofs.StoredRows.Texts.{keeps_itself}
use Rattle.role_tables.proofs.creating.create_tables.Goals as goal

pub tables-init : goal.tables-init
tables-init g c = (refl, survives_none _, λ _. keeps_itself _, λ _. stage_none _)

pub returns-in_err-create_table-clause-same_reference : goal.returns-in_err-create_table-clause-same_reference
returns-in_err-create_table-clause-same_reference g c = c.create_table.ensures.same_reference ∙ c.tables.invariant.0

pub returns-in_err-create_table-clause-kept : goal.returns-in_err-create_table-clause-kept
returns-in_err-create_table-clause-kept g c clean = keeps_both _ _ _ clean c.create_table.ensures.survives c.tables.invariant.2 c.create_table.ensures.kept

pub returns-in_err-create_table-clause-survives : goal.returns-in_err-create_table-clause-survives
returns-in_err-create_table-clause-survives g c = survives_both _ _ _ c.tables.invariant.1 c.create_table.ensures.survives

pub tables-preserved : goal.tables-preserved
tables-preserved g c = (
  c.create_table.ensures.same_reference ∙ c.tables.invariant.0,
  survives_both _ _ _ c.tables.invariant.1 c.create_table.ensures.survives,
  λ clean. keeps_both _ _ _ clean c.create_table.ensures.survives c.tables.invariant.2 c.create_table.ensures.kept,
  λ clean. stage_more _ _ _ c.args.tables.now c.tables.table-index _ (omega (arith, c.tables-test.true)) (search rules)
      (c.tables.invariant.3 (omega (arith, clean, c.create_table.ensures.survives.clean))) (c.in_ok-create_table.ensures.made clean),
)

pub returns-clause-same_reference : goal.returns-clause-same_reference
returns-clause-same_reference g c = c.tables.invariant.0

pub returns-clause-made : goal.returns-clause-made
returns-clause-made g c clean = stage_all _ _ c.args.tables.now c.tables.table-index (search rules) (c.tables.invariant.3 clean)

pub returns-clause-kept : goal.returns-clause-kept
returns-clause-kept g c = c.tables.invariant.2

pub returns-clause-survives : goal.returns-clause-survives
returns-clause-survives g c = c.tables.invariant.1
