use Rattle.std.proofs.Common.{rules, refl, arith, ◌∙◌}
use Rattle.role_tables.proofs.Meanings.Surviving.{survives_none, survives_both, keeps_both}
use Rattle.role_tables.proofs.StoredRows.Texts.{after_none, after_next, after_all, keeps_itself}
use Rattle.role_tables.proofs.writing.make_changes.Goals as goal

pub changes-init : goal.changes-init
changes-init g c = (refl, survives_none _, λ _. keeps_itself _, λ _. after_none _ c.args.changes.now)

pub returns-in_err-make_change-clause-same_reference : goal.returns-in_err-make_change-clause-same_reference
returns-in_err-make_change-clause-same_reference g c = c.make_change.ensures.same_reference ∙ c.changes.invariant.0

pub returns-in_err-make_change-clause-kept : goal.returns-in_err-make_change-clause-kept
returns-in_err-make_change-clause-kept g c clean = keeps_both _ _ _ clean c.make_change.ensures.survives c.changes.invariant.2 c.make_change.ensures.kept

pub returns-in_err-make_change-clause-survives : goal.returns-in_err-make_change-clause-survives
returns-in_err-make_change-clause-survives g c = survives_both _ _ _ c.changes.invariant.1 c.make_change.ensures.survives

pub changes-preserved : goal.changes-preserved
changes-preserved g c = (
  c.make_change.ensures.same_reference ∙ c.changes.invariant.0,
  survives_both _ _ _ c.changes.invariant.1 c.make_change.ensures.survives,
  λ clean. keeps_both _ _ _ clean c.make_change.ensures.survives c.changes.invariant.2 c.make_change.ensures.kept,
  λ clean. after_next _ _ _ c.args.changes.now c.changes.change-index c.change-item.result (omega (arith, c.changes-test.true)) c.change-item.is
      (c.changes.invariant.3 (omega (arith, clean, c.make_change.ensures.survives.clean))) (c.in_ok-make_change.ensures.changed clean),
)

pub returns-clause-same_reference : goal.returns-clause-same_reference
returns-clause-same_reference g c = c.changes.invariant.0

pub returns-clause-changed : goal.returns-clause-changed
returns-clause-changed g c clean = after_all _ _ c.args.changes.now c.changes.change-index (search rules) (c.changes.invariant.3 clean)

pub returns-clause-kept : goal.returns-clause-kept
returns-clause-kept g c = c.changes.invariant.2

pub returns-clause-survives : goal.returns-clause-survives
returns-clause-survives g c = c.changes.invariant.1
