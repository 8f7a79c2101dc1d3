use Rattle.std.proofs.Common.{refl, sym, ◌∙◌, subst, take}
use Rattle.access_index.specs.Index.{Keeps}
use Rattle.access_index.specs.private.Changing.{rows_after}
use Rattle.access_index.proofs.PlanLaws.{rows_after_more}
use Rattle.access_index.proofs.index.AccessIndex.change_bits.Goals as goal

pub loop-change-init : goal.loop-change-init
loop-change-init c = (λ rows keeps. keeps, refl)

pub loop-change-preserved : goal.loop-change-preserved
loop-change-preserved c =
    let changes = c.args.changes.now in
    let i = c.loop-change.change-index in (
      λ rows keeps.
          subst (λ after. Keeps c.change_bit.new.self after) (sym (rows_after_more rows changes i c.change-item.result c.loop-change-test.true c.change-item.is))
          (c.in_ok-change_bit.ensures.ok (rows_after rows (take i changes)) (c.loop-change.invariant.0 rows keeps)),
      c.change_bit.ensures.seeds ∙ c.loop-change.invariant.1,
    )
