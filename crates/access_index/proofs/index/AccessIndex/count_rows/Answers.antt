use Rattle.std.proofs.Common.{refl, ◌∙◌}
use Rattle.access_index.proofs.AuthorizedLaws.{both_changes}
use Rattle.access_index.proofs.index.AccessIndex.count_rows.Goals as goal

pub loop-row-init : goal.loop-row-init
loop-row-init c = (λ rows keeps. keeps, refl, refl)

pub loop-row-preserved : goal.loop-row-preserved
loop-row-preserved c = (
  λ rows keeps. c.count_row.ensures.keeps rows (c.loop-row.invariant.0 rows keeps),
  both_changes c.args.self.now c.loop-row.self c.count_row.new.self c.loop-row.invariant.1 c.count_row.ensures.rest,
  c.count_row.ensures.seed ∙ c.loop-row.invariant.2,
)
