use Rattle.std.proofs.Common.{refl, ◌∙◌}
use Rattle.access_index.proofs.AuthorizedLaws.{both_changes}
use Rattle.access_index.proofs.index.AccessIndex.count_changed.Goals as goal

pub loop-change-init : goal.loop-change-init
loop-change-init c = (λ rows keeps. keeps, refl, refl)

pub loop-change-preserved : goal.loop-change-preserved
loop-change-preserved c = (
  λ rows keeps. c.count_change.ensures.keeps rows (c.loop-change.invariant.0 rows keeps),
  both_changes c.args.self.now c.loop-change.self c.count_change.new.self c.loop-change.invariant.1 c.count_change.ensures.rest,
  c.count_change.ensures.seed ∙ c.loop-change.invariant.2,
)
