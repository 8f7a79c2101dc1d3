use Rattle.std.proofs.Common.{refl, ◌∙◌}
use Rattle.access_index.proofs.AuthorizedLaws.{both_changes}
use Rattle.access_index.proofs.index.AccessIndex.count_users.Goals as goal

pub loop-user-init : goal.loop-user-init
loop-user-init c = (λ rows keeps. keeps, refl, refl)

pub loop-user-preserved : goal.loop-user-preserved
loop-user-preserved c = (
  λ rows keeps. c.count_user.ensures.keeps rows (c.loop-user.invariant.0 rows keeps),
  both_changes c.args.self.now c.loop-user.self c.count_user.new.self c.loop-user.invariant.1 c.count_user.ensures.rest,
  c.count_user.ensures.seed ∙ c.loop-user.invariant.2,
)
