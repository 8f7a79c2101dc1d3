use Rattle.std.proofs.Common.{◌∙◌, ap, arith}
use Rattle.bit_rows.specs.Rows.{has_bit}
use Rattle.bit_rows.proofs.RowLaws.{has_more}
use Rattle.bit_rows.proofs.words.widen.Goals as goal

pub loop-words-preserved : goal.loop-words-preserved
loop-words-preserved c = (
  omega (arith, c.loop-words.invariant.0, c.in_ok-push.ensures.len),
  λ n. ap (λ words. has_bit words n) c.in_ok-push.ensures.items ∙ has_more c.loop-words.words.items n ∙ c.loop-words.invariant.1 n,
)
