use Rattle.std.proofs.Common.{arith}
use Rattle.bit_rows.proofs.RowLaws.{absent_here, has_other}
use Rattle.bit_rows.proofs.words.take.Goals as goal

pub returns-clause-gone : goal.returns-clause-gone
returns-clause-gone c = absent_here c.args.words.now c.args.number c.without.result (omega arith) c.without.ensures.gone

pub returns-clause-others : goal.returns-clause-others
returns-clause-others c = has_other c.args.words.now c.args.number c.without.result (omega arith) (λ i low differ. c.without.ensures.others i low differ)
