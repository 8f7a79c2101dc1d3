use Rattle.std.proofs.Common.{arith}
use Rattle.bit_rows.proofs.RowLaws.{has_here, has_other}
use Rattle.bit_rows.proofs.words.put.Goals as goal

pub returns-clause-there : goal.returns-clause-there
returns-clause-there c = has_here c.args.words.now c.args.number c.with.result (omega arith) c.with.ensures.there

pub returns-clause-others : goal.returns-clause-others
returns-clause-others c = has_other c.args.words.now c.args.number c.with.result (omega arith) (λ i low differ. c.with.ensures.others i differ)
