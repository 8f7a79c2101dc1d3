use Rattle.std.proofs.Common.{arith}
use Rattle.bit_rows.proofs.RowLaws.{absent_past}
use Rattle.bit_rows.proofs.row.BitRow.take.Goals as goal

pub returns-else-number-len-clause-gone : goal.returns-else-number-len-clause-gone
returns-else-number-len-clause-gone c = absent_past c.args.self.now.words.items c.args.number (omega (arith, c.len.ensures))
