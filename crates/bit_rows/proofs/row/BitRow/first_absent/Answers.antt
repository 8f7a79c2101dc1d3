use Rattle.std.proofs.Common.{arith}
use Rattle.bit_rows.proofs.RowLaws.{absent_past}
use Rattle.bit_rows.proofs.row.BitRow.first_absent.Goals as goal

pub returns-then-past-lt-WIDTH-clause-some : goal.returns-then-past-lt-WIDTH-clause-some
returns-then-past-lt-WIDTH-clause-some c = (omega arith, absent_past c.args.self.now.words.items _ (omega (arith, c.len-past.ensures)))
