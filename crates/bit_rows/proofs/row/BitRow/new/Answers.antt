use Rattle.std.proofs.Common.{[], ap, ◌∙◌, arith}
use Rattle.bit_rows.specs.Rows.{has_bit}
use Rattle.bit_rows.proofs.RowLaws.{absent_past}
use Rattle.bit_rows.proofs.row.BitRow.new.Goals as goal

pub returns : goal.returns
returns c n = ap (λ words. has_bit words n) c.new.ensures.items ∙ absent_past [] n (omega arith)
