use Rattle.bit_rows.proofs.RowLaws.{IsEmptyFrom}
use Rattle.bit_rows.proofs.words.next.Given as goal

abbrev pub invariant-loop-i : goal.invariant-loop-i
invariant-loop-i l = IsEmptyFrom l.words l.from l.i
