use Rattle.bit_rows.proofs.RowLaws.{IsFullTo}
use Rattle.bit_rows.proofs.words.first_absent.Given as goal

abbrev pub invariant-loop-i : goal.invariant-loop-i
invariant-loop-i l = IsFullTo l.words l.i
