use Rattle.bit_rows.proofs.RowLaws.{AreApart}
use Rattle.bit_rows.proofs.words.meets.Given as goal

abbrev pub invariant-loop-i : goal.invariant-loop-i
invariant-loop-i l = AreApart l.a l.b l.i
