use Rattle.bit_rows.proofs.RowLaws.{NoneWithout}
use Rattle.bit_rows.proofs.words.meets_without.Given as goal

abbrev pub invariant-loop-i : goal.invariant-loop-i
invariant-loop-i l = NoneWithout l.a l.b l.without l.i
