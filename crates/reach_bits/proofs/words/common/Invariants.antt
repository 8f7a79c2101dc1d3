use Rattle.bit_rows.proofs.RowLaws.{AreApart}
use Rattle.reach_bits.proofs.words.common.Given as goal

abbrev pub invariant-loop-i : goal.invariant-loop-i
invariant-loop-i l = AreApart l.words l.others l.i
