use Rattle.bit_rows.proofs.RowLaws.{AreChanged, in_either}
use Rattle.bit_rows.proofs.words.put_common.Given as goal

abbrev pub invariant-loop-i : goal.invariant-loop-i
invariant-loop-i l = AreChanged l.words l.initial.words (in_either l.initial.words l.a l.b) l.i
