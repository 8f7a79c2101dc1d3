use Rattle.bit_rows.proofs.RowLaws.{AreChanged}
use Rattle.bit_rows.proofs.RowLaws.{in_union}
use Rattle.bit_rows.proofs.words.put_all.Given as goal

abbrev pub invariant-loop-i : goal.invariant-loop-i
invariant-loop-i l = AreChanged l.words l.initial.words (in_union l.initial.words l.others) l.i
