use Rattle.std.proofs.Common.{false}
use Rattle.bit_rows.proofs.RowLaws.{AreChanged}
use Rattle.reach_bits.proofs.words.clear.Given as goal

abbrev pub invariant-loop-i : goal.invariant-loop-i
invariant-loop-i l = AreChanged l.words l.initial.words (λ _. false) l.i
