use Rattle.reach_bits.proofs.Joining.{AreJoined}
use Rattle.reach_bits.proofs.rows.join.Given as goal

abbrev pub invariant-loop-x : goal.invariant-loop-x
invariant-loop-x l = AreJoined l.rows l.initial.rows l.a l.added l.x
