use Rattle.std.proofs.Common.{◌≡◌, length}
use Rattle.reach_bits.proofs.Joining.{AreLeading}
use Rattle.reach_bits.proofs.rows.put_leading.Given as goal

abbrev pub invariant-loop-x : goal.invariant-loop-x
invariant-loop-x l = AreLeading l.leading l.rows l.a l.x × (length l.leading ≡ length l.fn.leading)
