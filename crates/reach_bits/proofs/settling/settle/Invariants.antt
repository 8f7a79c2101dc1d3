use Rattle.std.proofs.Common.{◌*◌, length}
use Rattle.bit_rows.specs.Rows.{has_bit}
use Rattle.reach_bits.proofs.Counting.{count}
use Rattle.reach_bits.proofs.Parting.{IsSettling}
use Rattle.reach_bits.proofs.settling.settle.Given as goal

abbrev pub invariant-loop-next : goal.invariant-loop-next
invariant-loop-next l = IsSettling l.edges l.rows l.pending l.made l.next (length l.fn.pending)

abbrev pub decreases-loop-next : goal.decreases-loop-next
decreases-loop-next l = count (has_bit l.pending) (64 * length l.pending)
