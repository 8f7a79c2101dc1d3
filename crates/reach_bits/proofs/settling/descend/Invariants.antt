use Rattle.std.proofs.Common.{◌*◌, ◌<◌, length}
use Rattle.std.specs.Prelude.{IsTrue}
use Rattle.bit_rows.specs.Rows.{has_bit}
use Rattle.reach_bits.specs.Graph.{has_edge}
use Rattle.reach_bits.proofs.Counting.{count}
use Rattle.reach_bits.proofs.settling.descend.Given as goal

abbrev pub invariant-loop-k : goal.invariant-loop-k
invariant-loop-k l = (l.at < length l.rows) × IsTrue (has_bit l.pending l.at)

abbrev pub decreases-loop-k : goal.decreases-loop-k
decreases-loop-k l = count (has_edge l.rows l.at) (64 * length l.pending)
