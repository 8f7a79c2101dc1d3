use Rattle.std.proofs.Common.{◌≡◌, ◌-◌, ◌*◌, length}
use Rattle.reach_bits.proofs.Joining.{IsMade}
use Rattle.reach_bits.proofs.rows.make_row.Given as goal

abbrev pub invariant-loop-k : goal.invariant-loop-k
invariant-loop-k l = IsMade l.made l.edges l.rows l.from × (length l.made ≡ length l.fn.made)

abbrev pub decreases-loop-k : goal.decreases-loop-k
decreases-loop-k l = 64 * length l.edges - l.from
