use Rattle.std.proofs.Common.{◌≡◌, ◌-◌, ◌*◌, ◌≤◌, length, vec_len}
use Rattle.reach_bits.proofs.Joining.{AreCopied}
use Rattle.reach_bits.proofs.rows.widened.Given as goal

abbrev pub invariant-loop-row : goal.invariant-loop-row
invariant-loop-row l = (vec_len l.copy ≡ l.row-index) × AreCopied l.copy.items l.rows l.words l.row-index

abbrev pub invariant-loop-alloc : goal.invariant-loop-alloc
invariant-loop-alloc l = (length l.rows ≤ vec_len l.copy) × (vec_len l.copy ≤ 64 * l.words) × AreCopied l.copy.items l.rows l.words (vec_len l.copy)

abbrev pub decreases-loop-alloc : goal.decreases-loop-alloc
decreases-loop-alloc l = 64 * l.words - vec_len l.copy
