use Rattle.std.proofs.Common.{◌≤◌, ◌-◌}
use Rattle.bit_rows.specs.declared.row.TheConstants.{WIDTH}
use Rattle.access_index.proofs.authorizing.has_many.Given as goal

abbrev pub invariant-loop-number : goal.invariant-loop-number
invariant-loop-number l = l.count ≤ l.from

abbrev pub decreases-loop-number : goal.decreases-loop-number
decreases-loop-number l = WIDTH - l.from
