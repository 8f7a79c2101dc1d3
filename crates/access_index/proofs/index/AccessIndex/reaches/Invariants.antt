use Rattle.std.proofs.Common.{◌-◌}
use Rattle.bit_rows.specs.declared.row.TheConstants.{WIDTH}
use Rattle.bit_tables.specs.Tables.{holds, holds_without}
use Rattle.access_index.proofs.FindLaws.{NoneReached}
use Rattle.access_index.proofs.index.AccessIndex.reaches.Given as goal

abbrev pub invariant-loop-number : goal.invariant-loop-number
invariant-loop-number l = NoneReached l.self.juniors.items (holds l.active) (holds_without l.granted l.barred) l.from

abbrev pub decreases-loop-number : goal.decreases-loop-number
decreases-loop-number l = WIDTH - l.from
