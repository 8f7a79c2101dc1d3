use Rattle.std.proofs.Common.{◌-◌}
use Rattle.bit_rows.specs.declared.row.TheConstants.{WIDTH}
use Rattle.bit_tables.specs.Tables.{holds}
use Rattle.access_index.proofs.AuthorizedLaws.{ReachesBelow}
use Rattle.access_index.proofs.index.AccessIndex.with_juniors.Given as goal

abbrev pub invariant-loop-number : goal.invariant-loop-number
invariant-loop-number l = ReachesBelow l.self.juniors.items (holds l.numbers) l.from l.row

abbrev pub decreases-loop-number : goal.decreases-loop-number
decreases-loop-number l = WIDTH - l.from
