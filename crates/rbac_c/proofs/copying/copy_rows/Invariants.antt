use Rattle.std.proofs.Common.{◌≡◌, ◌-◌, drop, length}
use Rattle.role_lines.specs.RowsLeft.{rows_left}
use Rattle.rbac_c.specs.private.Copied.{is_row_of}
use Rattle.rbac_c.proofs.CopiedRows.{HasCopied}
use Rattle.rbac_c.proofs.copying.copy_rows.Given as goal

abbrev pub invariant-loop-count : goal.invariant-loop-count
invariant-loop-count l = record {
  copied : HasCopied (is_row_of (rows_left l.fn.rows)) 0 l.fn.out l.out l.fn.lengths l.lengths l.at l.count;
  left : rows_left l.rows ≡ drop l.count (rows_left l.fn.rows);
}

abbrev pub decreases-loop-count : goal.decreases-loop-count
decreases-loop-count l = length l.lengths - l.count
