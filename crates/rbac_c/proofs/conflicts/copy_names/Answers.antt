use Rattle.std.proofs.Common.{◌≡◌, refl, rules}
use Rattle.role_lines.specs.RowsLeft.{rows_left}
use Rattle.role_lines.specs.StoredRow.{name_at}
use Rattle.rbac_c.proofs.CopiedRows.{copied_from}
use Rattle.rbac_c.proofs.conflicts.copy_names.Goals as goal

pub returns : goal.returns
returns c = (refl, (search rules, copied_from (λ place row. row ≡ name_at c.args.names.now place) c.args.index (rows_left c.of_names.result) c.of_names.ensures _ _ _ c.copy_rows.ensures))
