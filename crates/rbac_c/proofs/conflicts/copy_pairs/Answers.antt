use Rattle.std.proofs.Common.{◌≡◌, refl, rules}
use Rattle.role_lines.specs.RowsLeft.{rows_left}
use Rattle.role_lines.specs.StoredRow.{pair_at}
use Rattle.rbac_c.proofs.CopiedRows.{copied_from}
use Rattle.rbac_c.proofs.conflicts.copy_pairs.Goals as goal

pub returns : goal.returns
returns c = (refl, (search rules, copied_from (λ place row. row ≡ pair_at c.args.pairs.now place) c.args.index (rows_left c.of_pairs.result) c.of_pairs.ensures _ _ _ c.copy_rows.ensures))
