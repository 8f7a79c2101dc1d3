use Rattle.std.proofs.Common.{inl, refl}
use Rattle.role_lines.specs.RowsLeft.{rows_left}
use Rattle.role_lines.specs.StoredRow.{IsRowAt}
use Rattle.rbac_c.proofs.CopiedRows.{copied_from}
use Rattle.rbac_c.proofs.calls.rows.Goals as goal

pub returns : goal.returns
returns c =
    let copied = copied_from (IsRowAt c.state.result.now.facts c.in-Some.table) c.args.index (rows_left c.rows_from.result) c.rows_from.ensures _ _ _ c.copy_rows.ensures in
    inl (c.in-Some.table, (c.in-Some.ensures.some, (refl, rw c.state.ensures at copied)))
