use Rattle.std.proofs.Common.{◌≡◌, ◌+◌, sym, subst, arith}
use Rattle.std.specs.Prelude.{slice_get}
use Rattle.role_lines.specs.RowParts.{parts_of}
use Rattle.role_lines.specs.RowsLeft.{rows_left}
use Rattle.role_lines.specs.StoredRow.{IsRowAt}
use Rattle.role_lines.proofs.RowsFrom.{first_given}
use Rattle.role_lines.proofs.rows.row_at.Goals as goal

pub returns : goal.returns
returns c =
    let rows = c.rows_from.result in
    let facts = c.args.state.now.facts in
    let place : c.args.index + 0 ≡ c.args.index = omega arith in
    let at : IsRowAt facts c.args.table c.args.index (slice_get (rows_left rows) 0) = subst (λ index. IsRowAt facts c.args.table index (slice_get (rows_left rows) 0)) place (c.rows_from.ensures 0) in
    subst (IsRowAt facts c.args.table c.args.index) (sym (first_given parts_of rows_left rows c.next.new.self c.next.result c.next.ensures.steps)) at
