use Rattle.std.proofs.Common.{◌+◌, set, sym, subst, arith}
use Rattle.role_lines.specs.RowParts.{parts_of}
use Rattle.role_lines.specs.RowsLeft.{rows_left}
use Rattle.rbac_c.specs.private.Copied.{is_row_of}
use Rattle.rbac_c.proofs.CopiedRows.{HasCopied, all_copied, next_row, no_room, one_more}
use Rattle.rbac_c.proofs.copying.copy_rows.Goals as goal

pub loop-count-preserved : goal.loop-count-preserved
loop-count-preserved c =
    let next = next_row c.loop-count.count (rows_left c.args.rows) _ _ (parts_of c.in-Some.row) c.loop-count.invariant.left c.in-Some.ensures.steps in
    record {
      copied = subst (λ row. HasCopied (is_row_of (rows_left c.args.rows)) 0 c.args.out.now c.put_row-at.new.out c.args.lengths.now (set c.loop-count.lengths c.loop-count.count row) c.put_row-at.result (c.loop-count.count + 1))
          (sym c.row_lengths.ensures)
          (one_more (is_row_of (rows_left c.args.rows)) 0 c.args.out.now c.loop-count.out c.args.lengths.now c.loop-count.lengths c.loop-count.at c.loop-count.count (parts_of c.in-Some.row) c.put_row-at.new.out c.put_row-at.result
          c.loop-count.invariant.copied next.0 (omega (arith, c.loop-count-test.true)) (omega (arith, c.put_row-at.ensures.end, c.loop-count.invariant.copied.within)) c.put_row-at.ensures.end
          c.put_row-at.ensures.names c.put_row-at.ensures.behind);
      left = next.1;
    }

pub returns-in_default : goal.returns-in_default
returns-in_default c =
    all_copied (rows_left c.args.rows) c.args.out.now c.loop-count.out c.args.lengths.now c.loop-count.lengths c.loop-count.at c.loop-count.count c.loop-count.invariant.copied
    (rows_left c.loop-count.rows) c.loop-count.invariant.left c.in_default.ensures.steps.0

pub returns-then-not-fits : goal.returns-then-not-fits
returns-then-not-fits c =
    no_room (rows_left c.args.rows) c.args.out.now c.loop-count.out c.args.lengths.now c.loop-count.lengths c.loop-count.at c.loop-count.count c.loop-count.invariant.copied
    (rows_left c.loop-count.rows) _ (parts_of c.in-Some.row) c.fits.result c.loop-count.invariant.left c.in-Some.ensures.steps c.fits.ensures.1 c.if-not-fits.true
