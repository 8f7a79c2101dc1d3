use Rattle.std.proofs.Common.{sym, ap, ◌∙◌, ◌++◌, take}
use Rattle.review_mgr.specs.Report.{columns}
use Rattle.review_mgr.proofs.Columns.{columns-more}
use Rattle.review_mgr.proofs.report.text_of.Goals as goal

pub loop-number-preserved : goal.loop-number-preserved
loop-number-preserved c =
    c.in_ok-push_str.ensures.bytes ∙ ap (λ l. l ++ c.as_str.result.now) c.loop-number.invariant
    ∙ ap (λ l. columns (take c.loop-number.number-index c.args.counts.now) ++ l) (c.as_str.ensures.value ∙ c.in_ok-column.ensures.ok)
    ∙ sym (columns-more c.args.counts.now c.loop-number.number-index c.loop-number-test.true)
