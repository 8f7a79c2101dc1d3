use Rattle.std.proofs.Common.{ap, ◌∙◌}
use Rattle.std.specs.Fmt.{styled_decimal}
use Rattle.review_mgr.proofs.Columns.{column-styled}
use Rattle.review_mgr.proofs.report.column.Goals as goal

pub returns-clause-ok : goal.returns-clause-ok
returns-clause-ok c = c.in_ok-format.ensures.ok ∙ ap (λ spec. styled_decimal spec c.args.number) c.laid_out.ensures ∙ column-styled c.args.number
