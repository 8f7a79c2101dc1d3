use Rattle.std.proofs.Common.{◌∙◌}
use Rattle.review_mgr.proofs.ReportCounts.{granted-counted}
use Rattle.review_mgr.proofs.report.count_granted.Goals as goal

pub returns : goal.returns
returns c =
    rw c.deref.ensures.value at c.count_number.ensures
    ∙ granted-counted c.args.state.now.facts c.recall_good.ensures c.args.numbers.now c.requires.numbering c.args.role.now c.requires.role c.number_of.result c.number_of.ensures
