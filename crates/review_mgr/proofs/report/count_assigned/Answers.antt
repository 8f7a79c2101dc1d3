use Rattle.std.proofs.Common.{◌∙◌}
use Rattle.review_mgr.proofs.ReportCounts.{assigned-counted}
use Rattle.review_mgr.proofs.report.count_assigned.Goals as goal

pub returns : goal.returns
returns c =
    rw c.deref.ensures.value at c.count_runs_with.ensures
    ∙ assigned-counted c.args.state.now.facts c.recall_good.ensures c.args.numbers.now c.requires.numbering c.args.role.now c.requires.role c.number_of.result c.number_of.ensures
