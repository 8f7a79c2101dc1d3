use Rattle.std.proofs.Common.{◌≡◌, ◌+◌, arith, ◌∙◌}
use Rattle.rbac_sets.specs.Sets.{len}
use Rattle.role_order.specs.Order.{seniors}
use Rattle.review_mgr.proofs.ReportCounts.{seniors-counted}
use Rattle.review_mgr.proofs.report.count_seniors.Goals as goal

pub overflow_sub-result : goal.overflow_sub-result
overflow_sub-result c =
    let more : c.count_above-above.result ≡ len (seniors c.args.state.now.facts.edges c.args.role.now) + 1 =
    c.count_above-above.ensures ∙ seniors-counted c.args.state.now.facts c.recall_good.ensures c.args.numbers.now c.requires.numbering c.args.role.now c.requires.role c.number_of.result c.number_of.ensures in
    omega (arith, more)

pub returns : goal.returns
returns c =
    let more : c.count_above-above.result ≡ len (seniors c.args.state.now.facts.edges c.args.role.now) + 1 =
    c.count_above-above.ensures ∙ seniors-counted c.args.state.now.facts c.recall_good.ensures c.args.numbers.now c.requires.numbering c.args.role.now c.requires.role c.number_of.result c.number_of.ensures in
    omega (arith, more)
