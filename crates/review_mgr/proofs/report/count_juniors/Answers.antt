use Rattle.std.proofs.Common.{length, ap, ◌∙◌}
use Rattle.rbac_sets.specs.Sets.{Pairs, len, pair_cmp}
use Rattle.rbac_sets.specs.SortedSet.{set_of}
use Rattle.role_order.specs.Order.{juniors}
use Rattle.review_mgr.proofs.Numbered.{length-juniors}
use Rattle.review_mgr.proofs.report.count_juniors.Goals as goal

pub returns : goal.returns
returns c =
    c.len.ensures ∙ ap length c.entries_with_first.ensures ∙ length-juniors c.order.result.now.edges (set_of pair_cmp c.pairs.result.now) c.pairs.ensures c.args.role.now
    ∙ ap (λ (edges : Pairs). len (juniors edges c.args.role.now)) c.order.ensures
