use Rattle.rbac_sets.specs.Sets.{pair_cmp}
use Rattle.rbac_sets.specs.SortedSet.{set_of}
use Rattle.role_order.proofs.plan.OrderPlan.new.Goals as goal

pub returns-clause-ok : goal.returns-clause-ok
returns-clause-ok c = λ i. record {
  adds = c.args.adds;
  asc = c.in_ok-copy-3.ensures.ok i;
  desc = c.in_ok-copy-4.ensures.ok i;
  puts = set_of pair_cmp c.args.puts;
  takes = set_of pair_cmp c.args.takes;
  judged = c.args.judged;
}
