use Rattle.std.proofs.Common.{subst}
use Rattle.rbac_sets.specs.Sets.{pair_cmp}
use Rattle.rbac_sets.specs.SortedSet.{set_of}
use Rattle.role_order.specs.Order.{IsClosure}
use Rattle.rbac_c.proofs.range.range.Goals as goal

pub returns-in-ClosurePairs : goal.returns-in-ClosurePairs
returns-in-ClosurePairs c =
    let pairs = set_of pair_cmp c.pairs.result.now in
    rw c.in-ClosurePairs.is (pairs, subst (λ edges. IsClosure edges pairs) c.order-in-ClosurePairs.ensures c.pairs.ensures, (c.range-in-ClosurePairs.ensures.start, c.range-in-ClosurePairs.ensures.end))
