use Rattle.role_order.proofs.Closing.{good_none}
use Rattle.role_order.proofs.Numbering.{AreEdgesOf-none}
use Rattle.role_order.proofs.order.RoleOrder.new.Goals as goal

pub invariant_of-result : goal.invariant_of-result
invariant_of-result c =
    let good = good_none _ _ c.new.ensures c.new-2.ensures in
    (good.0, good.1, AreEdgesOf-none c.new-3.result _ c.new.ensures c.new-3.ensures)
