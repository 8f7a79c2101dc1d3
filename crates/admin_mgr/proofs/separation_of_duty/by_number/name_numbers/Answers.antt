use Rattle.order_matrix.specs.Table.{number_in}
use Rattle.order_matrix.proofs.Mapped.{mapped_more}
use Rattle.admin_mgr.proofs.separation_of_duty.by_number.name_numbers.Goals as goal

pub loop-name-preserved : goal.loop-name-preserved
loop-name-preserved c =
    mapped_more (number_in c.args.roles.now) c.args.names.now c.loop-name.name-index c.name-item.result c.loop-name-test.true c.name-item.is
    c.loop-name.numbers.items c.number.result c.push.new.self.items c.number.ensures.number c.loop-name.invariant c.in_ok-push.ensures.items
