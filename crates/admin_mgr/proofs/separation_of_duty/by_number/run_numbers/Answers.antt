use Rattle.std.proofs.Common.{◌++◌}
use Rattle.order_matrix.specs.Table.{numbers_of}
use Rattle.order_matrix.proofs.Mapped.{mapped_more_through}
use Rattle.admin_mgr.proofs.separation_of_duty.by_number.run_numbers.Goals as goal

pub loop-run-preserved : goal.loop-run-preserved
loop-run-preserved c =
    mapped_more_through (λ run. numbers_of c.args.roles.now run ++ c.args.more.now) (λ run. run.items)
    c.args.runs.now c.loop-run.run-index c.run-item.result c.loop-run-test.true c.run-item.is c.loop-run.numbers.items c.in_ok-numbers_with.field-0 c.push.new.self.items
    c.in_ok-numbers_with.ensures.ok c.loop-run.invariant c.in_ok-push.ensures.items
