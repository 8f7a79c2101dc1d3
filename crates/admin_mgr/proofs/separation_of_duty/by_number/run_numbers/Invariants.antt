use Rattle.std.proofs.Common.{◌≡◌, ◌++◌, map, take}
use Rattle.order_matrix.specs.Table.{numbers_of}
use Rattle.admin_mgr.proofs.separation_of_duty.by_number.run_numbers.Given as goal

abbrev pub invariant-loop-run : goal.invariant-loop-run
invariant-loop-run l = map (λ run. run.items) l.numbers.items ≡ map (λ run. numbers_of l.roles run ++ l.more) (take l.run-index l.fn.runs)
