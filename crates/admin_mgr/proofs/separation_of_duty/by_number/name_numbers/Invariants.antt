use Rattle.std.proofs.Common.{◌≡◌, map, take}
use Rattle.order_matrix.specs.Table.{number_in}
use Rattle.admin_mgr.proofs.separation_of_duty.by_number.name_numbers.Given as goal

abbrev pub invariant-loop-name : goal.invariant-loop-name
invariant-loop-name l = l.numbers.items ≡ map (number_in l.roles) (take l.name-index l.names)
