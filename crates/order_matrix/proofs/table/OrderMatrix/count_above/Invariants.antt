use Rattle.std.proofs.Common.{◌≡◌, ◌≤◌, take}
use Rattle.order_matrix.specs.Table.{count_above}
use Rattle.order_matrix.proofs.table.OrderMatrix.count_above.Given as goal

-- how many of the roles so far
abbrev pub invariant-loop-above : goal.invariant-loop-above
invariant-loop-above l = (l.count ≡ count_above (take l.above l.self) l.below) × (l.count ≤ l.above)
