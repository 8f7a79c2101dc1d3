use Rattle.std.proofs.Common.{◌≡◌, ◌++◌}
use Rattle.chunked_sets.specs.Entries.{entries_left}
use Rattle.order_matrix.specs.Table.{numbers_of}
use Rattle.order_matrix.proofs.numbers.second_numbers.Given as goal

abbrev pub invariant-loop-pair : goal.invariant-loop-pair
invariant-loop-pair l = l.numbers.items ++ numbers_of l.names (entries_left l.pair-iterator) ≡ numbers_of l.names l.pairs
