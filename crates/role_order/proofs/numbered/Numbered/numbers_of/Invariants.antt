use Rattle.std.proofs.Common.{◌≡◌, map, take}
use Rattle.role_order.specs.private.Numbered.{number_of}
use Rattle.role_order.proofs.numbered.Numbered.numbers_of.Given as goal

-- the numbers of the names so far
abbrev pub invariant-loop-name : goal.invariant-loop-name
invariant-loop-name l = l.numbers.items ≡ map (number_of l.self.numbers) (take l.name-index l.names)
