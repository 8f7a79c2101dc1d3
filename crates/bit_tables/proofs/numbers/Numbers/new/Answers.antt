use Rattle.std.proofs.Common.{refl, arith}
use Rattle.bit_tables.proofs.PlaceLaws.{at_wide}
use Rattle.bit_tables.proofs.numbers.Numbers.new.Goals as goal

pub returns : goal.returns
returns c n = rw (at_wide 65535 n (omega arith)) refl
