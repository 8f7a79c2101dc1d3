use Rattle.std.proofs.Common.{arith}
use Rattle.std.proofs.lemmas.Grind.{common_steps}
use Rattle.bit_tables.specs.Tables.{is_at}
use Rattle.bit_tables.proofs.numbers.is_at.Goals as goal

pub returns-then-number-lt-WIDTH : goal.returns-then-number-lt-WIDTH
unfolding is_at
returns-then-number-lt-WIDTH c = grind (arith, common_steps)

pub returns-else-number-lt-WIDTH : goal.returns-else-number-lt-WIDTH
unfolding is_at
returns-else-number-lt-WIDTH c = grind (arith, common_steps)
