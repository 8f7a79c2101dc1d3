use Rattle.bit_rows.proofs.Common.{bit_of_difference}
use Rattle.bit_rows.proofs.word.difference.Goals as goal

pub returns : goal.returns
returns c i low = bit_of_difference c.args.a c.args.b i c.ranges.b.fits low
