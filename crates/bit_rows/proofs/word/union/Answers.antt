use Rattle.bit_rows.proofs.Common.{bit_of_union}
use Rattle.bit_rows.proofs.word.union.Goals as goal

pub returns : goal.returns
returns c i = bit_of_union c.args.a c.args.b i
