use Rattle.bit_rows.proofs.Common.{bit_with_common}
use Rattle.bit_rows.proofs.word.with_common.Goals as goal

pub returns : goal.returns
returns c i low = bit_with_common c.args.word c.args.a c.args.b i
