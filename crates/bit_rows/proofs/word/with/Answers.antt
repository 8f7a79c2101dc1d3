use Rattle.std.proofs.Common.{w64}
use Rattle.std.proofs.lemmas.Nat.Bits.{bit_at_set_same, bit_at_set_other}
use Rattle.bit_rows.proofs.word.with.Goals as goal

pub returns-clause-there : goal.returns-clause-there
returns-clause-there c = bit_at_set_same w64 c.args.word c.args.number c.requires

pub returns-clause-others : goal.returns-clause-others
returns-clause-others c = bit_at_set_other w64 c.args.word c.args.number c.requires
