use Rattle.std.proofs.Common.{w64}
use Rattle.std.proofs.lemmas.Nat.Bits.{bit_at_clear_same, bit_at_clear_other}
use Rattle.bit_rows.proofs.word.without.Goals as goal

pub returns-clause-gone : goal.returns-clause-gone
returns-clause-gone c = bit_at_clear_same w64 c.args.word c.args.number c.requires

pub returns-clause-others : goal.returns-clause-others
returns-clause-others c = bit_at_clear_other w64 c.args.word c.args.number c.requires
