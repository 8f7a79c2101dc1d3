use Rattle.std.proofs.lemmas.Option.{IfSome_then}
use Rattle.reach_bits.proofs.Bits.{IfNone_then, common_bit, no_common_bit}
use Rattle.reach_bits.proofs.word.first_common.Goals as goal

pub returns-clause-some : goal.returns-clause-some
returns-clause-some c = IfSome_then c.next.result c.next.ensures.some (λ n found. let both = common_bit c.args.a c.args.b n found.2 in (found.1, both.0, both.1))

pub returns-clause-none : goal.returns-clause-none
returns-clause-none c = IfNone_then c.next.result c.next.ensures.none (no_common_bit c.args.a c.args.b)
