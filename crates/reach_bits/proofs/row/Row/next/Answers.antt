use Rattle.std.proofs.Common.{arith}
use Rattle.std.proofs.lemmas.Option.{IfSome_then}
use Rattle.reach_bits.proofs.row.Row.next.Goals as goal

pub returns-clause-low : goal.returns-clause-low
returns-clause-low c = IfSome_then c.next.result c.next.ensures.some (λ n found. omega (arith, found.1, c.deref.ensures.len, c.self.invariant))
