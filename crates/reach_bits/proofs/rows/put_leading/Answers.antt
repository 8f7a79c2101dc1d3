use Rattle.std.proofs.Common.{arith}
use Rattle.reach_bits.proofs.Joining.{leading_all}
use Rattle.reach_bits.proofs.rows.put_leading.Goals as goal

pub returns-clause-leading : goal.returns-clause-leading
returns-clause-leading c = leading_all c.loop-x.leading c.args.rows.now c.args.a c.loop-x.x c.loop-x.invariant.0 c.requires.within (omega arith)
