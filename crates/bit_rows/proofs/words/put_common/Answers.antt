use Rattle.std.proofs.Common.{refl, arith}
use Rattle.bit_rows.proofs.RowLaws.{common_all, common_more}
use Rattle.bit_rows.proofs.words.put_common.Goals as goal

pub loop-i-init : goal.loop-i-init
loop-i-init c = record { size = refl; done = λ n below. absurd (omega (arith, below)); rest = λ k late. refl }

pub loop-i-preserved : goal.loop-i-preserved
loop-i-preserved c = common_more c.loop-i.words c.args.words.now c.args.a.now c.args.b.now c.loop-i.i c.with_common.result (omega (arith, c.loop-i.invariant.size)) c.loop-i.invariant c.with_common.ensures

pub returns : goal.returns
returns c = common_all c.loop-i.words c.args.words.now c.args.a.now c.args.b.now c.loop-i.i (omega arith) c.loop-i.invariant
