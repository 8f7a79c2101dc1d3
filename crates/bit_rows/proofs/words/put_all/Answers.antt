use Rattle.std.proofs.Common.{refl, arith}
use Rattle.bit_rows.proofs.RowLaws.{union_all, union_more}
use Rattle.bit_rows.proofs.words.put_all.Goals as goal

pub loop-i-init : goal.loop-i-init
loop-i-init c = record { size = refl; done = λ n below. absurd (omega (arith, below)); rest = λ k late. refl }

pub loop-i-preserved : goal.loop-i-preserved
loop-i-preserved c = union_more c.loop-i.words c.args.words.now c.args.others.now c.loop-i.i c.union.result (omega (arith, c.loop-i.invariant.size)) c.loop-i.invariant c.union.ensures

pub returns : goal.returns
returns c = union_all c.loop-i.words c.args.words.now c.args.others.now c.loop-i.i (omega arith) c.loop-i.invariant
