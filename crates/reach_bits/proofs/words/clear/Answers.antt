use Rattle.std.proofs.Common.{false, refl, arith}
use Rattle.bit_rows.proofs.RowLaws.{changed_all}
use Rattle.reach_bits.proofs.WordLaws.{cleared_more}
use Rattle.reach_bits.proofs.words.clear.Goals as goal

pub loop-i-init : goal.loop-i-init
loop-i-init c = record { size = refl; done = λ n below. absurd (omega (arith, below)); rest = λ k late. refl }

pub loop-i-preserved : goal.loop-i-preserved
loop-i-preserved c = cleared_more c.loop-i.words c.args.words.now c.loop-i.i (omega (arith, c.loop-i.invariant.size)) c.loop-i.invariant

pub returns : goal.returns
returns c = changed_all c.loop-i.words c.args.words.now (λ _. false) c.loop-i.i (omega arith) (λ n past. refl) c.loop-i.invariant
