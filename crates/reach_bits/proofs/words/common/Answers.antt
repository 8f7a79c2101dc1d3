use Rattle.std.proofs.Common.{arith, below_more}
use Rattle.bit_rows.proofs.RowLaws.{has_at_place}
use Rattle.reach_bits.proofs.WordLaws.{apart_all}
use Rattle.reach_bits.proofs.words.common.Goals as goal

pub returns-in-Some-clause-some : goal.returns-in-Some-clause-some
returns-in-Some-clause-some c =
    let found = c.in-Some.ensures.some in
    let i = c.loop-i.i in
    let bit = c.in-Some.bit in (
      omega (arith, found.0, c.loop-i-test.true),
      has_at_place c.args.words.now i bit found.0 found.1,
      has_at_place c.args.others.now i bit found.0 found.2,
    )

pub loop-i-preserved : goal.loop-i-preserved
loop-i-preserved c = below_more _ _ c.loop-i.invariant c.in_default.ensures.none

pub returns-clause-none : goal.returns-clause-none
returns-clause-none c = apart_all c.args.words.now c.args.others.now c.loop-i.i (omega arith) c.loop-i.invariant
