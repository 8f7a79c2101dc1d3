use Rattle.std.proofs.Common.{arith}
use Rattle.bit_rows.proofs.RowLaws.{absent_at_place, full_more}
use Rattle.bit_rows.proofs.words.first_absent.Goals as goal

pub returns-in-Some-clause-some : goal.returns-in-Some-clause-some
returns-in-Some-clause-some c =
    let found = c.in-Some.ensures.some in
    (omega (arith, found.0, c.loop-i-test.true), absent_at_place c.args.words.now c.loop-i.i c.in-Some.bit found.0 found.1)

pub loop-i-preserved : goal.loop-i-preserved
loop-i-preserved c = full_more c.args.words.now c.loop-i.i c.loop-i.invariant c.in_default.ensures.none
