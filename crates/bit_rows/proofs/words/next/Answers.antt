use Rattle.std.proofs.Common.{◌/◌, ◌%◌, arith}
use Rattle.bit_rows.proofs.RowLaws.{absent_past, empty_word, empty_more, empty_all, found_first, has_at_place}
use Rattle.bit_rows.proofs.words.next.Goals as goal

pub returns-then-first-words-clause-none : goal.returns-then-first-words-clause-none
returns-then-first-words-clause-none c n late = absent_past c.args.words.now n (omega (arith, late, c.if-first-words.true))

pub returns-in-Some-clause-some : goal.returns-in-Some-clause-some
returns-in-Some-clause-some c =
    let words = c.args.words.now in
    let found = c.in-Some.ensures.some in
    let first = c.args.from / 64 in
    let bit = c.in-Some.bit in (
      omega (arith, found.0),
      omega (arith, found.1, c.if-first-words.false),
      has_at_place words first bit found.1 found.2,
      found_first words c.args.from first bit (c.args.from % 64) (λ n late below. absurd (omega (arith, late, below))) found.0 found.1 found.3,
    )

pub loop-i-init : goal.loop-i-init
loop-i-init c = empty_word c.args.words.now c.args.from (c.args.from / 64) (c.args.from % 64) (omega arith) (omega arith) c.in_default.ensures.none

pub returns-in-Some-next-clause-some : goal.returns-in-Some-next-clause-some
returns-in-Some-next-clause-some c =
    let words = c.args.words.now in
    let found = c.in-Some-next.ensures.some in
    let i = c.loop-i.i in
    let bit = c.in-Some-next.bit in (
      omega arith,
      omega (arith, found.1, c.loop-i-test.true),
      has_at_place words i bit found.1 found.2,
      found_first words c.args.from i bit 0 (λ n late below. c.loop-i.invariant n late (omega (arith, below))) (omega arith) found.1 found.3,
    )

pub loop-i-preserved : goal.loop-i-preserved
loop-i-preserved c = empty_more c.args.words.now c.args.from c.loop-i.i c.loop-i.invariant c.in_default-next.ensures.none

pub returns-clause-none : goal.returns-clause-none
returns-clause-none c = empty_all c.args.words.now c.args.from c.loop-i.i (omega arith) c.loop-i.invariant
