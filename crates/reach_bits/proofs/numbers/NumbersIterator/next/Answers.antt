use Rattle.std.proofs.Common.{◌≡◌, ◌+◌, length, ap, arith}
use Rattle.reach_bits.specs.Numbers.{numbers_from}
use Rattle.reach_bits.proofs.Listing.{numbers_none, numbers_some}
use Rattle.reach_bits.proofs.numbers.NumbersIterator.next.Goals as goal

pub returns-in-Some-clause-steps : goal.returns-in-Some-clause-steps
returns-in-Some-clause-steps c =
    let found = c.in-Some.ensures.some in
    numbers_some c.args.self.now.row.now c.args.self.now.from c.in-Some.number found.0 found.1 found.2 found.3

pub returns-in-Some-clause-goes : goal.returns-in-Some-clause-goes
returns-in-Some-clause-goes c =
    let found = c.in-Some.ensures.some in
    let words = c.args.self.now.row.now in
    let fewer : length (numbers_from words c.args.self.now.from) ≡ length (numbers_from words (c.in-Some.number + 1)) + 1 =
    omega (arith, ap length (numbers_some words c.args.self.now.from c.in-Some.number found.0 found.1 found.2 found.3)) in
    record { on = λ finite. (tt, tt, omega (arith, fewer)); keeps = tt; rests = λ finite. tt }

pub returns-in-None-clause-steps : goal.returns-in-None-clause-steps
returns-in-None-clause-steps c = let none = numbers_none c.args.self.now.row.now c.args.self.now.from c.in-None.ensures.none in (none, none)
