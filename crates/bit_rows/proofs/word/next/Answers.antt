use Rattle.std.proofs.Math.Nat.{pos_of_ne-zero}
use Rattle.bit_rows.proofs.WordLaws.{first_from_rest, none_in_rest}
use Rattle.bit_rows.proofs.word.next.Goals as goal

pub returns-then-rest-eq0-clause-none : goal.returns-then-rest-eq0-clause-none
returns-then-rest-eq0-clause-none c = none_in_rest c.args.word c.args.from c.if-rest-eq0.true

pub returns-clause-some : goal.returns-clause-some
returns-clause-some c =
    let found = first_from_rest c.args.word c.args.from c.ranges.word.fits (pos_of_ne-zero c.if-rest-eq0.false) in
    (found.late, found.low, found.there, found.before)
