use Rattle.std.proofs.Common.{◌||◌, slice_index, ◌∙◌, ap, arith}
use Rattle.bit_tables.specs.Tables.{is_at, is_one_of}
use Rattle.bit_tables.proofs.PlaceLaws.{any_set, at_other, at_self, at_wide}
use Rattle.bit_tables.proofs.numbers.with_place.Goals as goal

pub returns-in-Some-clause-there : goal.returns-in-Some-clause-there
returns-in-Some-clause-there c =
    let number = c.args.number in
    any_set (λ p. is_at p number) c.args.places c.in-Some.at number (omega (arith, c.in-Some.ensures.0)) (at_wide (slice_index c.args.places c.in-Some.at) number c.in-Some.ensures.1)
    ∙ ap (λ b. b || is_one_of c.args.places number) (at_self number c.requires)

pub returns-in-Some-clause-others : goal.returns-in-Some-clause-others
returns-in-Some-clause-others c n differ =
    let number = c.args.number in
    any_set (λ p. is_at p n) c.args.places c.in-Some.at number (omega (arith, c.in-Some.ensures.0)) (at_wide (slice_index c.args.places c.in-Some.at) n c.in-Some.ensures.1)
    ∙ ap (λ b. b || is_one_of c.args.places n) (at_other number n differ)
