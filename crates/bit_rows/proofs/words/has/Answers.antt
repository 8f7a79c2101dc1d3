use Rattle.std.proofs.Common.{◌%◌, sym, ◌∙◌, ap}
use Rattle.std.specs.Cmp.{both_ways}
use Rattle.std.specs.Int.{bit_at}
use Rattle.bit_rows.proofs.RowLaws.{has_from_bit, bit_from_has}
use Rattle.bit_rows.proofs.words.has.Goals as goal

pub returns : goal.returns
returns c =
    let at = ap (λ w. bit_at w (c.args.number % 64)) c.word_at.ensures in
    both_ways _ _ (λ h. has_from_bit c.args.words.now c.args.number (sym at ∙ c.has.ensures.0 h)) (λ h. c.has.ensures.1 (at ∙ bit_from_has c.args.words.now c.args.number h))
