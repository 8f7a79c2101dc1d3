use Rattle.std.proofs.Common.{◌∙◌, sym}
use Rattle.std.specs.Ordering.{nat_cmp}
use Rattle.short_text.proofs.Fronts.{as_numbers}
use Rattle.short_text.proofs.front.order.Goals as goal

pub returns-then-front-other_front : goal.returns-then-front-other_front
returns-then-front-other_front c =
    let first = c.requires.front in
    let other_first = c.requires.other_front in
    c.cmp.ensures ∙ (λ i. nat_cmp (first i) (other_first i))
    ∙ as_numbers 8 c.args.text.now c.args.other.now (λ place. (c.type_inv.text place).fits) (λ place. (c.type_inv.other place).fits)
    (λ e. c.if-front-other_front.true (first ∙ e ∙ sym other_first))
