use Rattle.std.proofs.Common.{◌%◌, ◌∙◌, sym, ap}
use Rattle.std.specs.Ordering.{nat_cmp}
use Rattle.std.specs.Cmp.{tied_itself}
use Rattle.std.specs.Cmp.Lexicographic.{slice_cmp, nat_list_cmp_total}
use Rattle.short_text.proofs.Fronts.{as_numbers}
use Rattle.rbac_sets.proofs.Fronts.{same_where_short}
use Rattle.rbac_sets.proofs.name.order.Goals as goal

pub returns-then-front-other_front : goal.returns-then-front-other_front
returns-then-front-other_front c =
    let first = c.requires.front in
    let other_first = c.requires.other_front in
    c.cmp.ensures ∙ (λ i. nat_cmp (first i) (other_first i))
    ∙ as_numbers 8 c.args.text.now c.args.other.now (λ place. (c.type_inv.text place).fits) (λ place. (c.type_inv.other place).fits)
    (λ e. c.if-front-other_front.true (first ∙ e ∙ sym other_first))

pub returns-then-front-eq0 : goal.returns-then-front-eq0
returns-then-front-eq0 c =
    let xs = c.args.text.now in
    let ys = c.args.other.now in
    let first = c.requires.front in
    let level = sym first ∙ c.if-front-other_front.false ∙ c.requires.other_front in
    let same = same_where_short xs ys c.requires.names.0 c.requires.names.1 (λ place. (c.type_inv.text place).fits) (λ place. (c.type_inv.other place).fits)
    level (ap (λ n. n % 256) (sym first) ∙ c.if-front-eq0.true) in
    sym (tied_itself nat_list_cmp_total xs) ∙ ap (slice_cmp nat_cmp xs) same
