use Rattle.std.proofs.Common.{◌≡◌, ap, ◌∙◌, replicate}
use Rattle.bit_rows.specs.Rows.{has_bit}
use Rattle.reach_bits.proofs.RowLaws.{none_in_zeros}
use Rattle.reach_bits.proofs.row.Row.empty.Goals as goal

pub returns-clause-empty : goal.returns-clause-empty
returns-clause-empty c n =
    let are : c.in_ok-vec.field-0.items ≡ replicate c.args.words 0 = c.in_ok-vec.ensures.items_if_clones_equal (λ y same. same) in
    ap (λ words. has_bit words n) are ∙ none_in_zeros c.args.words n
