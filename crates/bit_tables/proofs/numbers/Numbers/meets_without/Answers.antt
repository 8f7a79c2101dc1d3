use Rattle.std.proofs.Common.{ℕ, sym, ◌∙◌, ap}
use Rattle.bit_rows.specs.Rows.{has}
use Rattle.bit_tables.specs.Tables.{holds_without, is_in_row}
use Rattle.bit_tables.proofs.PlaceLaws.{common_place}
use Rattle.bit_tables.proofs.numbers.Numbers.meets_without.Goals as goal

pub returns-in-Few : goal.returns-in-Few
returns-in-Few c =
    let decides = common_place (has c.args.row.now) (is_in_row c.args.without) c.in-Few.places in
    let few = λ (n : ℕ). ap (λ numbers. holds_without numbers c.args.without n) c.in-Few.is in (
      λ h. let found = decides.0 (sym c.some_meets.ensures ∙ h) in (found.0, found.1, few found.0 ∙ found.2),
      λ found. c.some_meets.ensures ∙ decides.1 (found.0, found.1, sym (few found.0) ∙ found.2),
    )
