use Rattle.std.proofs.Common.{sym, ◌∙◌, ap}
use Rattle.std.specs.HashMap.{get_by_text}
use Rattle.std.specs.Prelude.{get_or}
use Rattle.bit_tables.specs.declared.number_table.TheConstants.{NEVER}
use Rattle.bit_tables.proofs.GuessLaws.{is_none}
use Rattle.bit_tables.proofs.number_table.NumberTable.number.Goals as goal

pub returns-then-guess : goal.returns-then-guess
returns-then-guess c =
    let table = c.args.self.now in
    let name = c.args.name.now in
    is_none (get_by_text table.numbers name)
    (λ n is. table.guessed name n is (
    ap (λ place. get_or table.guesses.items place NEVER) (sym c.fingerprint.ensures.value)
    ∙ ap (λ items. get_or items c.fingerprint.result NEVER) (sym c.deref.ensures.value)
    ∙ sym c.guess_at-guess.ensures
    ∙ c.if-guess.true))
