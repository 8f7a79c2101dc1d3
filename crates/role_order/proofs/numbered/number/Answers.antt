use Rattle.std.proofs.Common.{sym, ◌∙◌, ap}
use Rattle.std.specs.Option.{option_copied}
use Rattle.std.specs.Prelude.{Some, None}
use Rattle.rbac_sets.specs.Sets.{cardinality_cmp}
use Rattle.rbac_sets.specs.SortedSet.{set_of}
use Rattle.role_order.proofs.Numbering.{number_found, number_missing, number_first}
use Rattle.role_order.proofs.numbered.number.Goals as goal

pub returns-in-Some-clause-some : goal.returns-in-Some-clause-some
returns-in-Some-clause-some c =
    number_found (set_of cardinality_cmp c.args.numbers.now) c.args.name.now c.with_first.result.now c.in-Some.entry.now c.with_first.ensures
    (sym c.first.ensures.value ∙ ap option_copied c.in-Some.is)

pub returns-in-None-clause-none : goal.returns-in-None-clause-none
returns-in-None-clause-none c =
    number_missing (set_of cardinality_cmp c.args.numbers.now) c.args.name.now c.with_first.result.now c.with_first.ensures
    (sym c.first.ensures.value ∙ ap option_copied c.in-None.is)

pub returns-in-Some-clause-value : goal.returns-in-Some-clause-value
returns-in-Some-clause-value c =
    number_first (set_of cardinality_cmp c.args.numbers.now) c.args.name.now c.with_first.result.now (Some c.in-Some.entry.now) c.with_first.ensures
    (sym c.first.ensures.value ∙ ap option_copied c.in-Some.is)

pub returns-in-None-clause-value : goal.returns-in-None-clause-value
returns-in-None-clause-value c =
    number_first (set_of cardinality_cmp c.args.numbers.now) c.args.name.now c.with_first.result.now None c.with_first.ensures
    (sym c.first.ensures.value ∙ ap option_copied c.in-None.is)
