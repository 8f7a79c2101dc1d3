use Rattle.std.proofs.Common.{Some, refl, sym, ◌∙◌, ap}
use Rattle.std.specs.HashMap.{get_by_text}
use Rattle.bit_tables.proofs.ByName.{updated_here, updated_other}
use Rattle.access_index.proofs.FollowLaws.{none-some}
use Rattle.access_index.proofs.IndexLaws.{keeps_numbered}
use Rattle.access_index.proofs.index.AccessIndex.number_for.Goals as goal

pub returns-clause-keeps : goal.returns-clause-keeps
returns-clause-keeps c rows keeps =
    let role = c.args.role.now in
    let old = get_by_text c.args.self.now.numbers.numbers in
    let new = get_by_text c.put.new.self.numbers in
    let w = Some c.in-Some-first_absent.number in
    let found = c.in-Some-first_absent.ensures.some in
    let changed = c.in_ok-put.ensures.put in
    keeps_numbered c.args.self.now _ rows keeps role c.in-Some-first_absent.number (sym c.number.ensures ∙ c.in_default.is) found.1 found.0 (updated_here old new role w changed) (updated_other old new role w changed)
    c.in_ok-put-2.ensures.there c.put-2.ensures.others refl refl refl refl refl refl refl refl

pub returns-clause-others : goal.returns-clause-others
returns-clause-others c other n is =
    let role = c.args.role.now in
    let old = get_by_text c.args.self.now.numbers.numbers in
    let new = get_by_text c.put.new.self.numbers in
    let w = Some c.in-Some-first_absent.number in
    updated_other old new role w c.in_ok-put.ensures.put other (λ same. none-some n (sym (sym c.number.ensures ∙ c.in_default.is) ∙ ap old (sym same) ∙ is)) ∙ is
