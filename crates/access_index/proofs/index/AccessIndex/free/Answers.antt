use Rattle.std.proofs.Common.{None, inl, inr, refl, sym, ◌∙◌, ap}
use Rattle.std.specs.HashMap.{get_by_text}
use Rattle.bit_tables.proofs.ByName.{same_bytes, updated_here, updated_other}
use Rattle.access_index.specs.Index.{is_used}
use Rattle.access_index.proofs.FollowLaws.{numbers_less}
use Rattle.access_index.proofs.IndexLaws.{keeps_freed}
use Rattle.access_index.proofs.index.AccessIndex.free.Goals as goal

pub returns-in-Some-clause-numbers : goal.returns-in-Some-clause-numbers
returns-in-Some-clause-numbers c =
    let role = c.args.role.now in
    let old = get_by_text c.args.self.now.numbers.numbers in
    let new = get_by_text c.take.new.self.numbers in
    let at = sym c.number.ensures ∙ c.in-Some.is in
    let changed = c.take.ensures.taken in
    numbers_less same_bytes old new (is_used c.args.self.now) _ role c.in-Some.number at (updated_here old new role None changed) (updated_other old new role None changed) c.take-in-Some.ensures.gone c.take-in-Some.ensures.others c.requires

pub returns-in-Some-clause-keeps : goal.returns-in-Some-clause-keeps
returns-in-Some-clause-keeps c rows keeps nowhere =
    let role = c.args.role.now in
    let old = get_by_text c.args.self.now.numbers.numbers in
    let new = get_by_text c.take.new.self.numbers in
    let at = sym c.number.ensures ∙ c.in-Some.is in
    let changed = c.take.ensures.taken in
    keeps_freed c.args.self.now _ rows keeps role nowhere c.in-Some.number at (updated_here old new role None changed) (updated_other old new role None changed) c.take-in-Some.ensures.gone c.take-in-Some.ensures.others refl refl refl refl refl refl refl refl

pub returns-in-Some-clause-freed : goal.returns-in-Some-clause-freed
returns-in-Some-clause-freed c = updated_here (get_by_text c.args.self.now.numbers.numbers) (get_by_text c.take.new.self.numbers) c.args.role.now None c.take.ensures.taken

pub returns-in-Some-clause-others : goal.returns-in-Some-clause-others
returns-in-Some-clause-others c other none =
    let role = c.args.role.now in
    let old = get_by_text c.args.self.now.numbers.numbers in
    let new = get_by_text c.take.new.self.numbers in
    let changed = c.take.ensures.taken in
    elim (same_bytes other role) [
      | inl same ↦ ap new same ∙ updated_here old new role None changed
      | inr differ ↦ updated_other old new role None changed other differ ∙ none
    ]

pub returns-in_default-clause-freed : goal.returns-in_default-clause-freed
returns-in_default-clause-freed c = sym c.number.ensures ∙ c.in_default.is
