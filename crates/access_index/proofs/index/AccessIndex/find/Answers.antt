use Rattle.std.proofs.Common.{inl, inr, refl, sym, ◌∙◌}
use Rattle.std.specs.Prelude.{None}
use Rattle.bit_tables.specs.Tables.{holds, holds_without}
use Rattle.access_index.proofs.RowLaws.{and_true}
use Rattle.access_index.proofs.FindLaws.{decision, not_active, not_granted}
use Rattle.access_index.proofs.index.AccessIndex.find.Goals as goal

pub returns-in_default-clause-none : goal.returns-in_default-clause-none
returns-in_default-clause-none c S keeps =
    inl (not_active c.args.self.now S keeps c.args.session.now c.args.operation.now c.args.object.now c.in_default.ensures.none)

pub returns-in_default-row-clause-none : goal.returns-in_default-row-clause-none
returns-in_default-row-clause-none c S keeps =
    inr (not_granted c.args.self.now S keeps c.args.session.now c.args.operation.now c.args.object.now c.in_default-row.ensures.none)

pub returns-then-is_empty-clause-none : goal.returns-then-is_empty-clause-none
returns-then-is_empty-clause-none c S keeps =
    inl (not_active c.args.self.now S keeps c.args.session.now c.args.operation.now c.args.object.now (λ n. sym (c.in-Some.ensures.some n) ∙ c.if-is_empty.ensures.empty refl n))

pub returns-then-is_empty-2-clause-none : goal.returns-then-is_empty-2-clause-none
returns-then-is_empty-2-clause-none c S keeps =
    inr (not_granted c.args.self.now S keeps c.args.session.now c.args.operation.now c.args.object.now (λ n. sym (c.in-Some-row.ensures.some n) ∙ c.if-is_empty-2.ensures.empty refl n))

pub returns-clause-found : goal.returns-clause-found
returns-clause-found c S good keeps =
    let granted = c.in-Some-row.granted.now in
    let some_active = c.if-is_empty.ensures.some refl in
    let some_granted = c.if-is_empty-2.ensures.some refl in
    decision c.args.self.now S keeps c.args.session.now c.args.operation.now c.args.object.now (holds c.in-Some.active.now) (holds_without granted None)
    c.in-Some.ensures.some (λ n. and_true (holds granted n) ∙ c.in-Some-row.ensures.some n) good some_active.0 some_granted.0 some_active.1 (and_true (holds granted some_granted.0) ∙ some_granted.1) c.reaches.result c.reaches.ensures.0 c.reaches.ensures.1
