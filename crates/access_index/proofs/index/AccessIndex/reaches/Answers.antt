use Rattle.std.proofs.Common.{inl, inr, refl, sym}
use Rattle.std.proofs.lemmas.Bool.{true≢false}
use Rattle.bit_tables.specs.Tables.{holds, holds_without}
use Rattle.access_index.proofs.FindLaws.{none_more, none_reached}
use Rattle.access_index.proofs.index.AccessIndex.reaches.Goals as goal

pub returns-then-has_without : goal.returns-then-has_without
returns-then-has_without c = let next = c.in-Some.ensures.some in (λ _. (c.in-Some.number, c.in-Some.number, next.2, inl refl, sym c.if-has_without.ensures), λ _. refl)

pub returns-then-has_junior : goal.returns-then-has_junior
returns-then-has_junior c =
    let next = c.in-Some.ensures.some in
    let found = c.if-has_junior.ensures.0 refl in
    (λ _. (c.in-Some.number, found.0, next.2, inr found.1, found.2), λ _. refl)

pub loop-number-preserved : goal.loop-number-preserved
loop-number-preserved c =
    none_more c.args.self.now.juniors.items (holds c.args.active.now) (holds_without c.args.granted.now c.args.barred) c.loop-number.from c.in-Some.number c.in-Some.ensures.some.3 (sym c.if-has_without.ensures)
    (λ found. true≢false (sym (c.if-has_junior.ensures.1 found))) c.loop-number.invariant

pub returns : goal.returns
returns c = (
  λ no. absurd (true≢false (sym no)),
  λ is. absurd (none_reached c.args.self.now.juniors.items (holds c.args.active.now) (holds_without c.args.granted.now c.args.barred) c.loop-number.from c.in_default.ensures.none c.loop-number.invariant is),
)
