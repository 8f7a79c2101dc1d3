use Rattle.std.proofs.Common.{◌+◌, ◌≤◌, ℕ, slice_index, take, refl, sym, ◌∙◌, ap, subst, arith, inl, inr}
use Rattle.std.proofs.lemmas.Bool.{cases_lt}
use Rattle.std.proofs.lemmas.List.{take_all}
use Rattle.std.proofs.lemmas.List.Folds.{list_any_more}
use Rattle.bit_tables.specs.Tables.{is_at, is_one_of}
use Rattle.bit_tables.proofs.PlaceLaws.{IsLeast, least_less, least_same, none_wide}
use Rattle.bit_tables.proofs.numbers.next_place.Goals.{then-from-number+then-number-least, else-from-number, else-from-number-via-then-from-number+else-number-least, else-from-number-via-else-from-number}
use Rattle.bit_tables.proofs.numbers.next_place.Goals as goal

pub loop-place-init : goal.loop-place-init
loop-place-init c = record { most = omega arith; found = λ below. absurd (omega (arith, below)); before = λ m late low. refl }

pub loop-place-preserved : goal.loop-place-preserved
loop-place-preserved c =
    let places = c.args.places.now in
    let k = c.loop-place.place-index in
    let place = slice_index places k in
    let from = c.args.from in
    let least = c.loop-place.least in
    let is = λ (n : ℕ). list_any_more (λ p. is_at p n) places k 0 c.loop-place-test.true in
    let before = c.loop-place.invariant in
    elim c.if-from-number.branch [
      | then-from-number+then-number-least w ↦
          rw w.least-is (least_less (take k places) (take (k + 1) places) place from least is before w.if-from-number.true w.if-number-least.true)
      | else-from-number w ↦
          let other : from ≤ place → least ≤ place = elim w.else-from-number.branch [
            | else-from-number-via-then-from-number+else-number-least v ↦ λ late. omega (arith, v.if-number-least.false)
            | else-from-number-via-else-from-number v ↦ λ late. absurd (omega (arith, late, v.if-from-number.false))
          ] in
          rw w.least-is (least_same (take k places) (take (k + 1) places) place from least is before other)
    ]

pub returns-then-least-lt-WIDTH-clause-some : goal.returns-then-least-lt-WIDTH-clause-some
returns-then-least-lt-WIDTH-clause-some c =
    let places = c.args.places.now in
    let whole = take_all c.loop-place.place-index places (omega (arith, c.loop-place-test.false)) in
    let least = subst (λ l. IsLeast l c.args.from c.loop-place.least) whole c.loop-place.invariant in
    let found = least.found c.if-least-lt-WIDTH.true in
    (found.0, c.if-least-lt-WIDTH.true, found.1, least.before)

pub returns-else-least-lt-WIDTH-clause-none : goal.returns-else-least-lt-WIDTH-clause-none
returns-else-least-lt-WIDTH-clause-none c n late =
    let places = c.args.places.now in
    let whole = take_all c.loop-place.place-index places (omega (arith, c.loop-place-test.false)) in
    elim (cases_lt n c.loop-place.least) [
      | inl low ↦ ap (λ l. is_one_of l n) (sym whole) ∙ c.loop-place.invariant.before n late low
      | inr high ↦ none_wide places n (omega (arith, high, c.if-least-lt-WIDTH.false))
    ]
