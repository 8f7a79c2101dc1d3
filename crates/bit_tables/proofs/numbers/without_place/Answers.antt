use Rattle.std.proofs.Common.{◌≡◌, ◌≢◌, ℕ, Bool, ◌+◌, ◌<◌, ◌∷◌, [], ◌||◌, false, length, slice_index, slice_set, take, refl, sym, ◌∙◌, ap, arith}
use Rattle.std.proofs.lemmas.Grind.{take-set_at}
use Rattle.std.proofs.lemmas.List.{length-set, take_all}
use Rattle.std.proofs.lemmas.List.Folds.{list_any-append, list_any_more}
use Rattle.bit_tables.specs.Tables.{is_at, is_one_of}
use Rattle.bit_tables.proofs.PlaceLaws.{any_set, at_other, at_wide, or_false}
use Rattle.bit_tables.proofs.numbers.without_place.Goals.{then-places-at, else-places-at}
use Rattle.bit_tables.proofs.numbers.without_place.Goals as goal

pub loop-at-preserved : goal.loop-at-preserved
loop-at-preserved c =
    let at = c.loop-at.at in
    let number = c.args.number in
    let places = c.loop-at.places in
    let place = slice_index places at in
    let within : at < length places = omega (arith, c.loop-at.invariant.0, c.loop-at-test.true) in
    elim c.if-places-at.branch [
      | then-places-at w ↦
          let test : ℕ → Bool = λ p. is_at p number in
          let here = ap (λ l. is_one_of l number) (take-set_at places at (at + 1) 65535 refl within) ∙ list_any-append test (take at places) (65535 ∷ [])
          ∙ or_false _ (is_at 65535 number || false) (or_false (is_at 65535 number) false refl ∙ at_wide 65535 number (omega arith)) ∙ c.loop-at.invariant.1 in
          let others : (n : ℕ) → n ≢ number → is_one_of (slice_set places at 65535) n ≡ is_one_of c.args.places n = λ n differ.
          any_set (λ p. is_at p n) places at 65535 within (at_other place n (λ same. differ (same ∙ w.if-places-at.true)))
          ∙ ap (λ b. b || is_one_of places n) (at_wide 65535 n (omega arith)) ∙ c.loop-at.invariant.2 n differ in
          (ap length w.places-is ∙ length-set places at 65535 ∙ c.loop-at.invariant.0, ap (λ l. is_one_of (take (at + 1) l) number) w.places-is ∙ here, λ n differ. ap (λ l. is_one_of l n) w.places-is ∙ others n differ)
      | else-places-at w ↦ (
        ap length w.places-is ∙ c.loop-at.invariant.0,
        ap (λ l. is_one_of (take (at + 1) l) number) w.places-is ∙ list_any_more (λ p. is_at p number) places at 0 within
            ∙ or_false _ (is_at place number) (at_other place number (λ same. w.if-places-at.false (sym same))) ∙ c.loop-at.invariant.1,
        λ n differ. ap (λ l. is_one_of l n) w.places-is ∙ c.loop-at.invariant.2 n differ,
      )
    ]

pub returns-clause-gone : goal.returns-clause-gone
returns-clause-gone c = ap (λ l. is_one_of l c.args.number) (sym (take_all c.loop-at.at c.loop-at.places (omega (arith, c.loop-at.invariant.0, c.loop-at-test.false)))) ∙ c.loop-at.invariant.1
