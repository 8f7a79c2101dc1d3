-- Places for numbers, and the numbers in them.
use Rattle.std.proofs.Common.{◌≡◌, ◌≢◌, ◌↔◌, ℕ, zero, suc, ◌<◌, ◌≤◌, Bool, true, false, not, ◌&&◌, ◌||◌, List, [], ◌∷◌, length, refl, sym, ◌∙◌, ap, subst, inl, inr, arith}
use Rattle.std.specs.Prelude.{IsTrue, nat_eq, nat_lt, slice_index, slice_set}
use Rattle.std.specs.List.{list_any}
use Rattle.std.proofs.lemmas.Bool.{and_from, and_parts, cases_Bool, eqb-true, le-ltb, lt-ltb, ltb-true, ne_eqb, or_cases, or_left, or_right, true≢false}
use Rattle.bit_rows.specs.declared.row.TheConstants.{WIDTH}
use Rattle.bit_tables.specs.Tables.{is_at, is_one_of}

-- an alternative that doesn't hold, and one that does
pub or_false : (a b : Bool) → b ≡ false → (a || b) ≡ a
or_false true b is = refl
or_false false b is = is

pub or_true : (a b : Bool) → b ≡ true → (a || b) ≡ true
or_true true b is = refl
or_true false b is = is

-- a place with a number below the width has it
pub at_self : (place : ℕ) → place < WIDTH → is_at place place ≡ true
unfolding is_at
at_self place low = grind (arith, low)

-- and no other
pub at_other : (place n : ℕ) → n ≢ place → is_at place n ≡ false
unfolding is_at
at_other place n differ = elim (cases_Bool (nat_lt n WIDTH)) [
  | inl is ↦ ap (λ b. b && nat_eq place n) is ∙ ne_eqb place n (λ e. differ (sym e))
  | inr is ↦ ap (λ b. b && nat_eq place n) is
]

-- a place with a number that is not below the width has none
pub at_wide : (place n : ℕ) → WIDTH ≤ place → is_at place n ≡ false
unfolding is_at
at_wide place n wide = grind (arith, wide)

-- a write over an element of which the test doesn't hold
pub any_set : (test : ℕ → Bool) (xs : List ℕ) (i y : ℕ) → i < length xs → test (slice_index xs i) ≡ false → list_any test (slice_set xs i y) ≡ (test y || list_any test xs)
any_set test [] i y within fails = absurd (omega (arith, within))
any_set test (x ∷ xs) zero y within fails = sym (ap (λ b. test y || (b || list_any test xs)) fails)
any_set test (x ∷ xs) (suc i) y within fails = ap (λ b. test x || b) (any_set test xs i y (omega (arith, within)) fails) ∙ turned (test x) (test y) (list_any test xs)
  where
    turned : (a b c : Bool) → (a || (b || c)) ≡ (b || (a || c))
    turned true true c = refl
    turned true false c = refl
    turned false b c = refl

-- no place has a number that is not below the width
pub none_wide : (places : List ℕ) (n : ℕ) → WIDTH ≤ n → is_one_of places n ≡ false
unfolding is_at
none_wide [] n wide = refl
none_wide (place ∷ places) n wide = ap (λ b. (b && nat_eq place n) || is_one_of places n) (le-ltb n WIDTH wide) ∙ none_wide places n wide

-- ---- the least number from one on

-- the places have no number from the first one on that is less, and the least one itself if it is below the width
pub record IsLeast (places : List ℕ) (from least : ℕ) : Type 0 where
  pub most : least ≤ WIDTH
  pub found : least < WIDTH → (from ≤ least) × IsTrue (is_one_of places least)
  pub before : (m : ℕ) → from ≤ m → m < least → is_one_of places m ≡ false

module _ (places more : List ℕ) (place from least : ℕ) (is : (n : ℕ) → is_one_of more n ≡ (is_one_of places n || is_at place n)) (before : IsLeast places from least) where
  pub least_less : from ≤ place → place < least → IsLeast more from place
  least_less late less =
      let low : place < WIDTH = omega (arith, less, before.most) in
      record {
        most = omega (arith, low);
        found = λ below. (late, is place ∙ or_true (is_one_of places place) (is_at place place) (at_self place low));
        before = λ m past near.
            let differ : m ≢ place = λ same. omega (arith, same, near) in
            is m ∙ or_false (is_one_of places m) (is_at place m) (at_other place m differ) ∙ before.before m past (omega (arith, near, less));
      }

  pub least_same : (from ≤ place → least ≤ place) → IsLeast more from least
  least_same other = record {
    most = before.most;
    found = λ below. let there = before.found below in (there.0, is least ∙ or_left (is_one_of places least) (is_at place least) there.1);
    before = λ m past near.
        let differ : m ≢ place = λ same. let late : least ≤ place = other (omega (arith, same, past)) in omega (arith, same, near, late) in
        is m ∙ or_false (is_one_of places m) (is_at place m) (at_other place m differ) ∙ before.before m past near;
  }

-- ---- some number that passes a test

place_of : (place n : ℕ) → IsTrue (is_at place n) → (n < WIDTH) × (place ≡ n)
unfolding is_at
place_of place n at = let parts = and_parts (nat_lt n WIDTH) (nat_eq place n) at in (ltb-true n WIDTH parts.0, eqb-true place n parts.1)

module _ (test : ℕ → Bool) where
  number_from : (places : List ℕ) → IsTrue (list_any (λ p. nat_lt p WIDTH && test p) places) → (n : ℕ) × IsTrue (is_one_of places n) × IsTrue (test n)
  number_from [] some = absurd (true≢false (sym some))
  number_from (place ∷ places) some = elim (or_cases (nat_lt place WIDTH && test place) (list_any (λ p. nat_lt p WIDTH && test p) places) some) [
    | inl here ↦
        let parts = and_parts (nat_lt place WIDTH) (test place) here in
        (place, or_left (is_at place place) (is_one_of places place) (at_self place (ltb-true place WIDTH parts.0)), parts.1)
    | inr later ↦ let found = number_from places later in (found.0, or_right (is_at place found.0) (is_one_of places found.0) found.1, found.2)
  ]

  place_from : (places : List ℕ) (n : ℕ) → IsTrue (is_one_of places n) → IsTrue (test n) → IsTrue (list_any (λ p. nat_lt p WIDTH && test p) places)
  place_from [] n there is = absurd (true≢false (sym there))
  place_from (place ∷ places) n there is = elim (or_cases (is_at place n) (is_one_of places n) there) [
    | inl here ↦
        let at = place_of place n here in
        let passed : IsTrue (nat_lt n WIDTH && test n) = and_from (nat_lt n WIDTH) (test n) (lt-ltb n WIDTH at.0) is in
        or_left (nat_lt place WIDTH && test place) (list_any (λ p. nat_lt p WIDTH && test p) places) (subst (λ k. IsTrue (nat_lt k WIDTH && test k)) (sym at.1) passed)
    | inr later ↦ or_right (nat_lt place WIDTH && test place) (list_any (λ p. nat_lt p WIDTH && test p) places) (place_from places n later is)
  ]

-- a place has a number of a row, and not of another
pub common_place : (row without : ℕ → Bool) (places : List ℕ) → IsTrue (list_any (λ p. nat_lt p WIDTH && (row p && not (without p))) places) ↔ ((n : ℕ) × IsTrue (row n) × IsTrue (is_one_of places n && not (without n)))
common_place row without places = (
  λ some.
      let found = number_from (λ p. row p && not (without p)) places some in
      let parts = and_parts (row found.0) (not (without found.0)) found.2 in
      (found.0, parts.0, and_from (is_one_of places found.0) (not (without found.0)) found.1 parts.1),
  λ (n, in_row, usable).
      let parts = and_parts (is_one_of places n) (not (without n)) usable in
      place_from (λ p. row p && not (without p)) places n parts.0 (and_from (row n) (not (without n)) in_row parts.1),
)
