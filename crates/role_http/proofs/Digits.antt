-- The number that digits denote, read from the front.
use Rattle.std.proofs.Common.{◌≡◌, ◌<◌, ◌≤◌, ◌∙◌, ◌+◌, ◌-◌, ◌*◌, ℕ, suc, List, [], ◌∷◌, true, false, length, drop, get_or, Ok, Err, ap, refl, sym, rules, arith, add-one, inl, inr}
use Rattle.std.specs.Prelude.{nat_le, nat_lt}
use Rattle.std.specs.Char.{digit_value, is_ascii_digit}
use Rattle.std.specs.List.{list_all}
use Rattle.std.specs.Str.Parse.{digits_value, digits_value_after}
use Rattle.std.proofs.Math.Seq.{drop-cons}
use Rattle.std.proofs.lemmas.Bool.{cases_Bool, and_parts, true≢false}
use Rattle.std.proofs.lemmas.List.Folds.{list_all_at}
use Rattle.role_http.specs.HeadChecks.{is_length, length_of}

-- more digits don't denote a smaller number
after_le : (n : ℕ) (digits : List ℕ) → n ≤ digits_value_after 10 n digits
after_le n [] = omega arith
after_le n (c ∷ cs) = let more = after_le (n * 10 + digit_value c) cs in omega arith

-- the value of a digit is its distance from `0`
pub digit_of : (c : ℕ) → is_ascii_digit c ≡ true → (48 ≤ c) × (c ≤ 57) × (c ≡ 48 + digit_value c)
digit_of c h = search rules

pub digit_at : (digits : List ℕ) (i d : ℕ) → is_length digits ≡ true → i < length digits → is_ascii_digit (get_or digits i d) ≡ true
unfolding is_length
digit_at digits i d good h =
    elim (cases_Bool (is_ascii_digit (get_or digits i d))) [
      | inl digit ↦ digit
      | inr other ↦ absurd (true≢false (sym (and_parts (nat_lt 0 (length digits)) (list_all is_ascii_digit digits) good).1 ∙ list_all_at is_ascii_digit digits i d h other))
    ]

-- one more digit was read
pub digit_step : (digits : List ℕ) (i n more : ℕ) → is_length digits ≡ true → i < length digits → more ≡ get_or digits i 0 - 48
    → digits_value 10 digits ≡ digits_value_after 10 n (drop i digits) → digits_value 10 digits ≡ digits_value_after 10 (n * 10 + more) (drop (i + 1) digits)
digit_step digits i n more good h e before =
    let (low, high, is) = digit_of (get_or digits i 0) (digit_at digits i 0 good h) in
    let same : digit_value (get_or digits i 0) ≡ more = omega (arith, is, e) in
    before ∙ ap (digits_value_after 10 n) (drop-cons digits i 0 h) ∙ ap (λ z. digits_value_after 10 (n * 10 + z) (drop (suc i) digits)) same ∙ rw (add-one i) refl

-- the number is too large already
pub length_of-large : (most n : ℕ) (digits rest : List ℕ) → digits_value 10 digits ≡ digits_value_after 10 n rest → most < n → length_of most digits ≡ Err 413
unfolding length_of
length_of-large most n digits rest e h =
    let more = after_le n rest in
    let large : nat_le (digits_value 10 digits) most ≡ false = (let past : most < digits_value 10 digits = omega (arith, more, h, e) in search rules) in
    rw large refl

-- all digits were read
pub length_of-all : (most n : ℕ) (digits : List ℕ) → digits_value 10 digits ≡ n → n ≤ most → length_of most digits ≡ Ok n
unfolding length_of
length_of-all most n digits e h =
    let fits : nat_le (digits_value 10 digits) most ≡ true = (let small : digits_value 10 digits ≤ most = omega (arith, h, e) in search rules) in
    rw (fits, e) refl
