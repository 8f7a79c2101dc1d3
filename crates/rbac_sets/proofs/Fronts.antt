-- The first bytes of a name as a number: names shorter than these are equal if their numbers are.
use Rattle.std.proofs.Common.{◌≡◌, ◌⊎◌, inl, inr, ℕ, zero, suc, ◌+◌, ◌*◌, ◌^◌, ◌%◌, ◌<◌, ◌≤◌, true, List, [], ◌∷◌, length, refl, sym, ap, ◌∙◌, arith, slice_index_or, true≢false}
use Rattle.std.specs.List.{list_all}
use Rattle.std.specs.Cmp.{first_so, second_so}
use Rattle.std.proofs.lemmas.List.Folds.{list_all_at}
use Rattle.std.proofs.Math.Nat.{mul-le-mul_right}
use Rattle.std.proofs.lemmas.Bool.{cases_lt}
use Rattle.short_text.proofs.Fronts.{AreBytes, below_power, eight_bytes, higher_digit, power_is_positive}
use Rattle.rbac_sets.specs.Name.{first_bytes, has_name_length, is_name, is_printable}

-- equal numbers have the same highest digit
same_digit : (unit x y f g : ℕ) → f < unit → g < unit → x * unit + f ≡ y * unit + g → x ≡ y
same_digit unit x y f g p q same = by (cases_lt x y) (cases_lt y x)
  where
    by : (x < y) ⊎ (y ≤ x) → (y < x) ⊎ (x ≤ y) → x ≡ y
    by (inl less) other = let wrong = higher_digit unit x y f g p less in absurd (omega arith)
    by (inr least) (inl more) = let wrong = higher_digit unit y x g f q more in absurd (omega arith)
    by (inr least) (inr most) = omega arith

printable_is_positive : (byte : ℕ) → is_printable byte ≡ true → 1 ≤ byte
printable_is_positive zero p = absurd (true≢false (sym p))
printable_is_positive (suc byte) p = omega arith

-- a text of printable bytes that is shorter than the bytes of its number is determined by the number
short_same : (n : ℕ) (xs ys : List ℕ) → list_all is_printable xs ≡ true → list_all is_printable ys ≡ true → AreBytes xs → AreBytes ys → length xs < n
    → first_bytes n xs ≡ first_bytes n ys → xs ≡ ys
short_same zero xs ys a b p q short same = absurd (omega arith)
short_same (suc n) [] [] a b p q short same = refl
short_same (suc n) [] (y ∷ ys) a b p q short same =
    let unit = power_is_positive n in
    let least : 1 * 256 ^ n ≤ y * 256 ^ n = mul-le-mul_right {m = 1} {n = y} (256 ^ n) (printable_is_positive y (first_so (is_printable y) _ b)) in
    absurd (omega arith)
short_same (suc n) (x ∷ xs) [] a b p q short same =
    let unit = power_is_positive n in
    let least : 1 * 256 ^ n ≤ x * 256 ^ n = mul-le-mul_right {m = 1} {n = x} (256 ^ n) (printable_is_positive x (first_so (is_printable x) _ a)) in
    absurd (omega arith)
short_same (suc n) (x ∷ xs) (y ∷ ys) a b p q short same =
    let later = λ (place : ℕ). p (suc place) in
    let later_other = λ (place : ℕ). q (suc place) in
    let first : x ≡ y = same_digit (256 ^ n) x y (first_bytes n xs) (first_bytes n ys) (below_power n xs later) (below_power n ys later_other) same in
    let level : x * 256 ^ n ≡ y * 256 ^ n = ap (λ (byte : ℕ). byte * 256 ^ n) first in
    let rest = short_same n xs ys (second_so (is_printable x) _ a) (second_so (is_printable y) _ b) later later_other (omega arith) (omega arith) in
    λ i. first i ∷ rest i

-- two names with the same number are equal, if the number's eighth byte is zero
pub same_where_short : (xs ys : List ℕ) → is_name xs ≡ true → is_name ys ≡ true → AreBytes xs → AreBytes ys → first_bytes 8 xs ≡ first_bytes 8 ys
    → first_bytes 8 xs % 256 ≡ 0 → xs ≡ ys
same_where_short xs ys a b p q same short = short_same 8 xs ys printable (printable_of ys b) p q (by (cases_lt (length xs) 8)) same
  where
    printable_of : (text : List ℕ) → is_name text ≡ true → list_all is_printable text ≡ true
    printable_of text named = first_so (list_all is_printable text) _ (second_so (has_name_length text) _ named)

    printable : list_all is_printable xs ≡ true
    printable = printable_of xs a

    by : (length xs < 8) ⊎ (8 ≤ length xs) → length xs < 8
    by (inl less) = less
    by (inr least) =
        let digits = eight_bytes xs in
        let last = p 7 in
        let none : slice_index_or xs 7 0 ≡ 0 = omega arith in
        absurd (true≢false (sym printable ∙ list_all_at is_printable xs 7 0 (omega arith) (ap is_printable none)))
