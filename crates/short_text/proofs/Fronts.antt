-- The first bytes of a text as a number: texts whose numbers differ are ordered as these.
use Rattle.std.proofs.Common.{◌≡◌, ◌≢◌, ◌⊎◌, inl, inr, ℕ, zero, suc, ◌+◌, ◌*◌, ◌^◌, ◌<◌, ◌≤◌, List, [], ◌∷◌, refl, sym, ap, ◌∙◌, arith, slice_index_or, pow-suc, mul_comm}
use Rattle.std.proofs.Math.Nat.{pow-le-pow_right, mul-le-mul_right}
use Rattle.std.specs.declared.cmp.Ordering.TheVariants.{Less, Equal, Greater}
use Rattle.std.specs.Ordering.{nat_cmp, ordering_then, ordering_reverse}
use Rattle.std.specs.Cmp.{nat_cmp_is}
use Rattle.std.specs.Cmp.Lexicographic.{slice_cmp, nat_list_cmp_total}
use Rattle.std.proofs.lemmas.Bool.{cases_lt}
use Rattle.short_text.specs.Front.{first_bytes}

-- the number of the first eight bytes, written out
pub eight_bytes : (text : List ℕ) → slice_index_or text 0 0 * 72057594037927936 + slice_index_or text 1 0 * 281474976710656 + slice_index_or text 2 0 * 1099511627776
    + slice_index_or text 3 0 * 4294967296 + slice_index_or text 4 0 * 16777216 + slice_index_or text 5 0 * 65536 + slice_index_or text 6 0 * 256 + slice_index_or text 7 0
    ≡ first_bytes 8 text
eight_bytes [] = refl
eight_bytes (a ∷ []) = omega arith
eight_bytes (a ∷ b ∷ []) = omega arith
eight_bytes (a ∷ b ∷ d ∷ []) = omega arith
eight_bytes (a ∷ b ∷ d ∷ e ∷ []) = omega arith
eight_bytes (a ∷ b ∷ d ∷ e ∷ f ∷ []) = omega arith
eight_bytes (a ∷ b ∷ d ∷ e ∷ f ∷ g ∷ []) = omega arith
eight_bytes (a ∷ b ∷ d ∷ e ∷ f ∷ g ∷ h ∷ []) = omega arith
eight_bytes (a ∷ b ∷ d ∷ e ∷ f ∷ g ∷ h ∷ i ∷ rest) = omega arith

-- each element is a byte
abbrev pub AreBytes : List ℕ → Type 0
AreBytes text = (place : ℕ) → slice_index_or text place 0 < 256

-- no power of 256 is zero
pub power_is_positive : (n : ℕ) → 0 < 256 ^ n
power_is_positive n = pow-le-pow_right {n = 256} (omega arith) {i = 0} {j = n} (omega arith)

-- the number of n bytes is below the n-th power of 256
pub below_power : (n : ℕ) (text : List ℕ) → AreBytes text → first_bytes n text < 256 ^ n
below_power zero text bytes = omega arith
below_power (suc n) [] bytes = power_is_positive (suc n)
below_power (suc n) (byte ∷ rest) bytes =
    let unit = 256 ^ n in
    let wider : 256 ^ suc n ≡ 256 * unit = pow-suc 256 n ∙ mul_comm unit 256 in
    let first : byte < 256 = bytes 0 in
    let higher : suc byte * unit ≤ 256 * unit = mul-le-mul_right {m = suc byte} {n = 256} unit (omega arith) in
    let lower : first_bytes n rest < unit = below_power n rest (λ place. bytes (suc place)) in
    let step : suc byte * unit ≡ byte * unit + unit = omega arith in
    rw wider (omega arith)

-- of two numbers the one with the lower highest digit is lower, if the rest is less than the digit's unit
pub higher_digit : (unit x y f g : ℕ) → f < unit → x < y → x * unit + f < y * unit + g
higher_digit unit x y f g p less =
    let higher : suc x * unit ≤ y * unit = mul-le-mul_right {m = suc x} {n = y} unit less in
    let step : suc x * unit ≡ x * unit + unit = omega arith in
    omega arith

-- the text with the lower number comes first
lower_first : (n : ℕ) (xs ys : List ℕ) → AreBytes xs → AreBytes ys → first_bytes n xs < first_bytes n ys → slice_cmp nat_cmp xs ys ≡ Less
lower_first zero xs ys p q lower = absurd (omega arith)
lower_first (suc n) xs [] p q lower = absurd (omega arith)
lower_first (suc n) [] (y ∷ ys) p q lower = refl
lower_first (suc n) (x ∷ xs) (y ∷ ys) p q lower = by (cases_lt x y) (cases_lt y x) (lower_first n xs ys (λ place. p (suc place)) (λ place. q (suc place)))
  where
    unit : ℕ
    unit = 256 ^ n

    by : (x < y) ⊎ (y ≤ x) → (y < x) ⊎ (x ≤ y) → (first_bytes n xs < first_bytes n ys → slice_cmp nat_cmp xs ys ≡ Less) → ordering_then (nat_cmp x y) (slice_cmp nat_cmp xs ys) ≡ Less
    by (inl less) other later = ap (λ r. ordering_then r (slice_cmp nat_cmp xs ys)) (sym (nat_cmp_is x y Less less))
    by (inr least) (inl more) later =
        let wrong = higher_digit unit y x (first_bytes n ys) (first_bytes n xs) (below_power n ys (λ place. q (suc place))) more in
        absurd (omega arith)
    by (inr least) (inr most) later =
        let same : x ≡ y = omega arith in
        let level : x * unit ≡ y * unit = ap (λ (byte : ℕ). byte * unit) same in
        ap (λ r. ordering_then r (slice_cmp nat_cmp xs ys)) (sym (nat_cmp_is x y Equal same))
        ∙ later (omega arith)

-- two texts whose numbers differ are ordered as these
pub as_numbers : (n : ℕ) (xs ys : List ℕ) → AreBytes xs → AreBytes ys → first_bytes n xs ≢ first_bytes n ys → nat_cmp (first_bytes n xs) (first_bytes n ys) ≡ slice_cmp nat_cmp xs ys
as_numbers n xs ys p q differ = by (cases_lt (first_bytes n xs) (first_bytes n ys))
  where
    by : (first_bytes n xs < first_bytes n ys) ⊎ (first_bytes n ys ≤ first_bytes n xs) → nat_cmp (first_bytes n xs) (first_bytes n ys) ≡ slice_cmp nat_cmp xs ys
    by (inl less) = sym (nat_cmp_is _ _ Less less) ∙ sym (lower_first n xs ys p q less)
    by (inr least) =
        let more : first_bytes n ys < first_bytes n xs = omega arith in
        sym (nat_cmp_is _ _ Greater more) ∙ sym (nat_list_cmp_total.antisymm xs ys ∙ ap ordering_reverse (lower_first n ys xs q p more))
