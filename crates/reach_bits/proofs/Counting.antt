-- How many numbers pass a test.
use Rattle.std.proofs.Common.{◌≡◌, ℕ, zero, suc, ◌+◌, ◌<◌, ◌≤◌, Bool, true, false, refl, ◌∙◌, ap, inl, inr, arith}
use Rattle.std.proofs.lemmas.Bool.{cases_eq}

-- 1 if the test is passed, else 0
abbrev pub one_if : Bool → ℕ
one_if true = 1
one_if false = 0

-- how many numbers below the limit pass
abbrev pub count : (ℕ → Bool) → ℕ → ℕ
count test zero = 0
count test (suc n) = one_if (test n) + count test n

one_le : (x y : Bool) → (x ≡ true → y ≡ true) → one_if x ≤ one_if y
one_le false y more = omega arith
one_le true y more = let is : one_if y ≡ 1 = ap one_if (more refl) in omega (arith, is)

pub count_mono : (fewer more : ℕ → Bool) (limit : ℕ) → ((n : ℕ) → fewer n ≡ true → more n ≡ true) → count fewer limit ≤ count more limit
count_mono fewer more zero all = omega arith
count_mono fewer more (suc n) all =
    let here = one_le (fewer n) (more n) (all n) in
    let rest = count_mono fewer more n all in
    omega (arith, here, rest)

-- fewer pass if one that passed doesn't
pub count_less : (fewer more : ℕ → Bool) (limit k : ℕ) → ((n : ℕ) → fewer n ≡ true → more n ≡ true) → k < limit → fewer k ≡ false → more k ≡ true
    → count fewer limit < count more limit
count_less fewer more zero k all low gone there = absurd (omega (arith, low))
count_less fewer more (suc n) k all low gone there = elim (cases_eq n k) [
  | inl same ↦
      let none : one_if (fewer n) ≡ 0 = ap one_if (ap fewer same ∙ gone) in
      let one : one_if (more n) ≡ 1 = ap one_if (ap more same ∙ there) in
      let rest = count_mono fewer more n all in
      omega (arith, none, one, rest)
  | inr other ↦
      let here = one_le (fewer n) (more n) (all n) in
      let rest = count_less fewer more n k all (omega (arith, low, other)) gone there in
      omega (arith, here, rest)
]
