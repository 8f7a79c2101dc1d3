-- Lists to which one element is added at the end.
use Rattle.std.proofs.Common.{◌<◌, get_or, ◌≡◌, ℕ, zero, suc, ◌+◌, ◌++◌, ◌||◌, inl, inr, List, [], ◌∷◌, length, slice_get, Bool, true, false, Some, None, refl, ap, ◌∙◌, arith}
use Rattle.std.specs.List.{AllByRecursion, list_any, position_from}
use Rattle.std.proofs.lemmas.Bool.{cases_Bool, or_parts}

-- if nothing was found before, what is added at the end is found
pub found_last : {A : Type 0} (p : A → Bool) (n : ℕ) (xs : List A) (x : A) → position_from p n xs ≡ None → p x ≡ true → position_from p n (xs ++ x ∷ []) ≡ Some (n + length xs)
found_last p n [] x none last = let e : n + 0 ≡ n = omega arith in rw (last, e) refl
found_last p n (y ∷ ys) x none last = elim (cases_Bool (p y)) [
  | inl here ↦ absurd (let e = (rw here at none) in cc)
  | inr not_here ↦ rw not_here (found_last p (n + 1) ys x (rw not_here at none) last ∙ ap Some (omega arith))
]

pub got_last : {A : Type 0} (xs : List A) (x : A) → slice_get (xs ++ x ∷ []) (length xs) ≡ Some x
got_last [] x = refl
got_last (y ∷ ys) x = got_last ys x

pub found_first : {A : Type 0} (p : A → Bool) (n : ℕ) (xs ys : List A) (k : ℕ) → position_from p n xs ≡ Some k → position_from p n (xs ++ ys) ≡ Some k
found_first p n [] ys k found = absurd (cc)
found_first p n (x ∷ xs) ys k found = elim (cases_Bool (p x)) [
  | inl here ↦ rw here (rw here at found)
  | inr there ↦ rw there (found_first p (n + 1) xs ys k (rw there at found))
]

pub none_last : {A : Type 0} (p : A → Bool) (n : ℕ) (xs : List A) (x : A) → position_from p n xs ≡ None → p x ≡ false → position_from p n (xs ++ x ∷ []) ≡ None
none_last p n [] x none last = rw last refl
none_last p n (y ∷ ys) x none last = elim (cases_Bool (p y)) [
  | inl here ↦ absurd (let e = rw here at none in cc)
  | inr there ↦ rw there (none_last p (n + 1) ys x (rw there at none) last)
]

pub got_first : {A : Type 0} (xs ys : List A) (k : ℕ) (x : A) → slice_get xs k ≡ Some x → slice_get (xs ++ ys) k ≡ Some x
got_first [] ys k x got = absurd (cc)
got_first (y ∷ xs) ys zero x got = got
got_first (y ∷ xs) ys (suc k) x got = got_first xs ys k x got

pub any_last : {A : Type 0} (p : A → Bool) (xs : List A) (x : A) → list_any p xs ≡ false → p x ≡ false → list_any p (xs ++ x ∷ []) ≡ false
any_last p [] x none last = rw last refl
any_last p (y ∷ ys) x none last = let both = or_parts (p y) (list_any p ys) none in rw both.0 (any_last p ys x both.1 last)

pub any_same : {A : Type 0} (p : A → Bool) (xs : List A) (x : A) → p x ≡ false → list_any p (xs ++ x ∷ []) ≡ list_any p xs
any_same p [] x last = rw last refl
any_same p (y ∷ ys) x last = ap (λ b. p y || b) (any_same p ys x last)

-- what holds of each element holds of the one at an index
pub all_at : {A : Type 0} (P : A → Type 0) (xs : List A) (i : ℕ) (d : A) → i < length xs → AllByRecursion P xs → P (get_or xs i d)
all_at P [] i d low all = absurd (omega (arith, low))
all_at P (x ∷ xs) zero d low all = all.0
all_at P (x ∷ xs) (suc i) d low all = all_at P xs i d (omega (arith, low)) all.1
