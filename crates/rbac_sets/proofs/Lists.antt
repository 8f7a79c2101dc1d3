-- Lists: the items of filtered, mapped and appended lists.
use Rattle.std.proofs.Common.{◌≡◌, ℕ, suc, Bool, true, false, cond, not, ◌||◌, List, [], ◌∷◌, ◌++◌, length, map, refl, sym, ◌∙◌, ap, arith}
use Rattle.std.specs.Prelude.{Option, Some, None, is_some, find, count_by, ◌==◌}
use Rattle.std.specs.Option.{option_map}
use Rattle.std.specs.List.{filter, list_any, slice_get, AllByRecursion}
use Rattle.std.proofs.lemmas.Bool.{eqb-true, false_from_ne_true}
use Rattle.std.proofs.lemmas.List.Folds.{list_any-append}
use Rattle.std.proofs.lemmas.List.Sums.{length-filter}
use Rattle.std.proofs.Math.Bool.{or_comm, or-false}

-- ---- appended lists

-- what holds along both holds along the whole
pub all_join : {K : Type 0} (P : K → Type 0) (l r : List K) → AllByRecursion P l → AllByRecursion P r → AllByRecursion P (l ++ r)
all_join P [] r front back = back
all_join P (x ∷ l) r front back = (front.0, all_join P l r front.1 back)

-- whether some item passes a test, with one more at the end
pub any-push : {K : Type 0} (p : K → Bool) (xs : List K) (x : K) → list_any p (xs ++ x ∷ []) ≡ (p x || list_any p xs)
any-push p xs x = list_any-append p xs (x ∷ []) ∙ ap (λ b. list_any p xs || b) (or-false (p x)) ∙ or_comm (list_any p xs) (p x)

-- ---- filters

no_zero : (n : ℕ) → (suc n == 0) ≡ false
no_zero n = false_from_ne_true (suc n == 0) (λ h. let e = eqb-true (suc n) 0 h in absurd (omega (arith, e)))

-- some item passes if the filter keeps one
pub any_filter : {X : Type 0} (p : X → Bool) (xs : List X) → list_any p xs ≡ not (length (filter p xs) == 0)
any_filter p [] = refl
any_filter {X} p (x ∷ xs) = step (any_filter p xs) (p x)
  where
    step : list_any p xs ≡ not (length (filter p xs) == 0) → (b : Bool) → (b || list_any p xs) ≡ not (length (cond b (x ∷ filter p xs) (filter p xs)) == 0)
    step rest true = sym (ap not (no_zero (length (filter p xs))))
    step rest false = rest

-- the first item that passes is the first that the filter keeps
pub find_filter : {X : Type 0} (p : X → Bool) (xs : List X) → find p xs ≡ slice_get (filter p xs) 0
find_filter p [] = refl
find_filter {X} p (x ∷ xs) = step (find_filter p xs) (p x)
  where
    step : find p xs ≡ slice_get (filter p xs) 0 → (b : Bool) → cond b (Some x) (find p xs) ≡ slice_get (cond b (x ∷ filter p xs) (filter p xs)) 0
    step rest true = refl
    step rest false = rest

-- there is one exactly if some item passes
is_some_find : {X : Type 0} (p : X → Bool) (xs : List X) → is_some (find p xs) ≡ list_any p xs
is_some_find p [] = refl
is_some_find {X} p (x ∷ xs) = step (is_some_find p xs) (p x)
  where
    step : is_some (find p xs) ≡ list_any p xs → (b : Bool) → is_some (cond b (Some x) (find p xs)) ≡ (b || list_any p xs)
    step rest true = refl
    step rest false = rest

mapped_some : {X Y : Type 0} (f : X → Y) (o : Option X) → is_some (option_map f o) ≡ is_some o
mapped_some f None = refl
mapped_some f (Some x) = refl

-- and so is the value of f at it
pub is_some_found : {X Y : Type 0} (f : X → Y) (p : X → Bool) (xs : List X) → is_some (option_map f (find p xs)) ≡ list_any p xs
is_some_found f p xs = mapped_some f (find p xs) ∙ is_some_find p xs

-- ---- mapped lists

pub any_map : {X Y : Type 0} (f : X → Y) (p : Y → Bool) (xs : List X) → list_any p (map f xs) ≡ list_any (λ x. p (f x)) xs
any_map f p [] = refl
any_map f p (x ∷ xs) = ap (λ b. p (f x) || b) (any_map f p xs)

kept_map : {X Y : Type 0} (f : X → Y) (p : Y → Bool) (xs : List X) → length (filter p (map f xs)) ≡ length (filter (λ x. p (f x)) xs)
kept_map f p [] = refl
kept_map {X} {Y} f p (x ∷ xs) = step (kept_map f p xs) (p (f x))
  where
    step : length (filter p (map f xs)) ≡ length (filter (λ x. p (f x)) xs) → (b : Bool) → length (cond b (f x ∷ filter p (map f xs)) (filter p (map f xs))) ≡ length (cond b (x ∷ filter (λ x. p (f x)) xs) (filter (λ x. p (f x)) xs))
    step rest true = ap suc rest
    step rest false = rest

pub count_map : {X Y : Type 0} (f : X → Y) (p : Y → Bool) (xs : List X) → count_by p (map f xs) ≡ count_by (λ x. p (f x)) xs
count_map f p xs = sym (length-filter p (map f xs)) ∙ kept_map f p xs ∙ length-filter (λ x. p (f x)) xs
