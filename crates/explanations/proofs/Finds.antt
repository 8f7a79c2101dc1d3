-- The first item of a list that passes a test.
use Rattle.std.proofs.Common.{◌≡◌, Bool, true, false, cond, not, ◌&&◌, List, [], ◌∷◌, length, map, refl, sym, ◌∙◌, ap, subst, arith}
use Rattle.std.specs.Prelude.{IsTrue, Option, Some, None, is_some, find, slice_get, ◌==◌}
use Rattle.std.proofs.lemmas.Bool.{eqb-true, or_left, or_right, true≢false}
use Rattle.std.specs.Cmp.{IsTotalOrder}
use Rattle.std.specs.FinMap.{IsAntisymmetric}
use Rattle.std.specs.Option.{option_copied, option_map}
use Rattle.std.specs.Ordering.{eq_by_cmp}
use Rattle.std.specs.List.{filter, list_all, list_any}
use Rattle.std.specs.declared.cmp.Ordering.{Ordering}
use denote.Ref.{Bor}
use Rattle.rbac_sets.proofs.SetLaws.{tie_Decides}
use Rattle.rbac_sets.proofs.Lists.{find_filter, is_some_found}

-- there is a reference exactly if there is a value
pub is_some_copied : {X : Type 0} (o : Option (Bor X)) → is_some (option_copied o) ≡ is_some o
is_some_copied None = refl
is_some_copied (Some x) = refl

-- the value behind a reference, if there is one
pub copied_is : {X : Type 0} (o : Option (Bor X)) → option_copied o ≡ option_map (λ (x : Bor X). x.now) o
copied_is None = refl
copied_is (Some x) = refl

pub is_some_map : {X Y : Type 0} (f : X → Y) (o : Option X) → is_some (option_map f o) ≡ is_some o
is_some_map f None = refl
is_some_map f (Some x) = refl

-- something is found if some item passes
pub some_passes : {X : Type 0} (p : X → Bool) (xs : List X) → list_any p xs ≡ true → is_some (find p xs) ≡ true
some_passes {X} p xs h = sym (is_some_map (λ (x : X). x) (find p xs)) ∙ is_some_found (λ (x : X). x) p xs ∙ h

-- the first of the values at the items
pub find_map : {X Y : Type 0} (f : X → Y) (t : Y → Bool) (xs : List X) → option_map f (find (λ x. t (f x)) xs) ≡ find t (map f xs)
find_map f t [] = refl
find_map {X} {Y} f t (x ∷ xs) = step (t (f x)) (find_map f t xs)
  where
    step : (b : Bool) → option_map f (find (λ y. t (f y)) xs) ≡ find t (map f xs) → option_map f (cond b (Some x) (find (λ y. t (f y)) xs)) ≡ cond b (Some (f x)) (find t (map f xs))
    step true rest = refl
    step false rest = rest

-- what is found passes
pub find_passes : {X : Type 0} (t : X → Bool) (xs : List X) (y : X) → find t xs ≡ Some y → IsTrue (t y)
find_passes t [] y found = cc
find_passes {X} t (x ∷ xs) y found = step (t x) refl (find_passes t xs y) found
  where
    step : (b : Bool) → t x ≡ b → (find t xs ≡ Some y → IsTrue (t y)) → cond b (Some x) (find t xs) ≡ Some y → IsTrue (t y)
    step true is rest e = let same : x ≡ y = cc in subst (λ z. IsTrue (t z)) same is
    step false is rest e = rest e

-- nothing passes two tests if nothing passes the first
pub find_neither : {X : Type 0} (p q : X → Bool) (xs : List X) → find p xs ≡ None → find (λ x. p x && q x) xs ≡ None
find_neither p q [] none = refl
find_neither {X} p q (x ∷ xs) none = step (p x) (find_neither p q xs) none
  where
    step : (b : Bool) → (find p xs ≡ None → find (λ y. p y && q y) xs ≡ None) → cond b (Some x) (find p xs) ≡ None → cond (b && q x) (Some x) (find (λ y. p y && q y) xs) ≡ None
    step true rest e = cc
    step false rest e = rest e

-- what passes the first test fails the second if nothing passes both
pub find_fails : {X : Type 0} (p q : X → Bool) (xs : List X) (y : X) → find (λ x. p x && q x) xs ≡ None → find p xs ≡ Some y → q y ≡ false
find_fails p q [] y none found = cc
find_fails {X} p q (x ∷ xs) y none found = step (p x) (q x) refl (find_fails p q xs y) none found
  where
    step : (a b : Bool) → q x ≡ b → (find (λ z. p z && q z) xs ≡ None → find p xs ≡ Some y → q y ≡ false)
        → cond (a && b) (Some x) (find (λ z. p z && q z) xs) ≡ None → cond a (Some x) (find p xs) ≡ Some y → q y ≡ false
    step true true is rest none found = cc
    step true false is rest none found = let same : x ≡ y = cc in subst (λ z. q z ≡ false) same is
    step false b is rest none found = rest none found

-- what passes both tests passes one, and then the other
pub both_kept : {X : Type 0} (p q : X → Bool) (xs : List X) → filter (λ x. p x && q x) xs ≡ filter q (filter p xs)
both_kept p q [] = refl
both_kept {X} p q (x ∷ xs) = step (p x) (q x) refl (both_kept p q xs)
  where
    step : (a b : Bool) → q x ≡ b → filter (λ y. p y && q y) xs ≡ filter q (filter p xs)
        → cond (a && b) (x ∷ filter (λ y. p y && q y) xs) (filter (λ y. p y && q y) xs) ≡ filter q (cond a (x ∷ filter p xs) (filter p xs))
    step true true is rest = rw is (ap (λ ys. x ∷ ys) rest)
    step true false is rest = rw is rest
    step false b is rest = rest

-- and the first that does is the first of those that pass one that passes the other
find_both : {X : Type 0} (p q : X → Bool) (xs : List X) → find (λ x. p x && q x) xs ≡ find q (filter p xs)
find_both p q xs = find_filter (λ x. p x && q x) xs ∙ ap (λ ys. slice_get ys 0) (both_kept p q xs) ∙ sym (find_filter q (filter p xs))

find_never : {X : Type 0} (xs : List X) → find (λ x. false) xs ≡ None
find_never [] = refl
find_never (x ∷ xs) = find_never xs

-- the same if a third test, which is not about the items, passes too
pub find_only : {X : Type 0} (b : Bool) (p q : X → Bool) (xs : List X) → find (λ x. b && (p x && q x)) xs ≡ cond b (find q (filter p xs)) None
find_only true p q xs = find_both p q xs
find_only false p q xs = find_never xs

pub find_only_map : {X Y : Type 0} (b : Bool) (f : X → Y) (p : X → Bool) (t : Y → Bool) (xs : List X)
    → option_map f (find (λ x. b && (p x && t (f x))) xs) ≡ cond b (find t (map f (filter p xs))) None
find_only_map true f p t xs = ap (option_map f) (find_both p (λ x. t (f x)) xs) ∙ find_map f t (filter p xs)
find_only_map false f p t xs = ap (option_map f) (find_never xs)

-- nothing is found in an empty list
pub find_nothing : {X : Type 0} (p : X → Bool) (xs : List X) → slice_get xs 0 ≡ None → find p xs ≡ None
find_nothing p [] none = refl
find_nothing p (x ∷ xs) none = cc

-- some item fails a test if not all pass it
pub some_fails : {X : Type 0} (p : X → Bool) (xs : List X) → list_all p xs ≡ false → is_some (find (λ x. not (p x)) xs) ≡ true
some_fails p [] h = cc
some_fails {X} p (x ∷ xs) h = step (p x) (some_fails p xs) h
  where
    step : (b : Bool) → (list_all p xs ≡ false → is_some (find (λ y. not (p y)) xs) ≡ true) → (b && list_all p xs) ≡ false → is_some (cond (not b) (Some x) (find (λ y. not (p y)) xs)) ≡ true
    step true rest h = rest h
    step false rest h = refl

-- ---- the first value at an item that passes

-- it passes
pub mapped_passes : {X Y : Type 0} (f : X → Y) (t : Y → Bool) (xs : List X) (y : Y) → Some y ≡ option_map f (find (λ x. t (f x)) xs) → IsTrue (t y)
mapped_passes f t xs y found = find_passes t (map f xs) y (sym (find_map f t xs) ∙ sym found)

-- it fails a second test if none passes both
pub mapped_fails : {X Y : Type 0} (f : X → Y) (p q : Y → Bool) (xs : List X) (y : Y)
    → None ≡ option_map f (find (λ x. p (f x) && q (f x)) xs) → Some y ≡ option_map f (find (λ x. p (f x)) xs) → q y ≡ false
mapped_fails f p q xs y none found = find_fails p q (map f xs) y (sym (find_map f (λ z. p z && q z) xs) ∙ sym none) (sym (find_map f p xs) ∙ sym found)

-- ---- the first value, if there are items

pub first_nothing : {X Y : Type 0} (f : X → Y) (xs : List X) → (length xs == 0) ≡ true → slice_get (map f xs) 0 ≡ None
first_nothing f [] h = refl
first_nothing f (x ∷ xs) h = let none = eqb-true (length (x ∷ xs)) 0 h in absurd (omega (arith, none))

pub first_something : {X Y : Type 0} (f : X → Y) (xs : List X) → (length xs == 0) ≡ false → ¬ (slice_get (map f xs) 0 ≡ None)
first_something f [] h none = true≢false h
first_something f (x ∷ xs) h none = cc

-- ---- two tests that agree on the items

module _ {K : Type 0} {R : K → K → Ordering} (total : IsTotalOrder R) (exact : IsAntisymmetric R) where
  -- an item is one of the list, and so are those behind it
  pub is_here : (x : K) (xs : List K) → IsTrue (list_any (eq_by_cmp R x) (x ∷ xs))
  is_here x xs = or_left (eq_by_cmp R x x) _ ((tie_Decides total exact x x).1 refl)

  pub is_behind : (x y : K) (xs : List K) → IsTrue (list_any (eq_by_cmp R y) xs) → IsTrue (list_any (eq_by_cmp R y) (x ∷ xs))
  is_behind x y xs there = or_right (eq_by_cmp R y x) _ there

  -- they find the same
  pub find_agrees : (p q : K → Bool) (xs : List K) → ((x : K) → IsTrue (list_any (eq_by_cmp R x) xs) → p x ≡ q x) → find p xs ≡ find q xs
  find_agrees p q [] same = refl
  find_agrees p q (x ∷ xs) same =
      (λ i. cond (same x (is_here x xs) i) (Some x) (find p xs))
      ∙ ap (λ rest. cond (q x) (Some x) rest) (find_agrees p q xs (λ y there. same y (is_behind x y xs there)))
