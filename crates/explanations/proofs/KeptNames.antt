-- What a loop has kept of a list so far.
use Rattle.std.proofs.Common.{◌≡◌, ℕ, ◌+◌, ◌<◌, ◌≤◌, Bool, true, false, cond, List, [], ◌∷◌, ◌++◌, length, map, take, get_or, sym, ◌∙◌, ap}
use Rattle.std.specs.List.{filter}
use Rattle.std.proofs.lemmas.List.{append-nil, map-append, take_all, take_more}
use Rattle.std.proofs.lemmas.List.Elements.{filter-append}

module _ {X Y : Type 0} (f : X → Y) (p : X → Bool) (xs : List X) (i : ℕ) where
  next : (x : X) → i < length xs → x ≡ get_or xs i x → map f (filter p (take i xs)) ++ map f (cond (p x) (x ∷ []) []) ≡ map f (filter p (take (i + 1) xs))
  next x lt at =
      sym (map-append f (filter p (take i xs)) (cond (p x) (x ∷ []) []))
      ∙ ap (map f) (sym (filter-append p (take i xs) (x ∷ [])))
      ∙ ap (λ (ys : List X). map f (filter p ys)) (ap (λ (y : X). take i xs ++ y ∷ []) at ∙ sym (take_more xs i x lt))

  -- the item is kept
  pub kept_more : (x : X) → i < length xs → x ≡ get_or xs i x → (ys : List Y) → ys ≡ map f (filter p (take i xs)) → p x ≡ true
      → (zs : List Y) → zs ≡ ys ++ f x ∷ [] → zs ≡ map f (filter p (take (i + 1) xs))
  kept_more x lt at ys is passes zs pushed =
      pushed ∙ ap (λ (l : List Y). l ++ f x ∷ []) is ∙ (λ j. map f (filter p (take i xs)) ++ map f (cond (sym passes j) (x ∷ []) [])) ∙ next x lt at

  -- the item is left out
  pub kept_same : (x : X) → i < length xs → x ≡ get_or xs i x → (ys : List Y) → ys ≡ map f (filter p (take i xs)) → p x ≡ false → ys ≡ map f (filter p (take (i + 1) xs))
  kept_same x lt at ys is fails =
      is ∙ sym (append-nil (map f (filter p (take i xs)))) ∙ (λ j. map f (filter p (take i xs)) ++ map f (cond (sym fails j) (x ∷ []) [])) ∙ next x lt at

  -- at the end
  pub kept_all : (ys : List Y) → ys ≡ map f (filter p (take i xs)) → length xs ≤ i → ys ≡ map f (filter p xs)
  kept_all ys is all = is ∙ ap (λ (l : List X). map f (filter p l)) (take_all i xs all)
