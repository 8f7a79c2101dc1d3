-- The entries of a list from a place on.
use Rattle.std.proofs.Common.{◌≡◌, ℕ, zero, suc, ◌+◌, List, [], ◌∷◌, Option, Some, None, map, drop, refl, sym, ap, ◌∙◌, arith}
use Rattle.std.specs.Prelude.{slice_get, option_map}
use Rattle.std.specs.Iterator.{YieldsFirstBy}
use Rattle.std.proofs.lemmas.Option.{slice_get-map}

pub get_from : {X : Type 0} (n place : ℕ) (xs : List X) → slice_get (drop n xs) place ≡ slice_get xs (n + place)
get_from zero place xs =
    let e : place ≡ zero + place = omega arith in
    ap (slice_get xs) e
get_from (suc n) place [] = refl
get_from (suc n) place (x ∷ xs) =
    let e : suc (n + place) ≡ suc n + place = omega arith in
    get_from n place xs ∙ ap (slice_get (x ∷ xs)) e

-- the values of a function at those that are left
pub mapped_from : {X Y : Type 0} (f : X → Y) (xs left : List X) (n place : ℕ) → left ≡ drop n xs → slice_get (map f left) place ≡ option_map f (slice_get xs (n + place))
mapped_from f xs left n place is = slice_get-map f left place ∙ ap (option_map f) (ap (λ ys. slice_get ys place) is ∙ get_from n place xs)

-- what an iterator gives is the first of what is left
pub first_given : {S A B : Type 0} (view : A → B) (rest : S → List B) (before after : S) (given : Option A) → YieldsFirstBy view rest before given after → option_map view given ≡ slice_get (rest before) 0
first_given view rest before after None gives = sym (ap (λ items. slice_get items 0) gives.0)
first_given view rest before after (Some item) gives = sym (ap (λ items. slice_get items 0) gives)
