-- Sets with those who violate them, as lists.
use Rattle.std.proofs.Common.{◌≡◌, ℕ, ◌+◌, ◌<◌, ◌≤◌, Bool, true, false, cond, not, ◌&&◌, List, [], ◌∷◌, ◌++◌, length, take, get_or, refl, sym, ◌∙◌, ap}
use Rattle.std.specs.Prelude.{IsTrue, Option, Some, None, is_some, find, slice_get}
use Rattle.std.specs.Option.{option_map}
use Rattle.std.specs.List.{cons_option, filter_map, list_all, list_any}
use Rattle.std.specs.Ordering.{eq_by_cmp}
use Rattle.std.proofs.lemmas.List.{append-nil, take_all, take_more}
use Rattle.std.proofs.lemmas.List.Elements.{filter_map-append}
use Rattle.rbac_sets.specs.NameOrder.{cardinality_total, cardinality_exact}
use Rattle.rbac_sets.specs.Sets.{Bytes, Names, Pair, Cardinality, cardinality_cmp, members}
use Rattle.admin_mgr.specs.RbacState.{Separation, members_of}
use Rattle.admin_mgr.specs.Separation.{least_violated}
use Rattle.explanations.specs.Conflicts.{violated_by_first}
use Rattle.explanations.proofs.Finds.{is_here, is_behind}

-- ---- what a loop has kept of a list so far

module _ {X Y : Type 0} (f : X → Option Y) (xs : List X) (i : ℕ) where
  next : (x : X) → i < length xs → x ≡ get_or xs i x → filter_map f (take i xs) ++ filter_map f (x ∷ []) ≡ filter_map f (take (i + 1) xs)
  next x lt at =
      sym (filter_map-append f (take i xs) (x ∷ []))
      ∙ ap (filter_map f) (ap (λ (y : X). take i xs ++ y ∷ []) at ∙ sym (take_more xs i x lt))

  -- something is kept of the item
  pub mapped_more : (x : X) → i < length xs → x ≡ get_or xs i x → (ys : List Y) → ys ≡ filter_map f (take i xs) → (y : Y) → f x ≡ Some y
      → (zs : List Y) → zs ≡ ys ++ y ∷ [] → zs ≡ filter_map f (take (i + 1) xs)
  mapped_more x lt at ys is y gives zs pushed =
      pushed ∙ ap (λ (l : List Y). l ++ y ∷ []) is ∙ (λ j. filter_map f (take i xs) ++ cons_option (sym gives j) []) ∙ next x lt at

  -- nothing is
  pub mapped_same : (x : X) → i < length xs → x ≡ get_or xs i x → (ys : List Y) → ys ≡ filter_map f (take i xs) → f x ≡ None → ys ≡ filter_map f (take (i + 1) xs)
  mapped_same x lt at ys is gives =
      is ∙ sym (append-nil (filter_map f (take i xs))) ∙ (λ j. filter_map f (take i xs) ++ cons_option (sym gives j) []) ∙ next x lt at

  -- at the end
  pub mapped_all : (ys : List Y) → ys ≡ filter_map f (take i xs) → length xs ≤ i → ys ≡ filter_map f xs
  mapped_all ys is all = is ∙ ap (filter_map f) (take_all i xs all)

-- ---- the same by other functions

-- two functions that agree on a list keep the same
pub mapped_agrees : {Y : Type 0} (f g : Cardinality → Option Y) (xs : List Cardinality) → ((x : Cardinality) → IsTrue (list_any (eq_by_cmp cardinality_cmp x) xs) → f x ≡ g x)
    → filter_map f xs ≡ filter_map g xs
mapped_agrees f g [] same = refl
mapped_agrees f g (x ∷ xs) same =
    (λ i. cons_option (same x (is_here cardinality_total cardinality_exact x xs) i) (filter_map f xs))
    ∙ ap (cons_option (g x)) (mapped_agrees f g xs (λ y there. same y (is_behind cardinality_total cardinality_exact x y xs there)))

-- ---- the first set

-- somebody fails a test exactly if not all pass it
pub some_fail : {X : Type 0} (p : X → Bool) (xs : List X) → is_some (find (λ x. not (p x)) xs) ≡ not (list_all p xs)
some_fail p [] = refl
some_fail {X} p (x ∷ xs) = step (p x) (some_fail p xs)
  where
    step : (b : Bool) → is_some (find (λ y. not (p y)) xs) ≡ not (list_all p xs) → is_some (cond (not b) (Some x) (find (λ y. not (p y)) xs)) ≡ not (b && list_all p xs)
    step true rest = rest
    step false rest = refl

first_listed : (holder : Cardinality → Option Bytes) (violated : Cardinality → Bool) (xs : List Cardinality) → ((x : Cardinality) → is_some (holder x) ≡ violated x)
    → option_map (λ (conflict : Pair). conflict.0) (slice_get (filter_map (λ (x : Cardinality). option_map (λ one. (x.0, one)) (holder x)) xs) 0)
    ≡ option_map (λ (x : Cardinality). x.0) (find violated xs)
first_listed holder violated [] same = refl
first_listed holder violated (x ∷ xs) same = step (holder x) (violated x) (same x) (first_listed holder violated xs same)
  where
    others : List Pair
    others = filter_map (λ (y : Cardinality). option_map (λ one. (y.0, one)) (holder y)) xs

    step : (o : Option Bytes) (b : Bool) → is_some o ≡ b → option_map (λ (conflict : Pair). conflict.0) (slice_get others 0) ≡ option_map (λ (y : Cardinality). y.0) (find violated xs)
        → option_map (λ (conflict : Pair). conflict.0) (slice_get (cons_option (option_map (λ one. (x.0, one)) o) others) 0) ≡ option_map (λ (y : Cardinality). y.0) (cond b (Some x) (find violated xs))
    step (Some one) true is rest = refl
    step (Some one) false is rest = cc
    step None true is rest = cc
    step None false is rest = rest

-- the least violated set is the first of the list
pub least_is_listed : (is_kept : Names → ℕ → Bool) (first_of : Names → ℕ → Option Bytes) (separation : Separation)
    → ((roles : Names) (n : ℕ) → is_some (first_of roles n) ≡ not (is_kept roles n))
    → least_violated is_kept separation ≡ option_map (λ (conflict : Pair). conflict.0) (slice_get (violated_by_first first_of separation) 0)
unfolding least_violated violated_by_first
least_is_listed is_kept first_of separation same =
    sym (first_listed (λ (x : Cardinality). first_of (members_of separation x.0) x.1) (λ (x : Cardinality). not (is_kept (members_of separation x.0) x.1))
    (members separation.cardinalities) (λ x. same (members_of separation x.0) x.1))
