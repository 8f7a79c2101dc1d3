-- What sets of names and of pairs contain, and their members as lists.
use Rattle.std.proofs.Common.{◌≡◌, ◌≢◌, ◌↔◌, ◌⊎◌, inl, inr, ℕ, suc, ◌+◌, ◌<◌, Bool, true, false, not, List, [], ◌∷◌, ◌++◌, length, get_or, take, refl, sym, ap, ◌∙◌, subst, add-one, arith}
use Rattle.std.specs.Prelude.{IsTrue, Contains}
use Rattle.std.specs.Bool.{one_answer}
use Rattle.std.specs.List.{list_any}
use Rattle.std.specs.List.Sorted.{IsStrictlySortedBy}
use Rattle.std.specs.declared.cmp.Ordering.{Ordering}
use Rattle.std.specs.declared.cmp.Ordering.TheVariants.{Less}
use Rattle.std.specs.Ordering.{eq_by_cmp}
use Rattle.std.specs.Cmp.{IsTotalOrder}
use Rattle.std.specs.FinMap.{IsAntisymmetric}
use Rattle.std.specs.FinSet.{FinSet}
use Rattle.std.proofs.Math.Seq.{take-suc}
use Rattle.std.proofs.lemmas.Bool.{or_cases, or_left, or_right, and_parts, and_from, true≢false, false_from_ne_true}
use Rattle.std.proofs.lemmas.List.{length-take, get_or-take, get_or_read}
use Rattle.std.proofs.lemmas.List.Elements.{Contains-push, Contains-append_left, Contains-push_cases}
use Rattle.std.proofs.lemmas.List.Folds.{list_any_at}
use Rattle.std.proofs.lemmas.Map.Keys.{Less-from_sorted}
use Rattle.rbac_sets.specs.Sets.{Bytes, Pair, Pairs, pair_cmp, same_name, empty, contains, insert, remove, union, difference, members, IsDisjoint}
use Rattle.rbac_sets.specs.NameOrder.{name_total, name_exact, pair_total, pair_exact}
use Rattle.rbac_sets.proofs.SetLaws.{tie_Decides, contains-members, contains-empty, contains-insert-Decides, contains-remove, contains-union, contains-difference}
use Rattle.role_order.specs.Order.{HasPair}

-- ---- lists

-- the new elements are the old ones and x
pub Contains-pushed : {X : Type 0} (xs : List X) (x y : X) → Contains (xs ++ x ∷ []) y ↔ (Contains xs y ⊎ (y ≡ x))
Contains-pushed {X} xs x y = (
  λ h. elim (Contains-push_cases xs x y h) [ inl k ↦ inl k | inr e ↦ inr (sym e) ],
  λ s. elim s [ inl h ↦ Contains-append_left xs (x ∷ []) y h | inr e ↦ subst (λ (z : X). Contains (xs ++ x ∷ []) z) (sym e) (Contains-push xs x) ],
)

-- one more element of a walk
pub Contains-take_more : {X : Type 0} (xs : List X) (i : ℕ) (x y : X) → i < length xs → x ≡ get_or xs i x → Contains (take (i + 1) xs) y ↔ (Contains (take i xs) y ⊎ (y ≡ x))
Contains-take_more {X} xs i x y h e = rw (add-one, take-suc xs i x h, ← e) (Contains-pushed (take i xs) x y)

module _ {K : Type 0} {R : K → K → Ordering} (total : IsTotalOrder R) (exact : IsAntisymmetric R) where
  pub Contains-any : (xs : List K) (x : K) → Contains xs x ↔ IsTrue (list_any (eq_by_cmp R x) xs)
  Contains-any xs x = (λ h. list_any_at (eq_by_cmp R x) xs h.0 x h.1 ((tie_Decides total exact x _).1 (sym h.2)), found xs)
    where
      found : (ys : List K) → IsTrue (list_any (eq_by_cmp R x) ys) → Contains ys x
      found [] h = absurd (true≢false (sym h))
      found (y ∷ ys) h = later (found ys) (or_cases (eq_by_cmp R x y) (list_any (eq_by_cmp R x) ys) h)
        where
          later : (IsTrue (list_any (eq_by_cmp R x) ys) → Contains ys x) → (eq_by_cmp R x y ≡ true) ⊎ (list_any (eq_by_cmp R x) ys ≡ true) → Contains (y ∷ ys) x
          later go (inl same) = (0, omega arith, sym ((tie_Decides total exact x y).0 same))
          later go (inr rest) = let k = go rest in (suc k.0, omega (arith, k.1), k.2)

  -- the list of a set's members contains exactly these
  pub Contains-members : (s : FinSet R) (x : K) → Contains (members s) x ↔ IsTrue (contains s x)
  Contains-members s x = (
    λ h. contains-members s x ∙ (Contains-any (members s) x).0 h,
    λ h. (Contains-any (members s) x).1 (sym (contains-members s x) ∙ h),
  )

module _ {K : Type 0} (R : K → K → Ordering) where
  -- what a walk along a strict order has passed is less than the current element
  pub passed_below : (xs : List K) (i : ℕ) (x y : K) → IsStrictlySortedBy R xs → i < length xs → x ≡ get_or xs i x → Contains (take i xs) y → R y x ≡ Less
  passed_below xs i x y rise lt is found =
      let early : found.0 < i = omega (arith, found.1, length-take i xs) in
      let at : get_or xs found.0 y ≡ y = sym (get_or-take i xs found.0 y early) ∙ found.2 in
      let here : x ≡ get_or xs i y = get_or_read xs i x lt is y in
      let less : R (get_or xs found.0 y) (get_or xs i y) ≡ Less = Less-from_sorted R xs found.0 i y rise early lt in
      ap (λ z. R z x) (sym at) ∙ ap (R (get_or xs found.0 y)) here ∙ less

-- ---- names and pairs

pub same_or_other : (a b : Bytes) → (a ≡ b) ⊎ (a ≢ b)
same_or_other a b = told (same_name a b) refl where
  told : (r : Bool) → r ≡ same_name a b → (a ≡ b) ⊎ (a ≢ b)
  told true e = inl ((tie_Decides name_total name_exact a b).0 (sym e))
  told false e = inr (λ same. true≢false (sym ((tie_Decides name_total name_exact a b).1 same) ∙ sym e))

pub pair_parts : (x y a b : Bytes) → ◌≡◌ {A = Pair} (x, y) (a, b) ↔ ((x ≡ a) × (y ≡ b))
pair_parts x y a b = (λ e. (ap (λ (p : Pair). p.0) e, ap (λ (p : Pair). p.1) e), λ es. cc)

pub HasPair-none : (a b : Bytes) → HasPair empty a b → ⊥
HasPair-none a b h = true≢false (sym h ∙ contains-empty pair_cmp (a, b))

-- the new pairs are the old ones with that of a and b
abbrev pub AddsPair : Pairs → Pairs → Bytes → Bytes → Type 0
AddsPair old new a b = (x y : Bytes) → HasPair new x y ↔ (HasPair old x y ⊎ ((x ≡ a) × (y ≡ b)))

pub AddsPair-insert : (s : Pairs) (a b : Bytes) → AddsPair s (insert s (a, b)) a b
AddsPair-insert s a b x y =
    let at = contains-insert-Decides pair_total pair_exact s (a, b) (x, y) in (
      λ h. elim (at.0 h) [ inl same ↦ inr ((pair_parts x y a b).0 same) | inr old ↦ inl old ],
      λ h. at.1 (elim h [ inl old ↦ inr old | inr same ↦ inl ((pair_parts x y a b).1 same) ]),
    )

-- the new pairs are the old ones without that of a and b
abbrev pub TakesPair : Pairs → Pairs → Bytes → Bytes → Type 0
TakesPair old new a b = (x y : Bytes) → HasPair new x y ↔ (HasPair old x y × ((x ≡ a) × (y ≡ b) → ⊥))

not_true : (b : Bool) → not b ≡ true → b ≡ true → ⊥
not_true true h e = true≢false (sym h)
not_true false h e = true≢false (sym e)

pub TakesPair-remove : (s : Pairs) (a b : Bytes) → TakesPair s (remove s (a, b)) a b
TakesPair-remove s a b x y =
    let tie = tie_Decides pair_total pair_exact (x, y) (a, b) in (
      λ h.
          let parts = and_parts (not (eq_by_cmp pair_cmp (x, y) (a, b))) (contains s (x, y)) (sym (contains-remove pair_total s (a, b) (x, y)) ∙ h) in
          (parts.1, λ same. not_true (eq_by_cmp pair_cmp (x, y) (a, b)) parts.0 (tie.1 ((pair_parts x y a b).1 same))),
      λ h. contains-remove pair_total s (a, b) (x, y) ∙ and_from _ _ (ap not (false_from_ne_true (eq_by_cmp pair_cmp (x, y) (a, b)) (λ e. h.1 ((pair_parts x y a b).0 (tie.0 e))))) h.0,
    )

pub HasPair-union : (s t : Pairs) (x y : Bytes) → HasPair (union s t) x y ↔ (HasPair s x y ⊎ HasPair t x y)
HasPair-union s t x y = (
  λ h. or_cases (contains s (x, y)) (contains t (x, y)) (sym (contains-union pair_total pair_exact s t (x, y)) ∙ h),
  λ h. contains-union pair_total pair_exact s t (x, y) ∙ (elim h [ inl old ↦ or_left _ _ old | inr new ↦ or_right _ _ new ]),
)

pub HasPair-difference : (s t : Pairs) (x y : Bytes) → HasPair (difference s t) x y ↔ (HasPair s x y × (HasPair t x y → ⊥))
HasPair-difference s t x y = (
  λ h. let parts = and_parts (contains s (x, y)) (not (contains t (x, y))) (sym (contains-difference pair_total pair_exact s t (x, y)) ∙ h) in
      (parts.0, not_true (contains t (x, y)) parts.1),
  λ h. contains-difference pair_total pair_exact s t (x, y) ∙ and_from _ _ h.0 (ap not (false_from_ne_true (contains t (x, y)) h.1)),
)

pub disjoint-from : (s t : Pairs) → ((x y : Bytes) → HasPair s x y → HasPair t x y → ⊥) → IsDisjoint s t
disjoint-from s t apart p h = false_from_ne_true (contains t p) (apart p.0 p.1 h)

pub none_in : {K : Type 0} {R : K → K → Ordering} (s : FinSet R) → s ≡ empty → (x : K) → IsTrue (contains s x) → ⊥
none_in {K} {R} s none x h = true≢false (sym h ∙ ap (λ (t : FinSet R). contains t x) none ∙ contains-empty R x)

pub same_name-flips : (a b : Bytes) → same_name a b ≡ same_name b a
same_name-flips a b =
    let one = tie_Decides name_total name_exact a b in
    let two = tie_Decides name_total name_exact b a in
    one_answer (same_name a b) (same_name b a) one (λ e. sym (two.0 e), λ e. two.1 (sym e))
