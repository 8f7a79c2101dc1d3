-- Walks over a list that test the same of each element.
use Rattle.std.proofs.Common.{◌≡◌, ◌↔◌, ℕ, ◌+◌, ◌<◌, ◌≤◌, List, length, get_or, take, inl, inr, sym, ◌∙◌, subst, arith}
use Rattle.std.specs.Prelude.{IsTrue, Contains}
use Rattle.std.proofs.lemmas.List.{take_all, length-take, get_or-take}
use Rattle.std.proofs.lemmas.List.Elements.{Contains-get_or}
use Rattle.std.specs.declared.cmp.Ordering.{Ordering}
use Rattle.std.specs.Cmp.{IsTotalOrder}
use Rattle.std.specs.FinMap.{IsAntisymmetric}
use Rattle.std.specs.FinSet.{FinSet}
use Rattle.rbac_sets.specs.Sets.{contains, members}
use Rattle.role_order.proofs.Members.{Contains-take_more, Contains-members}

-- the current element is one of the list
pub item_in : {X : Type 0} (xs : List X) (i : ℕ) (p : X) → i < length xs → p ≡ get_or xs i p → Contains xs p
item_in {X} xs i p lt is = rw (← is) at (Contains-get_or xs i p lt)

-- a passed element is one of the list
pub taken_in : {X : Type 0} (xs : List X) (i : ℕ) (p : X) → Contains (take i xs) p → Contains xs p
taken_in xs i p h =
    let early : h.0 < length xs = omega (arith, h.1, length-take i xs) in
    (h.0, early, sym (get_or-take i xs h.0 p (omega (arith, h.1, length-take i xs))) ∙ h.2)

-- the test holds of one more element
pub all_more : {X : Type 0} (P : X → Type 0) (xs : List X) (i : ℕ) (p : X) → i < length xs → p ≡ get_or xs i p → P p
    → ((q : X) → Contains (take i xs) q → P q) → (q : X) → Contains (take (i + 1) xs) q → P q
all_more P xs i p lt is here before q h = elim ((Contains-take_more xs i p q lt is).0 h) [ inl o ↦ before q o | inr e ↦ subst P (sym e) here ]

-- the test holds of all elements
pub all_done : {X : Type 0} (P : X → Type 0) (xs : List X) (i : ℕ) → length xs ≤ i
    → ((q : X) → Contains (take i xs) q → P q) → (q : X) → Contains xs q → P q
all_done {X} P xs i past before q h = before q (subst (λ (zs : List X). Contains zs q) (sym (take_all i xs past)) h)

-- the same of a walk over the members of a set
module _ {K : Type 0} {R : K → K → Ordering} (total : IsTotalOrder R) (exact : IsAntisymmetric R) (s : FinSet R) (xs : List K) (are : xs ≡ members s) where
  pub member_at : (i : ℕ) (p : K) → i < length xs → p ≡ get_or xs i p → IsTrue (contains s p)
  member_at i p lt is = (Contains-members total exact s p).0 (subst (λ (zs : List K). Contains zs p) are (item_in xs i p lt is))

  pub taken_member : (i : ℕ) (p : K) → Contains (take i xs) p → IsTrue (contains s p)
  taken_member i p h = (Contains-members total exact s p).0 (subst (λ (zs : List K). Contains zs p) are (taken_in xs i p h))

  pub all_members : (P : K → Type 0) (i : ℕ) → length xs ≤ i → ((q : K) → Contains (take i xs) q → P q) → (q : K) → IsTrue (contains s q) → P q
  all_members P i past before q h = all_done P xs i past before q (subst (λ (zs : List K). Contains zs q) (sym are) ((Contains-members total exact s q).1 h))

  -- at the end the passed elements are the set
  pub passed_all : (i : ℕ) → length xs ≤ i → (q : K) → Contains (take i xs) q ↔ IsTrue (contains s q)
  passed_all i past q = (
    λ h. (Contains-members total exact s q).0 (subst (λ (zs : List K). Contains zs q) (take_all i xs past ∙ are) h),
    λ h. subst (λ (zs : List K). Contains zs q) (sym (take_all i xs past ∙ are)) ((Contains-members total exact s q).1 h),
  )
