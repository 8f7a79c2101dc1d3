-- How many values a function has at the members of a set, counted by runs of the set, and by numbers of its members.
use Rattle.std.proofs.Common.{◌≡◌, ℕ, Bool, true, false, ◌&&◌, map, refl, sym, ◌∙◌, ap, subst}
use Rattle.std.specs.Prelude.{IsTrue, count_by}
use Rattle.std.specs.List.{list_any, filter}
use Rattle.std.specs.declared.cmp.Ordering.{Ordering}
use Rattle.std.specs.Ordering.{eq_by_cmp}
use Rattle.std.specs.Cmp.{IsTotalOrder, both_ways}
use Rattle.std.specs.FinMap.{IsAntisymmetric}
use Rattle.std.specs.FinSet.{FinSet}
use Rattle.std.proofs.lemmas.Bool.{and_parts, and_from}
use Rattle.rbac_sets.specs.Sets.{contains, members, retain, image, any, count, len}
use Rattle.rbac_sets.proofs.SetLaws.{any-Decides, contains-retain, image-Decides, same_members, same_set, tie_Decides}
use Rattle.rbac_sets.proofs.Members.{count-len, members-retain}
use Rattle.rbac_sets.proofs.Lists.{any_map, count_map}

and_agree : (a p q : Bool) → (IsTrue a → p ≡ q) → (a && p) ≡ (a && q)
and_agree true p q same = same refl
and_agree false p q same = refl

module _ {K : Type 0} {R : K → K → Ordering} (total : IsTotalOrder R) (exact : IsAntisymmetric R) where
  -- two tests that agree on the members
  pub any-agree : (s : FinSet R) (p q : K → Bool) → ((x : K) → IsTrue (contains s x) → p x ≡ q x) → any p s ≡ any q s
  any-agree s p q agree = both_ways _ _
      (λ h. (let found = (any-Decides total exact p s).0 h in (any-Decides total exact q s).1 (found.0, found.1, sym (agree found.0 found.1) ∙ found.2)))
      (λ h. (let found = (any-Decides total exact q s).0 h in (any-Decides total exact p s).1 (found.0, found.1, agree found.0 found.1 ∙ found.2)))

  pub count-agree : (s : FinSet R) (p q : K → Bool) → ((x : K) → IsTrue (contains s x) → p x ≡ q x) → count p s ≡ count q s
  count-agree s p q agree =
      count-len total exact p s
      ∙ ap len (same_set total exact (retain s p) (retain s q) (λ x. contains-retain total exact s p x ∙ and_agree (contains s x) (p x) (q x) (agree x) ∙ sym (contains-retain total exact s q x)))
      ∙ sym (count-len total exact q s)

  -- by the numbers of the members
  pub count-numbers : (s : FinSet R) (p : K → Bool) (number : K → ℕ) (test : ℕ → Bool) → ((x : K) → IsTrue (contains s x) → test (number x) ≡ p x)
      → count_by test (map number (members s)) ≡ count p s
  unfolding count
  count-numbers s p number test agree = count_map number test (members s) ∙ count-agree s (λ x. test (number x)) p agree

module _ {K J : Type 0} {R : K → K → Ordering} {Q : J → J → Ordering} (total : IsTotalOrder R) (exact : IsAntisymmetric R) (totals : IsTotalOrder Q) (exacts : IsAntisymmetric Q) (s : FinSet R) (groups : FinSet Q) (f : K → J) (p : K → Bool) (within : (x : K) → IsTrue (contains s x) → IsTrue (contains groups (f x))) where
  abbrev gives : J → K → Bool
  gives g x = eq_by_cmp Q (f x) g

  abbrev has : J → Bool
  has g = any p (retain s (gives g))

  -- the number of values of f at the members that pass is the number of groups with a member that passes
  len-image : len (image {Q = Q} f (retain s p)) ≡ count has groups
  len-image = sym (count-len totals exacts has groups ∙ ap len (same_members totals exacts (retain groups has) (image {Q = Q} f (retain s p)) (λ g. (
    λ h.
        let parts = and_parts _ _ (sym (contains-retain totals exacts groups has g) ∙ h) in
        let found = (any-Decides total exact p (retain s (gives g))).0 parts.1 in
        let there = and_parts _ _ (sym (contains-retain total exact s (gives g) found.0) ∙ found.1) in
        (image-Decides total exact totals exacts f (retain s p) g).1
        (found.0, contains-retain total exact s p found.0 ∙ and_from _ _ there.0 found.2, (tie_Decides totals exacts (f found.0) g).0 there.1),
    λ h.
        let found = (image-Decides total exact totals exacts f (retain s p) g).0 h in
        let there = and_parts _ _ (sym (contains-retain total exact s p found.0) ∙ found.1) in
        contains-retain totals exacts groups has g
        ∙ and_from _ _ (subst (λ y. IsTrue (contains groups y)) found.2 (within found.0 there.0))
        ((any-Decides total exact p (retain s (gives g))).1
        (found.0, contains-retain total exact s (gives g) found.0 ∙ and_from _ _ there.0 ((tie_Decides totals exacts (f found.0) g).1 found.2), there.1)),
  ))))

  module _ (number : K → ℕ) (test : ℕ → Bool) (agree : (x : K) → IsTrue (contains s x) → test (number x) ≡ p x) where
    run-agree : (g : J) → list_any test (map number (filter (gives g) (members s))) ≡ has g
    unfolding any
    run-agree g =
        any_map number test (filter (gives g) (members s))
        ∙ ap (list_any (λ x. test (number x))) (sym (members-retain total exact s (gives g)))
        ∙ any-agree total exact (retain s (gives g)) (λ x. test (number x)) p (λ x member. agree x (and_parts _ _ (sym (contains-retain total exact s (gives g) x) ∙ member)).0)

    -- and the number of groups whose runs have a number that passes
    pub count-runs : count_by (list_any test) (map (λ g. map number (filter (gives g) (members s))) (members groups)) ≡ len (image {Q = Q} f (retain s p))
    unfolding count
    count-runs =
        count_map (λ g. map number (filter (gives g) (members s))) (list_any test) (members groups)
        ∙ (λ i. count_by (λ g. run-agree g i) (members groups)) ∙ sym len-image
