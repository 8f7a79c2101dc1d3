-- The images of sets under a function, which keeps the entries apart where one is looked for or removed.
use Rattle.std.proofs.Common.{◌≡◌, true, not, List, map, refl, sym, ◌∙◌, ap, subst, inl, inr}
use Rattle.std.specs.Prelude.{IsTrue}
use Rattle.std.specs.Bool.{Decides}
use Rattle.std.specs.declared.cmp.Ordering.{Ordering}
use Rattle.std.specs.Ordering.{eq_by_cmp}
use Rattle.std.specs.Cmp.{IsTotalOrder, both_ways}
use Rattle.std.specs.FinMap.{IsAntisymmetric}
use Rattle.std.specs.FinSet.{FinSet}
use Rattle.std.proofs.lemmas.Bool.{and_parts, and_from, true≢false}
use Rattle.rbac_sets.specs.Sets.{empty, contains, insert, remove, members, from_list, image}
use Rattle.rbac_sets.proofs.SetLaws.{contains-empty, contains-remove, contains-insert-Decides, tie_Decides, same_members, image-Decides}

module _ {K J : Type 0} {R : K → K → Ordering} {Q : J → J → Ordering} (total : IsTotalOrder R) (exact : IsAntisymmetric R) (totals : IsTotalOrder Q) (exacts : IsAntisymmetric Q) where
  module _ (f : K → J) where
    in_image : (s : FinSet R) (y : J) → Decides (contains (image {Q = Q} f s) y) ((x : K) × IsTrue (contains s x) × (f x ≡ y))
    in_image = image-Decides total exact totals exacts f

    -- that of the members, which are these
    pub image-of_members : (s : FinSet R) (xs : List K) → members s ≡ xs → from_list {R = Q} (map f xs) ≡ image {Q = Q} f s
    unfolding image
    image-of_members s xs are = ap (λ ys. from_list {R = Q} (map f ys)) (sym are)

    -- that of no entry
    pub image-empty : empty ≡ image {Q = Q} f (empty {R = R})
    image-empty = same_members totals exacts _ _ (λ y. (
      λ h. absurd (true≢false (sym h ∙ contains-empty Q y)),
      λ h. (let found = (in_image empty y).0 h in absurd (true≢false (sym found.1 ∙ contains-empty R found.0))),
    ))

    -- that with an entry more
    pub image-insert : (s : FinSet R) (x : K) → insert (image {Q = Q} f s) (f x) ≡ image f (insert s x)
    image-insert s x = same_members totals exacts _ _ (λ y. (
      λ h. (elim ((contains-insert-Decides totals exacts (image f s) (f x) y).0 h) [
        | inl same ↦ (in_image (insert s x) y).1 (x, (contains-insert-Decides total exact s x x).1 (inl refl), sym same)
        | inr old ↦ let found = (in_image s y).0 old in
            (in_image (insert s x) y).1 (found.0, (contains-insert-Decides total exact s x found.0).1 (inr found.1), found.2)
      ]),
      λ h. (let found = (in_image (insert s x) y).0 h in
          elim ((contains-insert-Decides total exact s x found.0).0 found.1) [
            | inl same ↦ (contains-insert-Decides totals exacts (image f s) (f x) y).1 (inl (sym found.2 ∙ ap f same))
            | inr old ↦ (contains-insert-Decides totals exacts (image f s) (f x) y).1 (inr ((in_image s y).1 (found.0, old, found.2)))
          ]),
    ))

    module _ (apart : (x y : K) → f x ≡ f y → x ≡ y) where
      -- an entry's value is in it exactly if the entry is in the set
      pub contains-image : (s : FinSet R) (x : K) → contains (image {Q = Q} f s) (f x) ≡ contains s x
      contains-image s x = both_ways (contains (image f s) (f x)) (contains s x)
          (λ h. (let found = (in_image s (f x)).0 h in subst (λ z. contains s z ≡ true) (apart found.0 x found.2) found.1))
          (λ h. (in_image s (f x)).1 (x, h, refl))

      -- two values are equal exactly if the entries are
      same_apart : (z x : K) → eq_by_cmp Q (f z) (f x) ≡ eq_by_cmp R z x
      same_apart z x = both_ways (eq_by_cmp Q (f z) (f x)) (eq_by_cmp R z x)
          (λ tie. (tie_Decides total exact z x).1 (apart z x ((tie_Decides totals exacts (f z) (f x)).0 tie)))
          (λ tie. (tie_Decides totals exacts (f z) (f x)).1 (ap f ((tie_Decides total exact z x).0 tie)))

      -- that with an entry less
      pub image-remove : (s : FinSet R) (x : K) → remove (image {Q = Q} f s) (f x) ≡ image f (remove s x)
      image-remove s x = same_members totals exacts _ _ (λ y. (
        λ h. (let parts = and_parts (not (eq_by_cmp Q y (f x))) _ (sym (contains-remove totals (image f s) (f x) y) ∙ h) in
            let found = (in_image s y).0 parts.1 in
            let other : not (eq_by_cmp R found.0 x) ≡ true = ap not (sym (same_apart found.0 x)) ∙ ap (λ v. not (eq_by_cmp Q v (f x))) found.2 ∙ parts.0 in
            (in_image (remove s x) y).1 (found.0, contains-remove total s x found.0 ∙ and_from _ _ other found.1, found.2)),
        λ h. (let found = (in_image (remove s x) y).0 h in
            let parts = and_parts (not (eq_by_cmp R found.0 x)) _ (sym (contains-remove total s x found.0) ∙ found.1) in
            let other : not (eq_by_cmp Q y (f x)) ≡ true = ap (λ v. not (eq_by_cmp Q v (f x))) (sym found.2) ∙ ap not (same_apart found.0 x) ∙ parts.0 in
            contains-remove totals (image f s) (f x) y ∙ and_from _ _ other ((in_image s y).1 (found.0, parts.1, found.2))),
      ))
