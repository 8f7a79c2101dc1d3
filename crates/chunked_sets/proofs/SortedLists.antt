-- A sorted list in which each entry stands once has the same entries as before.
use Rattle.std.proofs.Common.{◌≡◌, Bool, true, List, sym, ◌∙◌, ap}
use Rattle.std.specs.List.{list_any, dedup}
use Rattle.std.specs.List.Sorted.{IsPermutation}
use Rattle.std.specs.declared.cmp.Ordering.{Ordering}
use Rattle.std.specs.Ordering.{eq_by_cmp}
use Rattle.std.specs.Cmp.{IsTotalOrder, IsEquivalence, eq_by_cmp_equiv, both_ways}
use Rattle.std.specs.FinMap.{IsAntisymmetric}
use Rattle.std.proofs.lemmas.List.Kept.{Contains-dedup, Contains-from_dedup}
use Rattle.std.proofs.lemmas.List.Sorted.{list_any-IsPermutation}
use Rattle.std.proofs.lemmas.Map.Views.{list_any-from_Contains, Contains-from_any}
use Rattle.rbac_sets.specs.Sets.{from_list}
use Rattle.rbac_sets.proofs.SetLaws.{contains-from_list, same_set, tie_Decides}

module _ {K : Type 0} {R : K → K → Ordering} (total : IsTotalOrder R) (exact : IsAntisymmetric R) {E : K → K → Bool} (laws : IsEquivalence E) (ties : (x y : K) → E x y ≡ eq_by_cmp R x y) where
  same : (x y : K) → eq_by_cmp R x y ≡ true → x ≡ y
  same x y = (tie_Decides total exact x y).0

  kept : (ys : List K) (q : K) → list_any (eq_by_cmp R q) (dedup E ys) ≡ list_any (eq_by_cmp R q) ys
  kept ys q = both_ways _ _
      (λ h. list_any-from_Contains (eq_by_cmp_equiv total) q ys (Contains-from_dedup E ys q (Contains-from_any same q (dedup E ys) h)))
      (λ h. list_any-from_Contains (eq_by_cmp_equiv total) q (dedup E ys) (Contains-dedup laws (λ x y e. same x y (sym (ties x y) ∙ e)) ys q (Contains-from_any same q ys h)))

  pub same_entries : (xs ys zs : List K) → IsPermutation xs ys → zs ≡ dedup E ys → from_list {R = R} zs ≡ from_list xs
  same_entries xs ys zs moved is = same_set total exact _ _ (λ q.
      contains-from_list total zs q ∙ ap (list_any (eq_by_cmp R q)) is ∙ kept ys q
      ∙ sym (list_any-IsPermutation (eq_by_cmp R q) xs ys moved) ∙ sym (contains-from_list total xs q))
