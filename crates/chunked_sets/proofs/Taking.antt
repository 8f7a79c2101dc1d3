-- Entries that are removed one after another.
use Rattle.std.proofs.Common.{◌≡◌, Bool, true, false, not, ◌&&◌, ◌||◌, List, [], ◌∷◌, ◌++◌, refl, sym, ap, ◌∙◌}
use Rattle.std.specs.List.{list_any}
use Rattle.std.specs.declared.cmp.Ordering.{Ordering}
use Rattle.std.specs.Ordering.{eq_by_cmp}
use Rattle.std.specs.Cmp.{IsTotalOrder}
use Rattle.std.specs.FinMap.{IsAntisymmetric}
use Rattle.std.specs.FinSet.{FinSet}
use Rattle.rbac_sets.specs.Sets.{contains, remove, difference, from_list}
use Rattle.rbac_sets.proofs.Lists.{any-push}
use Rattle.rbac_sets.proofs.SetLaws.{same_set, contains-from_list, contains-remove, contains-difference}

and_true : (b : Bool) → b ≡ (b && true)
and_true true = refl
and_true false = refl

neither : (a b c : Bool) → (not a && (b && not c)) ≡ (b && not (a || c))
neither true true c = refl
neither true false c = refl
neither false b c = refl

module _ {K : Type 0} {R : K → K → Ordering} (o : IsTotalOrder R) (exact : IsAntisymmetric R) (s : FinSet R) where
  pub difference_none : s ≡ difference s (from_list [])
  difference_none = same_set o exact _ _ (λ q. and_true (contains s q) ∙ ap (λ b. contains s q && not b) (sym (contains-from_list o [] q)) ∙ sym (contains-difference o exact s (from_list []) q))

  pub difference_more : (xs : List K) (x : K) → remove (difference s (from_list xs)) x ≡ difference s (from_list (xs ++ x ∷ []))
  difference_more xs x = same_set o exact _ _ (λ q.
      contains-remove o (difference s (from_list xs)) x q
      ∙ ap (λ b. not (eq_by_cmp R q x) && b) (contains-difference o exact s (from_list xs) q ∙ ap (λ b. contains s q && not b) (contains-from_list o xs q))
      ∙ neither (eq_by_cmp R q x) (contains s q) (list_any (eq_by_cmp R q) xs)
      ∙ ap (λ b. contains s q && not b) (sym (contains-from_list o (xs ++ x ∷ []) q ∙ any-push (eq_by_cmp R q) xs x))
      ∙ sym (contains-difference o exact s (from_list (xs ++ x ∷ [])) q))
