-- The number of a name among names in byte order.
use Rattle.std.proofs.Common.{◌≡◌, ℕ, zero, suc, ◌≤◌, Bool, true, false, List, [], ◌∷◌, length, refl, sym, ap, subst, ◌∙◌, arith, inl, inr}
use Rattle.std.specs.Prelude.{filter, Some}
use Rattle.std.specs.List.{list_any, slice_get, AllByRecursion, AllWithin}
use Rattle.std.specs.List.Sorted.{IsStrictlySortedBy}
use Rattle.std.specs.declared.cmp.Ordering.TheVariants.{Less}
use Rattle.std.specs.Ordering.{is_lt, ordering_reverse}
use Rattle.std.specs.Cmp.{tied_itself}
use Rattle.std.proofs.lemmas.Bool.{or_cases, true≢false}
use Rattle.rbac_sets.specs.Sets.{Bytes, name_cmp, same_name, contains, from_list}
use Rattle.rbac_sets.specs.NameOrder.{name_total, name_exact}
use Rattle.rbac_sets.proofs.SetLaws.{contains-from_list, tie_Decides}
use Rattle.order_matrix.specs.Table.{number_in}

-- if the items that pass come first, their number is the place of the first other item
pub length-parted : {K : Type 0} (p : K → Bool) (xs : List K) (i : ℕ) → i ≤ length xs → AllWithin (λ x. p x ≡ true) xs 0 i → AllWithin (λ x. p x ≡ false) xs i (length xs) → length (filter p xs) ≡ i
length-parted p [] zero within front back = refl
length-parted p [] (suc i) within front back = absurd (omega arith)
length-parted p (x ∷ xs) zero within front back =
    rw (back 0 x (omega arith) (omega arith)) (length-parted p xs 0 (omega arith) (λ k d low high. absurd (omega arith)) (λ k d low high. back (suc k) d (omega arith) (omega arith)))
length-parted p (x ∷ xs) (suc i) within front back =
    rw (front 0 x (omega arith) (omega arith)) (ap suc (length-parted p xs i (omega arith) (λ k d low high. front (suc k) d (omega arith) (omega arith)) (λ k d low high. back (suc k) d (omega arith) (omega arith))))

-- of names that are all greater than one, none is less than it
none_below : (x : Bytes) (xs : List Bytes) → AllByRecursion (λ y. name_cmp x y ≡ Less) xs → length (filter (λ y. is_lt (name_cmp y x)) xs) ≡ 0
none_below x [] above = refl
none_below x (y ∷ ys) above = rw (ap is_lt (name_total.antisymm y x ∙ ap ordering_reverse above.0)) (none_below x ys above.1)

-- a name among them is greater than what all of them are greater than
above_first : (x q : Bytes) (xs : List Bytes) → AllByRecursion (λ y. name_cmp x y ≡ Less) xs → list_any (same_name q) xs ≡ true → name_cmp x q ≡ Less
above_first x q [] above here = absurd (true≢false (sym here))
above_first x q (y ∷ ys) above here = elim (or_cases (same_name q y) _ here) [
  | inl same ↦ subst (λ z. name_cmp x z ≡ Less) (sym ((tie_Decides name_total name_exact q y).0 same)) above.0
  | inr later ↦ above_first x q ys above.1 later
]

place_of : (names : List Bytes) (q : Bytes) → IsStrictlySortedBy name_cmp names → list_any (same_name q) names ≡ true → slice_get names (number_in names q) ≡ Some q
unfolding IsStrictlySortedBy number_in
place_of [] q sorted here = absurd (true≢false (sym here))
place_of (x ∷ xs) q sorted here = elim (or_cases (same_name q x) _ here) [
  | inl same ↦
      let is : q ≡ x = (tie_Decides name_total name_exact q x).0 same in
      subst (λ z. slice_get (x ∷ xs) (length (filter (λ y. is_lt (name_cmp y z)) (x ∷ xs))) ≡ Some z) (sym is)
      (rw (ap is_lt (tied_itself name_total x), none_below x xs sorted.0) refl)
  | inr later ↦ rw (ap is_lt (above_first x q xs sorted.0 later)) (place_of xs q sorted.1 later)
]

-- the number of a name that is one of them is its place
pub slice_get-number_in : (names : List Bytes) (q : Bytes) → IsStrictlySortedBy name_cmp names → contains (from_list {R = name_cmp} names) q ≡ true → slice_get names (number_in names q) ≡ Some q
slice_get-number_in names q sorted here = place_of names q sorted (sym (contains-from_list name_total names q) ∙ here)
