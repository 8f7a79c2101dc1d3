-- Sets with entries added: unions, and how many members they have.
use Rattle.std.proofs.Common.{◌≡◌, ◌+◌, false, cond, ◌||◌, List, [], ◌∷◌, length, refl, sym, ◌∙◌, ap, arith}
use Rattle.std.specs.Prelude.{IsTrue}
use Rattle.std.specs.List.{list_any, IsDistinct}
use Rattle.std.specs.declared.cmp.Ordering.{Ordering}
use Rattle.std.specs.Ordering.{eq_by_cmp}
use Rattle.std.specs.Cmp.{IsTotalOrder}
use Rattle.std.specs.FinMap as finmap
use Rattle.std.specs.FinMap.{IsAntisymmetric}
use Rattle.std.specs.FinSet.{FinSet}
use Rattle.std.proofs.Math.Bool.{or_assoc, or-false}
use Rattle.std.proofs.lemmas.Bool.{or_left, or_right, true≢false, false_from_ne_true}
use Rattle.rbac_sets.specs.Sets.{IsDisjoint, empty, contains, insert, insert_all, union, from_list, members, len}
use Rattle.rbac_sets.proofs.SetLaws.{or_turned, contains-empty, contains-insert, contains-from_list, contains-members, contains-union, same_set, tie_Decides}
use Rattle.rbac_sets.proofs.InOrder.{none_passes}
use Rattle.rbac_sets.proofs.Members.{len-members, members-distinct}

module _ {K : Type 0} {R : K → K → Ordering} (total : IsTotalOrder R) (exact : IsAntisymmetric R) where
  -- the union with the empty set
  pub union-empty : (s : FinSet R) → union s empty ≡ s
  union-empty s = same_set total exact (union s empty) s (λ y.
      contains-union total exact s empty y ∙ ap (λ b. contains s y || b) (contains-empty R y) ∙ or-false (contains s y))

  -- the union with one more entry in the second set
  pub union-insert : (s t : FinSet R) (x : K) → union s (insert t x) ≡ insert (union s t) x
  union-insert s t x = same_set total exact (union s (insert t x)) (insert (union s t) x) (λ y.
      contains-union total exact s (insert t x) y
      ∙ ap (λ b. contains s y || b) (contains-insert total t x y)
      ∙ or_turned (contains s y) (eq_by_cmp R y x) (contains t y)
      ∙ ap (λ b. eq_by_cmp R y x || b) (sym (contains-union total exact s t y))
      ∙ sym (contains-insert total (union s t) x y))

  -- an entry that is inserted before the union may be inserted into the second set instead
  pub insert-union : (s t : FinSet R) (x : K) → union (insert s x) t ≡ union s (insert t x)
  insert-union s t x = same_set total exact (union (insert s x) t) (union s (insert t x)) (λ y.
      contains-union total exact (insert s x) t y
      ∙ ap (λ b. b || contains t y) (contains-insert total s x y)
      ∙ or_assoc (eq_by_cmp R y x) (contains s y) (contains t y)
      ∙ or_turned (eq_by_cmp R y x) (contains s y) (contains t y)
      ∙ ap (λ b. contains s y || b) (sym (contains-insert total t x y))
      ∙ sym (contains-union total exact s (insert t x) y))

  -- inserting each entry of a list is the union with the set of the list
  pub insert_all-union : (s : FinSet R) (xs : List K) → insert_all s xs ≡ union s (from_list xs)
  unfolding insert_all from_list
  insert_all-union s [] = sym (union-empty s)
  insert_all-union s (x ∷ xs) = ap (λ t. insert t x) (insert_all-union s xs) ∙ sym (union-insert s (from_list xs) x)

  -- an absent entry adds one to the number of members
  pub len-insert-new : (s : FinSet R) (x : K) → contains s x ≡ false → len (insert s x) ≡ len s + 1
  unfolding len insert contains
  len-insert-new s x absent = finmap.len-insert total s x tt ∙ ap (λ b. cond b (finmap.len s) (finmap.len s + 1)) absent

  -- the members after the entries of a list are inserted
  contains-insert_all : (s : FinSet R) (xs : List K) (y : K) → contains (insert_all s xs) y ≡ (contains s y || list_any (eq_by_cmp R y) xs)
  contains-insert_all s xs y = ap (λ t. contains t y) (insert_all-union s xs) ∙ contains-union total exact s (from_list xs) y
      ∙ ap (λ b. contains s y || b) (contains-from_list total xs y)

  -- distinct absent entries add their number to the number of members
  pub len-insert_all : (s : FinSet R) (xs : List K) → IsDistinct (eq_by_cmp R) xs → ((x : K) → IsTrue (list_any (eq_by_cmp R x) xs) → contains s x ≡ false) →
      len (insert_all s xs) ≡ len s + length xs
  unfolding insert_all IsDistinct
  len-insert_all s [] distinct absent = omega arith
  len-insert_all s (x ∷ xs) distinct absent =
      let here : contains s x ≡ false = absent x (or_left (eq_by_cmp R x x) _ ((tie_Decides total exact x x).1 refl)) in
      let rest : len (insert_all s xs) ≡ len s + length xs = len-insert_all s xs distinct.1 (λ y h. absent y (or_right (eq_by_cmp R y x) _ h)) in
      let new : contains (insert_all s xs) x ≡ false = contains-insert_all s xs x ∙ ap (λ b. b || list_any (eq_by_cmp R x) xs) here
      ∙ none_passes (eq_by_cmp R x) xs distinct.0 in
      let more : len (insert (insert_all s xs) x) ≡ len (insert_all s xs) + 1 = len-insert-new (insert_all s xs) x new in
      omega (arith, rest, more)

  -- the union of disjoint sets has as many members as both together
  pub len-union : (s t : FinSet R) → IsDisjoint s t → len (union s t) ≡ len s + len t
  unfolding union
  len-union s t apart =
      let all : len (insert_all s (members t)) ≡ len s + length (members t) = len-insert_all s (members t) (members-distinct R t) (λ x there.
      false_from_ne_true (contains s x) (λ h. true≢false (sym (contains-members t x ∙ there) ∙ apart x h))) in
      let counted : len t ≡ length (members t) = len-members t in
      omega (arith, all, counted)

  -- the set of distinct entries has as many members as the list
  pub len-distinct : (xs : List K) → IsDistinct (eq_by_cmp R) xs → len (from_list {R = R} xs) ≡ length xs
  unfolding from_list IsDistinct len empty
  len-distinct [] distinct = finmap.len-empty R (Unit {0})
  len-distinct (x ∷ xs) distinct =
      let rest : len (from_list {R = R} xs) ≡ length xs = len-distinct xs distinct.1 in
      let more : len (insert (from_list {R = R} xs) x) ≡ len (from_list {R = R} xs) + 1 = len-insert-new (from_list xs) x (contains-from_list total xs x ∙ none_passes (eq_by_cmp R x) xs distinct.0) in
      omega (arith, rest, more)
