-- Lists with a gap of entries that were removed.
use Rattle.std.proofs.Common.{◌≡◌, ℕ, zero, suc, ◌+◌, ◌-◌, ◌<◌, ◌≤◌, ◌↔◌, IsTrue, true, false, inl, inr, List, [], ◌∷◌, ◌++◌, length, take, drop, get_or, set}
use Rattle.std.proofs.Common.{refl, sym, ap, subst, ◌∙◌, arith, append_assoc, length-drop}
use Rattle.std.specs.List.{AllByRecursion, AllWithin, list_any}
use Rattle.std.specs.List.Sorted.{IsStrictlySortedBy, IsPartitionedBy, IsPartitionPoint}
use Rattle.std.specs.declared.cmp.Ordering.{Ordering}
use Rattle.std.specs.declared.cmp.Ordering.TheVariants.{Less, Equal, Greater}
use Rattle.std.specs.Ordering.{is_eq, is_lt, eq_by_cmp, ordering_reverse}
use Rattle.std.specs.Cmp.{IsTotalOrder, tied_itself}
use Rattle.std.specs.FinMap.{IsAntisymmetric}
use Rattle.std.proofs.lemmas.Bool.{cases_lt, or_left, or_right, true≢false}
use Rattle.std.proofs.lemmas.List.{take-append-drop, take_more_set, take-set-le, drop-set-lt, drop_more, set-get_or, get_or_default, get_or-drop, get_or-take, length-take, length-take-le}
use Rattle.std.proofs.lemmas.List.Folds.{list_any-append}
use Rattle.std.proofs.lemmas.Map.Keys.{Less-from_sorted}
use Rattle.rbac_sets.specs.Sets.{contains, remove, from_list}
use Rattle.rbac_sets.specs.SetRemoval.{around}
use Rattle.rbac_sets.specs.private.Gaps.{IsFirst, IsNotBelow, IsPassed}
use Rattle.rbac_sets.proofs.SetLaws.{contains-from_list}
use Rattle.std.proofs.Math.Seq.{take-append_seam, drop-append_seam, take-append-add, drop-append-add}
use Rattle.rbac_sets.proofs.Lists.{all_join}
use Rattle.rbac_sets.proofs.InOrder.{all_front, all_map, all_take, none_passes, less_of, sorted_without, sorted_back, from_list-without, remove_absent}

-- swapping the items at the gap's start and end and moving the gap by one keeps the list around it
around-swap : {K : Type 0} (xs ys : List K) (start end : ℕ) (d : K) → start ≤ end → end < length xs → ys ≡ set (set xs start (get_or xs end d)) end (get_or xs start d)
    → around (start + 1) (end + 1) ys ≡ around start end xs
around-swap {K} xs ys start end d order within is = elim (cases_lt start end) [
  | inl before ↦
      ap (around (start + 1) (end + 1)) is
      ∙ (λ i. (take-set-le (start + 1) moved end (get_or xs start d) (omega (arith, before)) ∙ take_more_set xs start (get_or xs end d) (omega (arith, within, before))) i
      ++ (drop-set-lt (end + 1) moved end (get_or xs start d) (omega arith) ∙ drop-set-lt (end + 1) xs start (get_or xs end d) (omega (arith, before))) i)
      ∙ append_assoc (take start xs) (get_or xs end d ∷ []) (drop (end + 1) xs)
      ∙ ap (λ l. take start xs ++ l) (sym (drop_more xs end d within))
  | inr not_before ↦ (
      let same : start ≡ end = omega (arith, order, not_before) in
      let still : ys ≡ xs = is ∙ ap (λ n. set (set xs start (get_or xs n d)) n (get_or xs start d)) (sym same) ∙ ap (λ l. set l start (get_or xs start d)) (set-get_or xs start d) ∙ set-get_or xs start d in
      ap (around (start + 1) (end + 1)) still ∙ ap (λ n. around (start + 1) (n + 1) xs) (sym same) ∙ take-append-drop (start + 1) xs ∙ sym (take-append-drop start xs) ∙ ap (λ n. around start n xs) same)
]
  where
    moved : List K
    moved = set xs start (get_or xs end d)

pub around-swapped : {K : Type 0} (xs ys : List K) (start end : ℕ) → start ≤ end → end < length xs → ((d : K) → ys ≡ set (set xs start (get_or xs end d)) end (get_or xs start d))
    → around (start + 1) (end + 1) ys ≡ around start end xs
around-swapped [] ys start end order within is = absurd (omega arith)
around-swapped (x ∷ xs) ys start end order within is = around-swap (x ∷ xs) ys start end x order within (is x)

-- what holds along the first part of a list holds within it
pub within-take : {K : Type 0} (P : K → Type 0) (xs : List K) (n : ℕ) → n ≤ length xs → AllWithin P (take n xs) 0 (length (take n xs)) → AllWithin P xs 0 n
within-take P xs n within each k d from to = subst P (get_or-take n xs k d to) (each k d from (omega (arith, to, within, length-take n xs)))

-- the first part of a list in strict order
pub sorted-first : {K : Type 0} (R : K → K → Ordering) (l r : List K) → IsStrictlySortedBy R (l ++ r) → IsStrictlySortedBy R l
unfolding IsStrictlySortedBy
sorted-first R [] r s = tt
sorted-first R (x ∷ l) r s = (all_front (λ y. R x y ≡ Less) l r s.0, sorted-first R l r s.1)

-- the last part of a list in strict order
pub sorted-last : {K : Type 0} (R : K → K → Ordering) (l r : List K) → IsStrictlySortedBy R (l ++ r) → IsStrictlySortedBy R r
unfolding IsStrictlySortedBy
sorted-last R [] r s = s
sorted-last R (x ∷ l) r s = sorted-last R l r s.1

-- an ordering that is neither of the other two
third : (a : Ordering) → (a ≡ Less → ⊥) → (a ≡ Equal → ⊥) → a ≡ Greater
third Less not_less not_equal = absurd (not_less refl)
third Equal not_less not_equal = absurd (not_equal refl)
third Greater not_less not_equal = refl

module _ {K : Type 0} {R : K → K → Ordering} (o : IsTotalOrder R) where
  -- those less than x come first
  pub below_first : (xs : List K) (x : K) → IsStrictlySortedBy R xs → IsPartitionedBy (λ y. is_lt (R y x)) xs
  below_first xs x s i j d order within low = elim (cases_lt i j) [
    | inl before ↦ ap is_lt (o.trans (get_or xs i d) (get_or xs j d) x (Less-from_sorted R xs i j d s before within) (less_of (R (get_or xs j d) x) low))
    | inr not_before ↦ (let same : j ≡ i = omega (arith, order, not_before) in ap (λ n. is_lt (R (get_or xs n d) x)) (sym same) ∙ low)
  ]

  -- all are less than x exactly if the last is
  pub below_last : (xs : List K) (x last : K) → IsStrictlySortedBy R xs → 0 < length xs → last ≡ get_or xs (length xs - 1) last → IsTrue (is_lt (R last x)) ↔ AllWithin (λ y. R y x ≡ Less) xs 0 (length xs)
  below_last xs x last s some is = (
    λ low k d from to. less_of (R (get_or xs k d) x) (below_first xs x s k (length xs - 1) d (omega (arith, to)) (omega (arith, to))
        (ap (λ y. is_lt (R y x)) (sym (is ∙ get_or_default xs (length xs - 1) last d (omega (arith, some)))) ∙ low)),
    λ all. ap is_lt (ap (λ y. R y x) is ∙ all (length xs - 1) last (omega arith) (omega (arith, some))),
  )

  -- the first item behind the gap is the one to remove
  pub taken_first : IsAntisymmetric R → (l r : List K) (x : K) → IsStrictlySortedBy R (l ++ r) → IsFirst R x r
      → (0 < length r) × IsStrictlySortedBy R (l ++ drop 1 r) × (contains (from_list {R = R} (l ++ r)) x ≡ true) × (from_list {R = R} (l ++ drop 1 r) ≡ remove (from_list {R = R} (l ++ r)) x)
  taken_first exact l [] x s first = absurd first
  taken_first exact l (y ∷ r) x s first = (
    omega arith,
    sorted_without R l r y s,
    contains-from_list o (l ++ y ∷ r) x ∙ list_any-append (eq_by_cmp R x) l (y ∷ r)
        ∙ or_right (list_any (eq_by_cmp R x) l) _ (or_left _ _ (ap (eq_by_cmp R x) (exact y x first) ∙ ap is_eq (tied_itself o x))),
    from_list-without o exact l r y s ∙ ap (remove (from_list {R = R} (l ++ y ∷ r))) (exact y x first),
  )

  -- an item that is greater than all before the gap, and less than all behind it, isn't there
  pub taken_none : IsAntisymmetric R → (l r : List K) (x : K) → IsStrictlySortedBy R (l ++ r) → AllByRecursion (λ y. R y x ≡ Less) l → IsNotBelow R x r → (IsFirst R x r → ⊥)
      → (contains (from_list {R = R} (l ++ r)) x ≡ false) × (from_list {R = R} (l ++ r) ≡ remove (from_list {R = R} (l ++ r)) x)
  taken_none exact l r x s below from other = (absent, remove_absent o (from_list {R = R} (l ++ r)) x exact absent)
    where
      more : (y : K) → R y x ≡ Greater → eq_by_cmp R x y ≡ false
      more y e = ap is_eq (o.antisymm x y ∙ ap ordering_reverse e)

      behind : (t : List K) → IsStrictlySortedBy R (l ++ t) → IsNotBelow R x t → (IsFirst R x t → ⊥) → AllByRecursion (λ y. R y x ≡ Greater) t
      behind [] sorted not_less not_tied = tt
      behind (y ∷ t) sorted not_less not_tied = (
        high,
        all_map (λ z. R y z ≡ Less) (λ z. R z x ≡ Greater)
            (λ z e. o.antisymm z x ∙ ap ordering_reverse (o.trans x y z (o.antisymm x y ∙ ap ordering_reverse high) e)) t (sorted_back R l t y sorted),
      )
        where
          high : R y x ≡ Greater
          high = third (R y x) not_less not_tied

      absent : contains (from_list {R = R} (l ++ r)) x ≡ false
      absent =
          let front = none_passes (eq_by_cmp R x) l (all_map (λ y. R y x ≡ Less) (λ y. eq_by_cmp R x y ≡ false) (λ y e. ap is_eq (o.antisymm x y ∙ ap ordering_reverse e)) l below) in
          let back = none_passes (eq_by_cmp R x) r (all_map (λ y. R y x ≡ Greater) (λ y. eq_by_cmp R x y ≡ false) more r (behind r s from other)) in
          contains-from_list o (l ++ r) x ∙ list_any-append (eq_by_cmp R x) l r ∙ rw (front, back)

-- a gap at the place at which the items less than x end, if these come first
pub passed-partition : {K : Type 0} (R : K → K → Ordering) (xs : List K) (x : K) (at : ℕ) → at ≤ length xs
    → IsPartitionPoint (λ y. is_lt (R y x) ≡ true) (λ y. is_lt (R y x) ≡ false) xs at → IsPassed R x at at xs
passed-partition {K} R xs x at within point = (λ k d from to. less_of (R (get_or xs k d) x) (point.0 k d from to), first (drop at xs) (λ d some. ap (λ y. is_lt (R y x)) (get_or-drop at xs 0 d) ∙ point.1 (at + 0) d (omega arith) (omega (arith, some, length-drop at xs))))
  where
    first : (ys : List K) → ((d : K) → 0 < length ys → is_lt (R (get_or ys 0 d) x) ≡ false) → IsNotBelow R x ys
    first [] high = tt
    first (y ∷ ys) high = λ less. true≢false (sym (ap is_lt less) ∙ high y (omega arith))

all_within : {K : Type 0} (P : K → Type 0) (xs : List K) → AllByRecursion P xs → AllWithin P xs 0 (length xs)
all_within P [] each k d from to = absurd (omega arith)
all_within P (x ∷ xs) each zero d from to = each.0
all_within P (x ∷ xs) each (suc k) d from to = all_within P xs each.1 k d (omega arith) (omega arith)

-- the gap was moved after as many items as are less than x
pub passed-around : {K : Type 0} (R : K → K → Ordering) (xs ys : List K) (x : K) (start end count : ℕ) → start ≤ end → end + count ≤ length xs → length ys ≡ length xs
    → around (start + count) (end + count) ys ≡ around start end xs → AllWithin (λ y. R y x ≡ Less) xs 0 start
    → IsPartitionPoint (λ y. is_lt (R y x) ≡ true) (λ y. is_lt (R y x) ≡ false) (drop end xs) count → IsPassed R x (start + count) (end + count) ys
passed-around {K} R xs ys x start end count order within size same below point = (
  within-take P ys (start + count) (omega (arith, within, size, order)) (all_within P (take (start + count) ys) (subst (AllByRecursion P) (sym front) (all_join P (take start xs) (take count rest)
      (all_take P xs start (omega arith) below)
      (all_map (λ y. is_lt (R y x) ≡ true) P (λ y e. less_of (R y x) e) (take count rest) (all_take (λ y. is_lt (R y x) ≡ true) rest count enough point.0))))),
  subst (IsNotBelow R x) (sym back) (passed-partition R rest x count enough point).1,
)
  where
    P : K → Type 0
    P y = R y x ≡ Less

    rest : List K
    rest = drop end xs

    enough : count ≤ length rest
    enough = omega (arith, within, length-drop end xs)

    at_start : length (take start xs) ≡ start
    at_start = length-take-le start xs (omega (arith, within, order))

    at_count : length (take (start + count) ys) ≡ start + count
    at_count = length-take-le (start + count) ys (omega (arith, within, size, order))

    front : take (start + count) ys ≡ take start xs ++ take count rest
    front = sym (take-append_seam (take (start + count) ys) (drop (end + count) ys)) ∙ (λ i. take (at_count i) (same i))
        ∙ ap (λ n. take (n + count) (around start end xs)) (sym at_start) ∙ take-append-add (take start xs) rest count

    back : drop (end + count) ys ≡ drop count rest
    back = sym (drop-append_seam (take (start + count) ys) (drop (end + count) ys)) ∙ (λ i. drop (at_count i) (same i))
        ∙ ap (λ n. drop (n + count) (around start end xs)) (sym at_start) ∙ drop-append-add (take start xs) rest count
