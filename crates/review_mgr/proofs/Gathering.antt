-- What a loop collects: the values of a function at the items that pass a test, as a sorted list.
use Rattle.std.proofs.Common.{◌≡◌, ℕ, ◌<◌, ◌≤◌, Bool, true, false, cond, List, [], ◌∷◌, ◌++◌, length, map, refl, sym, ◌∙◌, ap, subst, inl, inr}
use Rattle.std.specs.Prelude.{IsTrue}
use Rattle.std.specs.List as lists
use Rattle.std.specs.List.{filter, HoldsAt}
use Rattle.std.specs.List.Sorted.{IsStrictlySortedBy, IsPartitionPoint}
use Rattle.std.specs.declared.cmp.Ordering.{Ordering}
use Rattle.std.specs.declared.cmp.Ordering.TheVariants.{Less, Equal, Greater}
use Rattle.std.specs.Cmp.{IsTotalOrder}
use Rattle.std.specs.FinMap.{IsAntisymmetric}
use Rattle.std.specs.FinSet.{FinSet}
use Rattle.std.proofs.lemmas.List.{append_assoc, append-nil}
use Rattle.std.proofs.lemmas.Bool.{or_right}
use Rattle.rbac_sets.specs.Sets.{from_list, insert, contains, members, retain, image}
use Rattle.rbac_sets.proofs.SetLaws.{gathered_push, gathered-image, from_members, contains-insert, contains-insert-Decides, same_members, retain-all}
use Rattle.rbac_sets.proofs.InOrder.{members-sorted, sorted-insert, from_list-insert, contains-found}

-- ---- the items of a loop: those that are done, and those that are left

-- with the first of those that are left, one more is done
pub split_next : {K : Type 0} (items done left rest : List K) (x : K) → left ≡ x ∷ rest → items ≡ done ++ left → items ≡ (done ++ x ∷ []) ++ rest
split_next items done left rest x is so = so ∙ ap (λ ys. done ++ ys) is ∙ sym (append_assoc done (x ∷ []) rest)

-- if none is left, all are done
pub split_whole : {K : Type 0} (items done left : List K) → left ≡ [] → items ≡ done ++ left → items ≡ done
split_whole items done left none so = so ∙ ap (λ ys. done ++ ys) none ∙ append-nil done

-- ---- what is gathered

-- the list has, in order, the values of f at the items that pass
pub record Gathers {K J : Type 0} (Q : J → J → Ordering) (p : K → Bool) (f : K → J) (items : List K) (entries : List J) : Type 0 where
  pub sorted : IsStrictlySortedBy Q entries
  pub all : from_list {R = Q} entries ≡ from_list {R = Q} (map f (filter p items))

-- the empty list is in order
pub sorted_start : {J : Type 0} (Q : J → J → Ordering) (entries : List J) → entries ≡ [] → IsStrictlySortedBy Q entries
unfolding IsStrictlySortedBy
sorted_start Q entries none = subst (IsStrictlySortedBy Q) (sym none) tt

module _ {K J : Type 0} {R : K → K → Ordering} {Q : J → J → Ordering} (total : IsTotalOrder R) (exact : IsAntisymmetric R) (totals : IsTotalOrder Q) (exacts : IsAntisymmetric Q) (p : K → Bool) (f : K → J) where
  pub gathers_start : (entries : List J) → entries ≡ [] → Gathers Q p f [] entries
  gathers_start entries none = record { sorted = sorted_start Q entries none; all = ap (from_list {R = Q}) none }

  module _ (items : List K) (x : K) where
    one_more : from_list {R = Q} (map f (filter p (items ++ x ∷ []))) ≡ cond (p x) (insert (from_list {R = Q} (map f (filter p items))) (f x)) (from_list {R = Q} (map f (filter p items)))
    one_more = gathered_push total exact totals exacts p f items x

    -- an item that passes is inserted
    pub gathers_put : (entries more : List J) → Gathers Q p f items entries → p x ≡ true → IsStrictlySortedBy Q more → from_list {R = Q} more ≡ insert (from_list {R = Q} entries) (f x)
        → Gathers Q p f (items ++ x ∷ []) more
    gathers_put entries more old passes sorted put = record {
      sorted = sorted;
      all = put ∙ ap (λ s. insert s (f x)) old.all ∙ sym (one_more ∙ ap (λ b. cond b (insert (from_list {R = Q} (map f (filter p items))) (f x)) (from_list {R = Q} (map f (filter p items)))) passes);
    }

    -- one that does not pass is skipped
    pub gathers_skip : (entries : List J) → Gathers Q p f items entries → p x ≡ false → Gathers Q p f (items ++ x ∷ []) entries
    gathers_skip entries old fails = record {
      sorted = old.sorted;
      all = old.all ∙ sym (one_more ∙ ap (λ b. cond b (insert (from_list {R = Q} (map f (filter p items))) (f x)) (from_list {R = Q} (map f (filter p items)))) fails);
    }

  -- at the end it is the image, in order
  pub gathered-members : (s : FinSet R) (items : List K) (entries : List J) → items ≡ members s → Gathers Q p f items entries → entries ≡ members (image {Q = Q} f (retain s p))
  gathered-members s items entries is all =
      sym (members-sorted totals entries all.sorted)
      ∙ ap members (all.all ∙ ap (λ ys. from_list {R = Q} (map f (filter p ys))) is
      ∙ gathered-image total exact totals exacts p f (members s) ∙ ap (λ t. image {Q = Q} f (retain t p)) (from_members total exact s))

-- ---- each item passes

pub retain-always : {K : Type 0} {R : K → K → Ordering} (total : IsTotalOrder R) (exact : IsAntisymmetric R) (s : FinSet R) → retain s (λ (x : K). true) ≡ s
retain-always total exact s = retain-all total exact s (λ x. true) (λ x h. refl)

-- ---- an entry is inserted at its place in the order, unless it is there

module _ {K : Type 0} {R : K → K → Ordering} (total : IsTotalOrder R) (exact : IsAntisymmetric R) where
  -- inserting what is there changes nothing
  pub insert-there : (s : FinSet R) (x : K) → contains s x ≡ true → s ≡ insert s x
  insert-there s x here = same_members total exact s (insert s x) (λ y. (
    λ h. contains-insert total s x y ∙ or_right _ _ h,
    λ h. elim ((contains-insert-Decides total exact s x y).0 h) [ inl e ↦ subst (λ z. IsTrue (contains s z)) (sym e) here | inr old ↦ old ],
  ))

  pub put-sorted : (xs ys : List K) (x e : K) (i : ℕ) → IsStrictlySortedBy R xs
      → (i ≤ length xs) × IsPartitionPoint (λ y. R y x ≡ Less) (λ y. R y x ≡ Greater) xs i → e ≡ x → ys ≡ lists.insert xs i e → IsStrictlySortedBy R ys
  put-sorted xs ys x e i sorted gap same put =
      subst (IsStrictlySortedBy R) (sym (put ∙ ap (lists.insert xs i) same)) (sorted-insert total xs x i gap.0 gap.1.0 gap.1.1 sorted)

  pub put-all : (xs ys : List K) (x e : K) (i : ℕ) → e ≡ x → ys ≡ lists.insert xs i e → from_list {R = R} ys ≡ insert (from_list {R = R} xs) x
  put-all xs ys x e i same put = ap (from_list {R = R}) (put ∙ ap (lists.insert xs i) same) ∙ from_list-insert total exact xs x i

  pub put-there : (xs : List K) (x : K) (i : ℕ) → (i < length xs) × HoldsAt (λ y. R y x ≡ Equal) xs i → from_list {R = R} xs ≡ insert (from_list {R = R} xs) x
  put-there xs x i found = insert-there (from_list {R = R} xs) x (contains-found total xs x i found.0 found.1)
