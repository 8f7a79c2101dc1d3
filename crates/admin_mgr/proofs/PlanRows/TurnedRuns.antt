-- What begins with one name in a set that is kept turned: the entries of the set that end with it, in their order.
use Rattle.std.proofs.Common.{◌≡◌, Bool, true, false, cond, List, [], ◌∷◌, map, refl, sym, ◌∙◌, ap, subst}
use Rattle.std.specs.Prelude.{IsTrue, filter}
use Rattle.std.specs.List.{AllByRecursion, list_any}
use Rattle.std.specs.List.Sorted.{IsStrictlySortedBy}
use Rattle.std.specs.declared.cmp.Ordering.{Ordering}
use Rattle.std.specs.declared.cmp.Ordering.TheVariants.{Less}
use Rattle.std.specs.Ordering.{eq_by_cmp, ordering_then}
use Rattle.std.specs.Cmp.{IsTotalOrder, tied_itself}
use Rattle.std.specs.FinMap.{IsAntisymmetric}
use Rattle.std.specs.FinSet.{FinSet}
use Rattle.std.proofs.lemmas.Bool.{and_parts, and_from, or_left, or_right}
use Rattle.rbac_sets.specs.Sets.{Bytes, Pair, Triple, Pairs, Triples, name_cmp, pair_cmp, triple_cmp, same_name, contains, members, from_list, retain, image}
use Rattle.rbac_sets.specs.NameOrder.{name_total, name_exact, pair_total, pair_exact, triple_total, triple_exact}
use Rattle.rbac_sets.proofs.Members.{members-rise, members-retain}
use Rattle.rbac_sets.proofs.InOrder.{members-sorted}
use Rattle.rbac_sets.proofs.SetLaws.{contains-members, contains-retain, image-Decides, same_members, tie_Decides}

-- what holds of each entry of a set holds along the list of its members
all_members : {K : Type 0} {R : K → K → Ordering} (total : IsTotalOrder R) (exact : IsAntisymmetric R) (P : K → Type 0) (xs : List K)
    → ((x : K) → IsTrue (list_any (eq_by_cmp R x) xs) → P x) → AllByRecursion P xs
all_members total exact P [] each = tt
all_members {R} total exact P (x ∷ xs) each = (
  each x (or_left _ _ ((tie_Decides total exact x x).1 refl)),
  all_members total exact P xs (λ y there. each y (or_right (eq_by_cmp R y x) _ there)),
)

module _ {K J : Type 0} {R : K → K → Ordering} {Q : J → J → Ordering} (total : IsTotalOrder R) (exact : IsAntisymmetric R) (totals : IsTotalOrder Q) (exacts : IsAntisymmetric Q) where
  -- f turns entries, back turns them back, and among those that pass p the order is the same
  module _ (f : K → J) (back : J → K) (returns : (x : K) → back (f x) ≡ x) (p : K → Bool) (q : J → Bool) (agree : (x : K) → q (f x) ≡ p x)
      (rises : (x y : K) → p x ≡ true → p y ≡ true → Q (f x) (f y) ≡ Less → R x y ≡ Less) where
    abbrev IsValue : J → Type 0
    IsValue y = (x : K) × (f x ≡ y) × (p x ≡ true)

    below : (y : J) → IsValue y → (ys : List J) → AllByRecursion IsValue ys → AllByRecursion (λ z. Q y z ≡ Less) ys → AllByRecursion (λ x. R (back y) x ≡ Less) (map back ys)
    below y is [] are less = tt
    below y is (z ∷ zs) are less = (
      (λ i. R ((ap back (sym is.1) ∙ returns is.0) i) ((ap back (sym are.0.1) ∙ returns are.0.0) i))
          ∙ rises is.0 are.0.0 is.2 are.0.2 ((λ i. Q (is.1 i) (are.0.1 i)) ∙ less.0),
      below y is zs are.1 less.1,
    )

    turned_sorted : (ys : List J) → AllByRecursion IsValue ys → IsStrictlySortedBy Q ys → IsStrictlySortedBy R (map back ys)
    unfolding IsStrictlySortedBy
    turned_sorted [] are rise = tt
    turned_sorted (y ∷ ys) are rise = (below y are.0 ys are.1 rise.0, turned_sorted ys are.1 rise.1)

    abbrev kept : FinSet R → FinSet Q
    kept s = retain (image f s) q

    a_value : (s : FinSet R) (y : J) → IsTrue (contains (kept s) y) → (x : K) × IsTrue (contains s x) × (f x ≡ y) × (p x ≡ true)
    a_value s y there =
        let parts = and_parts _ _ (sym (contains-retain totals exacts (image f s) q y) ∙ there) in
        let found = (image-Decides total exact totals exacts f s y).0 parts.0 in
        (found.0, found.1, found.2, sym (agree found.0) ∙ ap q found.2 ∙ parts.1)

    values : (s : FinSet R) → AllByRecursion IsValue (members (kept s))
    values s = all_members totals exacts IsValue (members (kept s)) (λ y there.
        let found = a_value s y (contains-members (kept s) y ∙ there) in (found.0, found.2, found.3))

    is_image : (s : FinSet R) → from_list {R = R} (map back (members (kept s))) ≡ image {Q = R} back (kept s)
    unfolding image
    is_image s = refl

    same_entries : (s : FinSet R) → from_list {R = R} (map back (members (kept s))) ≡ retain s p
    same_entries s = is_image s ∙ same_members total exact (image back (kept s)) (retain s p) (λ x. (
      λ h. (let made = (image-Decides totals exacts total exact back (kept s) x).0 h in
          let found = a_value s made.0 made.1 in
          let is : found.0 ≡ x = sym (returns found.0) ∙ ap back found.2 ∙ made.2 in
          subst (λ z. contains (retain s p) z ≡ true) is (contains-retain total exact s p found.0 ∙ and_from _ _ found.1 found.3)),
      λ h. (let parts = and_parts _ _ (sym (contains-retain total exact s p x) ∙ h) in
          (image-Decides totals exacts total exact back (kept s) x).1
          (f x, contains-retain totals exacts (image f s) q (f x) ∙ and_from _ _ ((image-Decides total exact totals exacts f s (f x)).1 (x, parts.0, refl)) (agree x ∙ parts.1), returns x)),
    ))

    pub filter-turned : (s : FinSet R) → map back (filter q (members (image {Q = Q} f s))) ≡ filter p (members s)
    filter-turned s =
        ap (map back) (sym (members-retain totals exacts (image f s) q))
        ∙ sym (members-sorted total _ (turned_sorted (members (kept s)) (values s) (members-rise Q (kept s))))
        ∙ ap members (same_entries s) ∙ members-retain total exact s p

-- names that tie with a third leave the rest to decide
then_rest : (a b r : Bytes) (rest : Ordering) → same_name a r ≡ true → same_name b r ≡ true → ordering_then (name_cmp a b) rest ≡ rest
then_rest a b r rest x y =
    (λ i. ordering_then (name_cmp ((tie_Decides name_total name_exact a r).0 x i) ((tie_Decides name_total name_exact b r).0 y i)) rest) ∙ ap (λ o. ordering_then o rest) (tied_itself name_total r)

pub pairs_by_second : (s : Pairs) (r : Bytes)
    → map (λ (pair : Pair). (pair.1, pair.0)) (filter (λ (pair : Pair). same_name pair.0 r) (members (image {Q = pair_cmp} (λ (pair : Pair). (pair.1, pair.0)) s)))
    ≡ filter (λ (pair : Pair). same_name pair.1 r) (members s)
pairs_by_second s r = filter-turned pair_total pair_exact pair_total pair_exact (λ (pair : Pair). (pair.1, pair.0)) (λ (pair : Pair). (pair.1, pair.0)) (λ x. refl) _ _ (λ x. refl)
    (λ x y px py less. ap (λ o. ordering_then o (name_cmp x.1 y.1)) (sym (then_rest x.1 y.1 r _ px py) ∙ less)) s

pub triples_by_third : (s : Triples) (r : Bytes)
    → map (λ (t : Triple). (t.1, t.2, t.0)) (filter (λ (t : Triple). same_name t.0 r) (members (image {Q = triple_cmp} (λ (t : Triple). (t.2, t.0, t.1)) s)))
    ≡ filter (λ (t : Triple). same_name t.2 r) (members s)
triples_by_third s r = filter-turned triple_total triple_exact triple_total triple_exact (λ (t : Triple). (t.2, t.0, t.1)) (λ (t : Triple). (t.1, t.2, t.0)) (λ x. refl) _ _ (λ x. refl)
    (λ x y px py less. ap (λ o. ordering_then o (name_cmp x.2 y.2)) (sym (ap (λ o. ordering_then o (name_cmp x.1 y.1)) (then_rest x.2 y.2 r _ px py)) ∙ less)) s

-- ---- lists

pub map_twice : {A B C : Type 0} (g : B → C) (h : A → B) (xs : List A) → map g (map h xs) ≡ map (λ x. g (h x)) xs
map_twice g h [] = refl
map_twice g h (x ∷ xs) = ap (λ ys. g (h x) ∷ ys) (map_twice g h xs)

-- a test that implies the one before it
pub filter_implied : {A : Type 0} (p q : A → Bool) → ((x : A) → q x ≡ false → p x ≡ false) → (xs : List A) → filter p (filter q xs) ≡ filter p xs
filter_implied p q implied [] = refl
filter_implied {A} p q implied (x ∷ xs) = by (q x) refl (filter_implied p q implied xs)
  where
    by : (b : Bool) → q x ≡ b → filter p (filter q xs) ≡ filter p xs → filter p (filter q (x ∷ xs)) ≡ filter p (x ∷ xs)
    by true is rest = rw is (ap (λ ys. cond (p x) (x ∷ ys) ys) rest)
    by false is rest = rw (is, implied x is) rest

-- an entry that fails a test is left out
pub filter_fails : {A : Type 0} (p : A → Bool) (x : A) (xs : List A) → p x ≡ false → filter p (x ∷ xs) ≡ filter p xs
filter_fails p x xs fails = rw fails refl
