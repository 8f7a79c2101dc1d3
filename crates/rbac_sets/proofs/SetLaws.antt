-- Laws of the sets of names, pairs and triples, and of their operations.
use Rattle.std.proofs.Common.{◌≡◌, Bool, true, false, cond, not, ◌&&◌, ◌||◌, List, [], ◌∷◌, ◌++◌, length, map, refl, sym, ◌∙◌, ap, subst, inl, inr}
use Rattle.std.specs.Prelude.{IsTrue, nat_eq, ◌⊎◌, ◌↔◌, Option, Some, None, is_some}
use Rattle.std.specs.Bool.{Decides, one_answer}
use Rattle.std.specs.List.{list_any, list_all}
use Rattle.std.specs.declared.cmp.Ordering.{Ordering}
use Rattle.std.specs.Ordering.{eq_by_cmp}
use Rattle.std.specs.Cmp.{IsTotalOrder, Equal-is, tied_itself, both_ways}
use Rattle.std.specs.Cmp.Lexicographic.{pointwise, bytes_decides}
use Rattle.std.specs.FinMap as finmap
use Rattle.std.specs.FinMap.{IsAntisymmetric}
use Rattle.std.specs.FinSet.{FinSet}
use Rattle.std.specs.List.{filter}
use Rattle.std.proofs.lemmas.List.Elements.{filter-append}
use Rattle.std.proofs.lemmas.List.{map-append, append-nil}
use Rattle.std.proofs.Math.Bool.{or_comm, or_assoc, and-true}
use Rattle.std.proofs.lemmas.List.Folds.{list_any-append}
use Rattle.std.proofs.lemmas.Bool.{or_cases, or_left, or_right, and_parts, and_from, not-true, true≢false}
use Rattle.rbac_sets.specs.NameOrder.{name_total, name_exact, pair_total, pair_exact}
use Rattle.rbac_sets.specs.Sets.{union, insert_all, difference, IsDisjoint, Bytes, Pair, Pairs, empty, contains, insert, remove, retain, members, from_list, any, all, image, seconds, same_name}
use Rattle.rbac_sets.proofs.Lists.{any-push}

-- ---- membership

pub or_turned : (a b c : Bool) → (a || (b || c)) ≡ (b || (a || c))
or_turned true true c = refl
or_turned true false c = refl
or_turned false b c = refl

some_or : (b : Bool) (x : Option (Unit {0})) → is_some (cond b (Some tt) x) ≡ (b || is_some x)
some_or true x = refl
some_or false x = refl

none_or : (b : Bool) (x : Option (Unit {0})) → is_some (cond b None x) ≡ (not b && is_some x)
none_or true x = refl
none_or false x = refl

or_none : (b : Bool) (x : Option (Unit {0})) → is_some (cond b x None) ≡ (is_some x && b)
or_none true None = refl
or_none true (Some u) = refl
or_none false None = refl
or_none false (Some u) = refl

marked : (x y : Option (Unit {0})) → is_some x ≡ is_some y → x ≡ y
marked None None e = refl
marked None (Some u) e = absurd (true≢false (sym e))
marked (Some u) None e = absurd (true≢false e)
marked (Some u) (Some v) e = refl

one_more : (x s xs : Bool) → (not x && (s && not xs)) ≡ (s && not (xs || (x || false)))
one_more true true true = refl
one_more true true false = refl
one_more true false xs = refl
one_more false true true = refl
one_more false true false = refl
one_more false false xs = refl

pub no_items : {A : Type 0} (xs : List A) → length xs ≡ 0 → xs ≡ []
no_items [] e = refl
no_items (x ∷ xs) e = cc

module _ {K : Type 0} {R : K → K → Ordering} where
  pub contains-members : (s : FinSet R) (x : K) → contains s x ≡ list_any (eq_by_cmp R x) (members s)
  unfolding contains members
  contains-members s x = finmap.contains_key-keys s x

pub contains-empty : {K : Type 0} (R : K → K → Ordering) (x : K) → contains (empty {R = R}) x ≡ false
unfolding contains empty
contains-empty R x = ap is_some (finmap.get-empty R x)

pub members-empty : {K : Type 0} (R : K → K → Ordering) → members (empty {R = R}) ≡ []
unfolding members empty
members-empty {K} R = ap (map (λ (e : K × Unit {0}). e.0)) (no_items _ (sym (finmap.len-entries (finmap.empty {R = R})) ∙ finmap.len-empty R (Unit {0})))

module _ {K : Type 0} {R : K → K → Ordering} (total : IsTotalOrder R) where
  pub contains-insert : (s : FinSet R) (x y : K) → contains (insert s x) y ≡ (eq_by_cmp R y x || contains s y)
  unfolding contains insert
  contains-insert s x y = ap is_some (finmap.get-insert total s x tt y) ∙ some_or _ _

  pub contains-remove : (s : FinSet R) (x y : K) → contains (remove s x) y ≡ (not (eq_by_cmp R y x) && contains s y)
  unfolding contains remove
  contains-remove s x y = ap is_some (finmap.get-remove total s x y) ∙ none_or _ _

  pub contains-from_list : (xs : List K) (y : K) → contains (from_list {R = R} xs) y ≡ list_any (eq_by_cmp R y) xs
  unfolding from_list
  contains-from_list [] y = contains-empty R y
  contains-from_list (x ∷ xs) y = contains-insert (from_list xs) x y ∙ ap (λ b. eq_by_cmp R y x || b) (contains-from_list xs y)

  module _ (exact : IsAntisymmetric R) where
    -- the test of equality
    pub tie_Decides : (x y : K) → Decides (eq_by_cmp R x y) (x ≡ y)
    tie_Decides x y = (λ e. exact x y ((Equal-is (R x y)).0 e), λ e. subst (λ z. eq_by_cmp R x z ≡ true) e ((Equal-is (R x x)).1 (tied_itself total x)))

    pub contains-retain : (s : FinSet R) (p : K → Bool) (x : K) → contains (retain s p) x ≡ (contains s x && p x)
    unfolding contains retain
    contains-retain s p x = ap is_some (finmap.get-retain_keys s p x (λ y tie. ap p (sym (exact x y tie)))) ∙ or_none (p x) (finmap.get s x)

    -- two sets with the same members are equal
    pub same_set : (s t : FinSet R) → ((x : K) → contains s x ≡ contains t x) → s ≡ t
    unfolding contains
    same_set s t same = finmap.same_map total exact s t (λ x. marked _ _ (same x))

    pub same_members : (s t : FinSet R) → ((x : K) → IsTrue (contains s x) ↔ IsTrue (contains t x)) → s ≡ t
    same_members s t same = same_set s t (λ x. both_ways (contains s x) (contains t x) (same x).0 (same x).1)

    pub from_members : (s : FinSet R) → from_list (members s) ≡ s
    from_members s = same_set (from_list (members s)) s (λ x. contains-from_list (members s) x ∙ sym (contains-members s x))

    pub contains-insert-Decides : (s : FinSet R) (x y : K) → Decides (contains (insert s x) y) ((y ≡ x) ⊎ IsTrue (contains s y))
    contains-insert-Decides s x y = (
      λ h. (elim (or_cases (eq_by_cmp R y x) (contains s y) (sym (contains-insert s x y) ∙ h)) [
        | inl same ↦ inl ((tie_Decides y x).0 same)
        | inr old ↦ inr old
      ]),
      λ h. contains-insert s x y ∙ (elim h [
        | inl same ↦ or_left _ _ ((tie_Decides y x).1 same)
        | inr old ↦ or_right _ _ old
      ]),
    )

    insert_all-contains : (s : FinSet R) (xs : List K) (y : K) → contains (insert_all s xs) y ≡ (list_any (eq_by_cmp R y) xs || contains s y)
    unfolding insert_all
    insert_all-contains s [] y = refl
    insert_all-contains s (x ∷ xs) y = contains-insert (insert_all s xs) x y ∙ ap (λ b. eq_by_cmp R y x || b) (insert_all-contains s xs y) ∙ sym (or_assoc (eq_by_cmp R y x) _ _)

    pub contains-union : (s t : FinSet R) (x : K) → contains (union s t) x ≡ (contains s x || contains t x)
    unfolding union
    contains-union s t x = insert_all-contains s (members t) x ∙ ap (λ b. b || contains s x) (sym (contains-members t x)) ∙ or_comm (contains t x) (contains s x)

    pub contains-difference : (s t : FinSet R) (x : K) → contains (difference s t) x ≡ (contains s x && not (contains t x))
    unfolding difference
    contains-difference s t x = contains-retain s (λ y. not (contains t y)) x

    pub difference-none : (s : FinSet R) → difference s (from_list []) ≡ s
    difference-none s = same_set _ _ (λ q. contains-difference s (from_list []) q ∙ ap (λ b. contains s q && not b) (contains-from_list [] q) ∙ and-true (contains s q))

    -- removing one item more
    pub difference-more : (s : FinSet R) (xs : List K) (x : K) → remove (difference s (from_list xs)) x ≡ difference s (from_list (xs ++ x ∷ []))
    difference-more s xs x = same_set _ _ (λ q.
        let there : contains (from_list (xs ++ x ∷ [])) q ≡ (list_any (eq_by_cmp R q) xs || (eq_by_cmp R q x || false)) =
        contains-from_list (xs ++ x ∷ []) q ∙ list_any-append (eq_by_cmp R q) xs (x ∷ []) in
        contains-remove (difference s (from_list xs)) x q
        ∙ ap (λ b. not (eq_by_cmp R q x) && b) (contains-difference s (from_list xs) q ∙ ap (λ b. contains s q && not b) (contains-from_list xs q))
        ∙ one_more (eq_by_cmp R q x) (contains s q) (list_any (eq_by_cmp R q) xs)
        ∙ sym (contains-difference s (from_list (xs ++ x ∷ [])) q ∙ ap (λ b. contains s q && not b) there))

    -- ---- tests of the members

    -- a list that passes a test has an item that does
    pub list_any-found : (p : K → Bool) (xs : List K) → list_any p xs ≡ true → (x : K) × (list_any (eq_by_cmp R x) xs ≡ true) × (p x ≡ true)
    list_any-found p [] h = absurd (true≢false (sym h))
    list_any-found p (x ∷ xs) h = elim (or_cases (p x) (list_any p xs) h) [
      | inl px ↦ (x, or_left _ _ ((tie_Decides x x).1 refl), px)
      | inr rest ↦ let found = list_any-found p xs rest in (found.0, or_right _ _ found.1, found.2)
    ]

    -- and one with such an item passes
    pub list_any-here : (p : K → Bool) (xs : List K) (x : K) → list_any (eq_by_cmp R x) xs ≡ true → p x ≡ true → list_any p xs ≡ true
    list_any-here p [] x h px = absurd (true≢false (sym h))
    list_any-here p (y ∷ ys) x h px = elim (or_cases (eq_by_cmp R x y) (list_any (eq_by_cmp R x) ys) h) [
      | inl same ↦ or_left _ _ (subst (λ z. p z ≡ true) ((tie_Decides x y).0 same) px)
      | inr rest ↦ or_right _ _ (list_any-here p ys x rest px)
    ]

    -- some member passes exactly if there is one that does
    pub any-Decides : (p : K → Bool) (s : FinSet R) → Decides (any p s) ((x : K) × IsTrue (contains s x) × IsTrue (p x))
    unfolding any
    any-Decides p s = (
      λ h. (let found = list_any-found p (members s) h in (found.0, contains-members s found.0 ∙ found.1, found.2)),
      λ (x, member, passes). list_any-here p (members s) x (sym (contains-members s x) ∙ member) passes,
    )

    list_all-at : (p : K → Bool) (xs : List K) → list_all p xs ≡ true → (x : K) → list_any (eq_by_cmp R x) xs ≡ true → p x ≡ true
    list_all-at p [] h x member = absurd (true≢false (sym member))
    list_all-at p (y ∷ ys) h x member = elim (or_cases (eq_by_cmp R x y) (list_any (eq_by_cmp R x) ys) member) [
      | inl same ↦ subst (λ z. p z ≡ true) (sym ((tie_Decides x y).0 same)) (and_parts (p y) _ h).0
      | inr rest ↦ list_all-at p ys (and_parts (p y) _ h).1 x rest
    ]

    list_all-from : (p : K → Bool) (xs : List K) → ((x : K) → list_any (eq_by_cmp R x) xs ≡ true → p x ≡ true) → list_all p xs ≡ true
    list_all-from p [] each = refl
    list_all-from p (y ∷ ys) each = and_from _ _ (each y (or_left _ _ ((tie_Decides y y).1 refl))) (list_all-from p ys (λ x h. each x (or_right _ _ h)))

    -- each member passes
    pub all-Decides : (p : K → Bool) (s : FinSet R) → Decides (all p s) ((x : K) → IsTrue (contains s x) → IsTrue (p x))
    unfolding all
    all-Decides p s = (
      λ h x member. list_all-at p (members s) h x (sym (contains-members s x) ∙ member),
      λ each. list_all-from p (members s) (λ x h. each x (contains-members s x ∙ h)),
    )

    -- no member of s is in t exactly if the two have none in common
    pub disjoint-Decides : (s t : FinSet R) → Decides (all (λ x. not (contains t x)) s) (IsDisjoint s t)
    disjoint-Decides s t = (
      λ h x member. not-true (contains t x) ((all-Decides (λ y. not (contains t y)) s).0 h x member),
      λ apart. (all-Decides (λ y. not (contains t y)) s).1 (λ x member. ap not (apart x member)),
    )

module _ {K J : Type 0} {R : K → K → Ordering} {Q : J → J → Ordering} (total : IsTotalOrder R) (exact : IsAntisymmetric R) (totals : IsTotalOrder Q) (exacts : IsAntisymmetric Q) where
  list_any-map : (p : J → Bool) (f : K → J) (xs : List K) → list_any p (map f xs) ≡ list_any (λ x. p (f x)) xs
  list_any-map p f [] = refl
  list_any-map p f (x ∷ xs) = ap (λ b. p (f x) || b) (list_any-map p f xs)

  contains-image : (f : K → J) (s : FinSet R) (y : J) → contains (image {Q = Q} f s) y ≡ any (λ x. eq_by_cmp Q y (f x)) s
  unfolding image any
  contains-image f s y = contains-from_list totals (map f (members s)) y ∙ list_any-map (eq_by_cmp Q y) f (members s)

  -- y is in the image exactly if it is the value of f at a member
  pub image-Decides : (f : K → J) (s : FinSet R) (y : J) → Decides (contains (image {Q = Q} f s) y) ((x : K) × IsTrue (contains s x) × (f x ≡ y))
  image-Decides f s y = (
    λ h. (let found = (any-Decides total exact (λ x. eq_by_cmp Q y (f x)) s).0 (sym (contains-image f s y) ∙ h) in
        (found.0, found.1, sym ((tie_Decides totals exacts y (f found.0)).0 found.2))),
    λ (x, member, gives). contains-image f s y ∙ (any-Decides total exact (λ x. eq_by_cmp Q y (f x)) s).1 (x, member, (tie_Decides totals exacts y (f x)).1 (sym gives)),
  )

-- ---- names and lists of the code

pub same_bytes : (x y : Bytes) → pointwise nat_eq x y ≡ same_name x y
same_bytes x y = one_answer (pointwise nat_eq x y) (same_name x y) (bytes_decides x y) (tie_Decides name_total name_exact x y)

module _ {K : Type 0} {R : K → K → Ordering} (total : IsTotalOrder R) (exact : IsAntisymmetric R) where
  pub from_list_push : (xs : List K) (x : K) → from_list {R = R} (xs ++ x ∷ []) ≡ insert (from_list xs) x
  from_list_push xs x = same_set total exact _ _ (λ y. contains-from_list total (xs ++ x ∷ []) y ∙ any-push (eq_by_cmp R y) xs x
      ∙ ap (λ b. eq_by_cmp R y x || b) (sym (contains-from_list total xs y)) ∙ sym (contains-insert total (from_list xs) x y))

-- ---- what a loop collects: the values of f at the items that pass a test, in a set

module _ {K J : Type 0} {R : K → K → Ordering} {Q : J → J → Ordering} (total : IsTotalOrder R) (exact : IsAntisymmetric R) (totals : IsTotalOrder Q) (exacts : IsAntisymmetric Q) (p : K → Bool) (f : K → J) where
  abbrev pub gathered : List K → FinSet Q
  gathered xs = from_list (map f (filter p xs))

  pub gathered_push : (xs : List K) (x : K) → gathered (xs ++ x ∷ []) ≡ cond (p x) (insert (gathered xs) (f x)) (gathered xs)
  gathered_push xs x = ap (λ ys. from_list (map f ys)) (filter-append p xs (x ∷ [])) ∙ last (p x)
    where
      last : (b : Bool) → from_list (map f (filter p xs ++ cond b (x ∷ []) [])) ≡ cond b (insert (gathered xs) (f x)) (gathered xs)
      last true = ap (from_list {R = Q}) (map-append f (filter p xs) (x ∷ [])) ∙ from_list_push totals exacts (map f (filter p xs)) (f x)
      last false = ap (λ ys. from_list (map f ys)) (append-nil (filter p xs))

  any-gathered : (y : J) (xs : List K) → list_any (eq_by_cmp Q y) (map f (filter p xs)) ≡ list_any (λ x. p x && eq_by_cmp Q y (f x)) xs
  any-gathered y [] = refl
  any-gathered y (x ∷ xs) = step (any-gathered y xs) (p x)
    where
      step : list_any (eq_by_cmp Q y) (map f (filter p xs)) ≡ list_any (λ x. p x && eq_by_cmp Q y (f x)) xs → (b : Bool) →
          list_any (eq_by_cmp Q y) (map f (cond b (x ∷ filter p xs) (filter p xs))) ≡ ((b && eq_by_cmp Q y (f x)) || list_any (λ x. p x && eq_by_cmp Q y (f x)) xs)
      step rest true = ap (λ b. eq_by_cmp Q y (f x) || b) rest
      step rest false = rest

  -- at the end it is the image of the members that pass
  pub gathered-image : (xs : List K) → gathered xs ≡ image {R = R} {Q = Q} f (retain (from_list xs) p)
  gathered-image xs = same_members totals exacts _ _ (λ y. (
    λ h. (let found = list_any-found total exact (λ x. p x && eq_by_cmp Q y (f x)) xs (sym (any-gathered y xs) ∙ sym (contains-from_list totals (map f (filter p xs)) y) ∙ h) in
        let passes = and_parts (p found.0) _ found.2 in
        (image-Decides total exact totals exacts f (retain (from_list xs) p) y).1
        (found.0, contains-retain total exact (from_list xs) p found.0 ∙ and_from _ _ (contains-from_list total xs found.0 ∙ found.1) passes.0, sym ((tie_Decides totals exacts y (f found.0)).0 passes.1))),
    λ h. (let found = (image-Decides total exact totals exacts f (retain (from_list xs) p) y).0 h in
        let parts = and_parts _ _ (sym (contains-retain total exact (from_list xs) p found.0) ∙ found.1) in
        contains-from_list totals (map f (filter p xs)) y ∙ any-gathered y xs
        ∙ list_any-here total exact (λ x. p x && eq_by_cmp Q y (f x)) xs found.0 (sym (contains-from_list total xs found.0) ∙ parts.0)
        (and_from _ _ parts.1 ((tie_Decides totals exacts y (f found.0)).1 (sym found.2)))),
  ))

-- ---- the parts of pairs

pub seconds-Decides : (s : Pairs) (x y : Bytes) → Decides (contains (seconds s x) y) (IsTrue (contains s (x, y)))
unfolding seconds
seconds-Decides s x y = (
  λ h. (let found = (image-Decides pair_total pair_exact name_total name_exact (λ (p : Pair). p.1) (retain s (λ p. same_name p.0 x)) y).0 h in
      let parts = and_parts _ _ (sym (contains-retain pair_total pair_exact s (λ (p : Pair). same_name p.0 x) found.0) ∙ found.1) in
      subst (λ (p : Pair). IsTrue (contains s p)) (λ i. ((tie_Decides name_total name_exact found.0.0 x).0 parts.1 i, found.2 i)) parts.0),
  λ h. (image-Decides pair_total pair_exact name_total name_exact (λ (p : Pair). p.1) (retain s (λ p. same_name p.0 x)) y).1
      ((x, y), contains-retain pair_total pair_exact s (λ (p : Pair). same_name p.0 x) (x, y) ∙ and_from _ _ h ((tie_Decides name_total name_exact x x).1 refl), refl),
)

-- if all members pass, all are kept
pub retain-all : {K : Type 0} {R : K → K → Ordering} (total : IsTotalOrder R) (exact : IsAntisymmetric R) (s : FinSet R) (p : K → Bool) → ((x : K) → IsTrue (contains s x) → IsTrue (p x)) → retain s p ≡ s
retain-all total exact s p each = same_members total exact _ _ (λ x. (
  λ h. (and_parts _ _ (sym (contains-retain total exact s p x) ∙ h)).0,
  λ h. contains-retain total exact s p x ∙ and_from _ _ h (each x h),
))
