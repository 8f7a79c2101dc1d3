-- What the entries of some roles give, and what entries give that were turned so that their role comes first.
use Rattle.std.proofs.Common.{◌≡◌, ℕ, ◌+◌, ◌<◌, ◌≤◌, inl, inr, Bool, ◌||◌, List, [], ◌∷◌, ◌++◌, length, map, take, get_or, refl, sym, ◌∙◌, ap}
use Rattle.std.specs.Prelude.{IsTrue}
use Rattle.std.specs.List.{list_any, filter}
use Rattle.std.specs.List.Sorted.{IsStrictlySortedBy}
use Rattle.std.specs.declared.cmp.Ordering.{Ordering}
use Rattle.std.specs.Ordering.{eq_by_cmp}
use Rattle.std.specs.Cmp.{IsTotalOrder, both_ways}
use Rattle.std.specs.FinMap.{IsAntisymmetric}
use Rattle.std.specs.FinSet.{FinSet}
use Rattle.std.proofs.lemmas.List.{take_more, map-append, append_assoc, append-nil}
use Rattle.std.proofs.lemmas.List.Folds.{list_any-append}
use Rattle.std.proofs.lemmas.Bool.{and_parts, and_from, or_cases, or_left, or_right, true≢false}
use Rattle.std.proofs.Math.Bool.{or_comm}
use Rattle.rbac_sets.specs.Sets.{Bytes, Pair, Pairs, Triple, Triples, name_cmp, pair_cmp, triple_cmp, same_name, contains, from_list, members, retain, firsts, image, seconds}
use Rattle.rbac_sets.specs.NameOrder.{name_total, name_exact, pair_total, pair_exact, triple_total, triple_exact}
use Rattle.rbac_sets.proofs.SetLaws.{contains-from_list, contains-insert, contains-retain, from_list_push, image-Decides, same_members, same_set}
use Rattle.rbac_sets.proofs.Members.{members-retain}
use Rattle.rbac_sets.proofs.InOrder.{members-sorted}
use Rattle.rbac_sets.proofs.Runs.{take_whole}
use Rattle.review_mgr.specs.Review.{permission_of}

-- ---- values that are added one by one

-- at first there are none more
pub added_none : {K J : Type 0} (f : K → J) (entries : List J) → entries ≡ entries ++ map f []
added_none f entries = sym (append-nil entries)

-- with the value at one more item
pub added_one : {K J : Type 0} (f : K → J) (before entries more : List J) (done : List K) (x : K) (y : J) → more ≡ entries ++ y ∷ [] → y ≡ f x → entries ≡ before ++ map f done
    → more ≡ before ++ map f (done ++ x ∷ [])
added_one f before entries more done x y pushed is old =
    pushed ∙ (λ i. old i ++ is i ∷ []) ∙ append_assoc before (map f done) (f x ∷ []) ∙ ap (λ ys. before ++ ys) (sym (map-append f done (x ∷ [])))

-- ---- the values of f at the entries of some roles, where key gives the role of an entry

-- whether the role of an entry is one of these
abbrev pub is_of : {K : Type 0} → (K → Bytes) → List Bytes → K → Bool
is_of key roles x = contains (from_list {R = name_cmp} roles) (key x)

-- the list has these values, in any order
pub record Lists {K J : Type 0} {R : K → K → Ordering} (Q : J → J → Ordering) (key : K → Bytes) (f : K → J) (s : FinSet R) (roles : List Bytes) (entries : List J) : Type 0 where
  pub all : from_list {R = Q} entries ≡ image {Q = Q} f (retain s (is_of key roles))

module _ {K J : Type 0} {R : K → K → Ordering} {Q : J → J → Ordering} (total : IsTotalOrder R) (exact : IsAntisymmetric R) (totals : IsTotalOrder Q) (exacts : IsAntisymmetric Q) where
  module _ (key : K → Bytes) (f : K → J) (s : FinSet R) where
    -- the values at entries that pass one of two tests
    either : (p q r : K → Bool) → ((x : K) → r x ≡ (p x || q x)) → (y : J)
        → contains (image {Q = Q} f (retain s r)) y ≡ (contains (image {Q = Q} f (retain s p)) y || contains (image {Q = Q} f (retain s q)) y)
    either p q r is y =
        let at = λ (test : K → Bool). image-Decides total exact totals exacts f (retain s test) y in
        let kept = contains-retain total exact s in
        let some : (test : K → Bool) → ((x : K) → IsTrue (test x) → IsTrue (r x)) → IsTrue (contains (image {Q = Q} f (retain s test)) y) → IsTrue (contains (image {Q = Q} f (retain s r)) y) = λ test more h. (
        let found = (at test).0 h in
        let parts = and_parts _ _ (sym (kept test found.0) ∙ found.1) in
        (at r).1 (found.0, kept r found.0 ∙ and_from _ _ parts.0 (more found.0 parts.1), found.2)) in
        both_ways _ _
        (λ h.
        let found = (at r).0 h in
        let parts = and_parts _ _ (sym (kept r found.0) ∙ found.1) in
        elim (or_cases (p found.0) (q found.0) (sym (is found.0) ∙ parts.1)) [
          | inl one ↦ or_left _ _ ((at p).1 (found.0, kept p found.0 ∙ and_from _ _ parts.0 one, found.2))
          | inr other ↦ or_right _ _ ((at q).1 (found.0, kept q found.0 ∙ and_from _ _ parts.0 other, found.2))
        ])
        (λ h. elim (or_cases _ _ h) [
          | inl one ↦ some p (λ x passes. is x ∙ or_left _ _ passes) one
          | inr other ↦ some q (λ x passes. is x ∙ or_right _ _ passes) other
        ])

    -- no roles have none
    pub lists_start : (roles : List Bytes) (entries : List J) → entries ≡ [] → Lists Q key f s (take 0 roles) entries
    lists_start roles entries none = record {
      all = ap (from_list {R = Q}) none ∙ same_members totals exacts _ _ (λ y. (
        λ h. absurd (true≢false (sym h ∙ contains-from_list totals [] y)),
        λ h.
            let found = (image-Decides total exact totals exacts f (retain s (is_of key [])) y).0 h in
            let parts = and_parts _ _ (sym (contains-retain total exact s (is_of key []) found.0) ∙ found.1) in
            absurd (true≢false (sym parts.1 ∙ contains-from_list name_total [] (key found.0))),
      ));
    }

    -- the values at the entries of a role
    run-image : (test : K → Bool) → from_list {R = Q} (map f (filter test (members s))) ≡ image {Q = Q} f (retain s test)
    unfolding image
    run-image test = ap (λ xs. from_list {R = Q} (map f xs)) (sym (members-retain total exact s test))

    -- with those of the next role
    pub lists_more : (roles : List Bytes) (i : ℕ) (role : Bytes) (entries more : List J) → i < length roles → role ≡ get_or roles i role → Lists Q key f s (take i roles) entries
        → more ≡ entries ++ map f (filter (λ x. same_name (key x) role) (members s)) → Lists Q key f s (take (i + 1) roles) more
    lists_more roles i role entries more within is old added =
        let one : K → Bool = λ x. same_name (key x) role in
        let named : take (i + 1) roles ≡ take i roles ++ role ∷ [] = take_more roles i role within ∙ ap (λ name. take i roles ++ name ∷ []) (sym is) in
        let also : (x : K) → is_of key (take (i + 1) roles) x ≡ (is_of key (take i roles) x || one x) = λ x. (
        ap (λ names. is_of key names x) named ∙ ap (λ t. contains t (key x)) (from_list_push name_total name_exact (take i roles) role)
        ∙ contains-insert name_total (from_list {R = name_cmp} (take i roles)) role (key x) ∙ or_comm (one x) _) in
        record {
          all = same_set totals exacts _ _ (λ y.
              contains-from_list totals more y ∙ ap (list_any (eq_by_cmp Q y)) added ∙ list_any-append (eq_by_cmp Q y) entries (map f (filter one (members s)))
              ∙ (λ j. sym (contains-from_list totals entries y) j || sym (contains-from_list totals (map f (filter one (members s))) y) j)
              ∙ (λ j. contains (old.all j) y || contains (run-image one j) y) ∙ sym (either (is_of key (take i roles)) one (is_of key (take (i + 1) roles)) also y));
        }

    -- at the end they are those of all the roles; sorted, with each once, they are the members of their set
    pub listed-members : (roles : List Bytes) (i : ℕ) (entries sorted : List J) → length roles ≤ i → Lists Q key f s (take i roles) entries → IsStrictlySortedBy Q sorted
        → from_list {R = Q} sorted ≡ from_list {R = Q} entries → sorted ≡ members (image {Q = Q} f (retain s (is_of key roles)))
    listed-members roles i entries sorted past all in_order same =
        sym (members-sorted totals sorted in_order) ∙ ap members (same ∙ all.all ∙ ap (λ names. image {Q = Q} f (retain s (is_of key names))) (take_whole i roles past))

  -- ---- entries that were turned

  -- the values of g at turned entries that pass a test are its values at the entries
  pub image-turned : {M : Type 0} {V : M → M → Ordering} (third : IsTotalOrder V) (exactly : IsAntisymmetric V) (turn : K → J) (g : J → M) (test : J → Bool) (s : FinSet R)
      → image {Q = V} g (retain (image {Q = Q} turn s) test) ≡ image {Q = V} (λ x. g (turn x)) (retain s (λ x. test (turn x)))
  image-turned third exactly turn g test s =
      let turned = image {Q = Q} turn s in
      let passes : K → Bool = λ x. test (turn x) in
      let by_turned = image-Decides totals exacts third exactly g (retain turned test) in
      let by_entry = image-Decides total exact third exactly (λ x. g (turn x)) (retain s passes) in
      same_members third exactly _ _ (λ y. (
        λ h.
            let found = (by_turned y).0 h in
            let parts = and_parts _ _ (sym (contains-retain totals exacts turned test found.0) ∙ found.1) in
            let from = (image-Decides total exact totals exacts turn s found.0).0 parts.0 in
            (by_entry y).1 (from.0, contains-retain total exact s passes from.0 ∙ and_from _ _ from.1 (ap test from.2 ∙ parts.1), ap g from.2 ∙ found.2),
        λ h.
            let found = (by_entry y).0 h in
            let parts = and_parts _ _ (sym (contains-retain total exact s passes found.0) ∙ found.1) in
            (by_turned y).1 (
              turn found.0,
              contains-retain totals exacts turned test (turn found.0)
                  ∙ and_from _ _ ((image-Decides total exact totals exacts turn s (turn found.0)).1 (found.0, parts.0, refl)) parts.1,
              found.2,
            ),
      ))

-- the users of the roles that pass a test
pub users-turned : (assignments : Pairs) (test : Bytes → Bool) → image {Q = name_cmp} (λ (pair : Pair). pair.1) (retain (image {Q = pair_cmp} (λ (pair : Pair). (pair.1, pair.0)) assignments) (λ pair. test pair.0))
    ≡ image {Q = name_cmp} (λ (pair : Pair). pair.0) (retain assignments (λ pair. test pair.1))
users-turned assignments test =
    image-turned pair_total pair_exact pair_total pair_exact name_total name_exact (λ (pair : Pair). (pair.1, pair.0)) (λ (pair : Pair). pair.1) (λ (pair : Pair). test pair.0) assignments

-- those of one role
pub seconds-turned : (assignments : Pairs) (role : Bytes) → seconds (image {Q = pair_cmp} (λ (pair : Pair). (pair.1, pair.0)) assignments) role ≡ firsts assignments role
unfolding seconds firsts
seconds-turned assignments role = users-turned assignments (λ name. same_name name role)

-- the permissions of the roles that pass a test
pub permissions-turned : (grants : Triples) (test : Bytes → Bool)
    → image {Q = pair_cmp} (λ (grant : Triple). (grant.1, grant.2)) (retain (image {Q = triple_cmp} (λ (grant : Triple). (grant.2, grant.0, grant.1)) grants) (λ grant. test grant.0))
    ≡ image {Q = pair_cmp} permission_of (retain grants (λ grant. test grant.2))
permissions-turned grants test =
    image-turned triple_total triple_exact triple_total triple_exact pair_total pair_exact (λ (grant : Triple). (grant.2, grant.0, grant.1)) (λ (grant : Triple). (grant.1, grant.2))
    (λ (grant : Triple). test grant.0) grants
