-- Which set is named if a command changes only one set.
use Rattle.std.proofs.Common.{◌≡◌, ◌≢◌, ℕ, Bool, true, false, cond, not, ◌||◌, List, [], ◌∷◌, refl, sym, ◌∙◌, ap, subst, inl, inr}
use Rattle.std.specs.Prelude.{IsTrue, ◌⊎◌, ◌↔◌, Some, None, find}
use Rattle.std.specs.Bool.{Decides}
use Rattle.std.specs.Option.{option_map}
use Rattle.std.specs.List.{list_any}
use Rattle.std.specs.Ordering.{eq_by_cmp}
use Rattle.std.proofs.lemmas.Bool.{and_parts, or_cases, or_left, or_right, not-true, true≢false}
use Rattle.rbac_sets.specs.Sets.{Bytes, Pair, Pairs, Names, Cardinality, cardinality_cmp, same_name, contains, members, insert, union, seconds, any}
use Rattle.rbac_sets.specs.NameOrder.{name_total, name_exact, pair_total, pair_exact, cardinality_total, cardinality_exact}
use Rattle.rbac_sets.proofs.SetLaws.{tie_Decides, contains-members, contains-retain, contains-union, contains-insert-Decides, image-Decides, any-Decides, seconds-Decides, same_members}
use Rattle.admin_mgr.specs.RbacState.{Separation, members_of, has_set}
use Rattle.admin_mgr.specs.Separation.{least_violated}
use Rattle.admin_mgr.specs.After.{paired, without_cardinality, with_set, with_member, with_cardinality}
use Rattle.admin_mgr.specs.Good.{IsSeparation}
use Rattle.admin_mgr.proofs.Verdicts.SeparationLaws.{is_violated, least_violated-None}

-- ---- the first entry that is found, if only one name is possible

named : (p : Cardinality → Bool) (xs : List Cardinality) (name : Bytes)
    → ((x : Cardinality) → IsTrue (list_any (eq_by_cmp cardinality_cmp x) xs) → IsTrue (p x) → x.0 ≡ name)
    → option_map (λ (x : Cardinality). x.0) (find p xs) ≡ cond (list_any p xs) (Some name) None
named p [] name only = refl
named p (x ∷ xs) name only =
    step (named p xs name (λ y there. only y (or_right (eq_by_cmp cardinality_cmp y x) _ there)))
    (only x (or_left (eq_by_cmp cardinality_cmp x x) _ ((tie_Decides cardinality_total cardinality_exact x x).1 refl))) (p x) refl
  where
    step : option_map (λ (x : Cardinality). x.0) (find p xs) ≡ cond (list_any p xs) (Some name) None → (IsTrue (p x) → x.0 ≡ name) → (b : Bool) → p x ≡ b
        → option_map (λ (x : Cardinality). x.0) (cond b (Some x) (find p xs)) ≡ cond (b || list_any p xs) (Some name) None
    step rest here true e = ap Some (here e)
    step rest here false e = rest

-- the set is named if it is violated, and no set otherwise, provided that no other set is violated
pub only_set : (is_kept : Names → ℕ → Bool) (separation : Separation) (name : Bytes) (n : ℕ) → IsTrue (contains separation.cardinalities (name, n))
    → ((x : Cardinality) → IsTrue (contains separation.cardinalities x) → (x ≡ (name, n)) ⊎ IsTrue (is_kept (members_of separation x.0) x.1))
    → least_violated is_kept separation ≡ cond (is_kept (members_of separation name) n) None (Some name)
unfolding least_violated any
only_set is_kept separation name n there others = by (is_kept (members_of separation name) n) refl
  where
    violated : Cardinality → Bool
    violated = is_violated is_kept separation

    by : (b : Bool) → is_kept (members_of separation name) n ≡ b → least_violated is_kept separation ≡ cond b None (Some name)
    by true kept = (least_violated-None is_kept separation).1 (λ x m has. elim (others (x, m) has) [
      | inl same ↦ (λ i. is_kept (members_of separation (same i).0) (same i).1) ∙ kept
      | inr other ↦ other
    ])
    by false lost =
        named violated (members separation.cardinalities) name (λ x has lost. elim (others x (contains-members separation.cardinalities x ∙ has)) [
          | inl same ↦ ap (λ (y : Cardinality). y.0) same
          | inr other ↦ absurd (true≢false (sym other ∙ not-true _ lost))
        ])
        ∙ ap (λ b. cond b (Some name) None) ((any-Decides cardinality_total cardinality_exact violated separation.cardinalities).1 ((name, n), there, ap not lost))

-- ---- the members of a set, and those of others

same_test : (s t : Pairs) (x : Bytes) → ((y : Bytes) → IsTrue (contains s (x, y)) ↔ IsTrue (contains t (x, y))) → seconds s x ≡ seconds t x
same_test s t x same = same_members name_total name_exact (seconds s x) (seconds t x) (λ y. (
  λ h. (seconds-Decides t x y).1 ((same y).0 ((seconds-Decides s x y).0 h)),
  λ h. (seconds-Decides s x y).1 ((same y).1 ((seconds-Decides t x y).0 h)),
))

pub paired-Decides : (name : Bytes) (roles : Names) (x y : Bytes) → Decides (contains (paired name roles) (x, y)) ((x ≡ name) × IsTrue (contains roles y))
paired-Decides name roles x y =
    let found = image-Decides name_total name_exact pair_total pair_exact (λ (other : Bytes). (name, other)) roles (x, y) in (
      λ h. (let one = found.0 h in (sym (ap (λ (p : Pair). p.0) one.2), subst (λ r. IsTrue (contains roles r)) (ap (λ (p : Pair). p.1) one.2) one.1)),
      λ h. found.1 (y, h.1, λ i. (sym h.0 i, y)),
    )

pub with_paired-others : (members : Pairs) (name : Bytes) (roles : Names) (x : Bytes) → (x ≢ name) → seconds (union members (paired name roles)) x ≡ seconds members x
with_paired-others members name roles x other = same_test (union members (paired name roles)) members x (λ y. (
  λ h. elim (or_cases _ _ (sym (contains-union pair_total pair_exact members (paired name roles) (x, y)) ∙ h)) [
    | inl old ↦ old
    | inr new ↦ absurd (other ((paired-Decides name roles x y).0 new).0)
  ],
  λ h. contains-union pair_total pair_exact members (paired name roles) (x, y) ∙ or_left _ _ h,
))

pub with_paired-own : (members : Pairs) (name : Bytes) (roles : Names) → ((y : Bytes) → IsTrue (contains members (name, y)) → ⊥) → seconds (union members (paired name roles)) name ≡ roles
with_paired-own members name roles none = same_members name_total name_exact (seconds (union members (paired name roles)) name) roles (λ y. (
  λ h. elim (or_cases _ _ (sym (contains-union pair_total pair_exact members (paired name roles) (name, y)) ∙ (seconds-Decides (union members (paired name roles)) name y).0 h)) [
    | inl old ↦ absurd (none y old)
    | inr new ↦ ((paired-Decides name roles name y).0 new).1
  ],
  λ h. (seconds-Decides (union members (paired name roles)) name y).1
      (contains-union pair_total pair_exact members (paired name roles) (name, y) ∙ or_right _ _ ((paired-Decides name roles name y).1 (refl, h))),
))

pub with_one-others : (members : Pairs) (name role : Bytes) (x : Bytes) → (x ≢ name) → seconds (insert members (name, role)) x ≡ seconds members x
with_one-others members name role x other = same_test (insert members (name, role)) members x (λ y.
    let put = contains-insert-Decides pair_total pair_exact members (name, role) (x, y) in (
      λ h. elim (put.0 h) [ inl same ↦ absurd (other (ap (λ (p : Pair). p.0) same)) | inr old ↦ old ],
      λ h. put.1 (inr h),
    ))

pub with_one-own : (members : Pairs) (name role : Bytes) → seconds (insert members (name, role)) name ≡ insert (seconds members name) role
with_one-own members name role = same_members name_total name_exact (seconds (insert members (name, role)) name) (insert (seconds members name) role) (λ y.
    let put = contains-insert-Decides pair_total pair_exact members (name, role) (name, y) in
    let put_role = contains-insert-Decides name_total name_exact (seconds members name) role y in (
      λ h. put_role.1 (elim (put.0 ((seconds-Decides (insert members (name, role)) name y).0 h)) [
        | inl same ↦ inl (ap (λ (p : Pair). p.1) same)
        | inr old ↦ inr ((seconds-Decides members name y).1 old)
      ]),
      λ h. (seconds-Decides (insert members (name, role)) name y).1 (put.1 (elim (put_role.0 h) [
        | inl same ↦ inl (λ i. (name, same i))
        | inr old ↦ inr ((seconds-Decides members name y).0 old)
      ])),
    ))

-- ---- the three commands

-- no set is violated
abbrev pub AreKept : (Names → ℕ → Bool) → Separation → Type 0
AreKept is_kept separation = (x : Cardinality) → IsTrue (contains separation.cardinalities x) → IsTrue (is_kept (members_of separation x.0) x.1)

other_name : (separation : Separation) (name : Bytes) → has_set separation name ≡ false → (x : Cardinality) → IsTrue (contains separation.cardinalities x) → x.0 ≢ name
other_name separation name absent x there same = true≢false
    (sym ((any-Decides cardinality_total cardinality_exact (λ (entry : Cardinality). same_name entry.0 name) separation.cardinalities).1
    (x, there, (tie_Decides name_total name_exact x.0 name).1 same))
    ∙ absent)

pub created : (is_kept : Names → ℕ → Bool) (all_roles : Names) (separation : Separation) → IsSeparation all_roles separation → AreKept is_kept separation
    → (name : Bytes) (roles : Names) (n : ℕ) → has_set separation name ≡ false
    → least_violated is_kept (with_set separation name roles n) ≡ cond (is_kept roles n) None (Some name)
created is_kept all_roles separation formed kept name roles n absent =
    only_set is_kept (with_set separation name roles n) name n ((contains-insert-Decides cardinality_total cardinality_exact separation.cardinalities (name, n) (name, n)).1 (inl refl))
    (λ x has. elim ((contains-insert-Decides cardinality_total cardinality_exact separation.cardinalities (name, n) x).0 has) [
      | inl same ↦ inl same
      | inr old ↦ inr ((λ i. is_kept (with_paired-others separation.members name roles x.0 (other_name separation name absent x old) i) x.1) ∙ kept x old)
    ])
    ∙ ap (λ own. cond (is_kept own n) None (Some name)) (with_paired-own separation.members name roles
    (λ y old. true≢false (sym (formed.members name y old).0 ∙ absent)))

pub member_added : (is_kept : Names → ℕ → Bool) (all_roles : Names) (separation : Separation) → IsSeparation all_roles separation → AreKept is_kept separation
    → (name role : Bytes) (n : ℕ) → IsTrue (contains separation.cardinalities (name, n))
    → least_violated is_kept (with_member separation name role) ≡ cond (is_kept (insert (members_of separation name) role) n) None (Some name)
member_added is_kept all_roles separation formed kept name role n there =
    only_set is_kept (with_member separation name role) name n there (λ x has. by x has (same_name x.0 name) refl)
    ∙ ap (λ own. cond (is_kept own n) None (Some name)) (with_one-own separation.members name role)
  where
    by : (x : Cardinality) → IsTrue (contains separation.cardinalities x) → (b : Bool) → same_name x.0 name ≡ b
        → (x ≡ (name, n)) ⊎ IsTrue (is_kept (members_of (with_member separation name role) x.0) x.1)
    by x has true tie =
        let same = (tie_Decides name_total name_exact x.0 name).0 tie in
        let number = formed.one_cardinality name x.1 n (subst (λ y. IsTrue (contains separation.cardinalities (y, x.1))) same has) there in
        inl (λ i. (same i, number i))
    by x has false apart =
        inr ((λ i. is_kept (with_one-others separation.members name role x.0 (λ same. true≢false (sym ((tie_Decides name_total name_exact x.0 name).1 same) ∙ apart)) i) x.1) ∙ kept x has)

pub renumbered : (is_kept : Names → ℕ → Bool) (separation : Separation) → AreKept is_kept separation
    → (name : Bytes) (n : ℕ) → least_violated is_kept (with_cardinality separation name n) ≡ cond (is_kept (members_of separation name) n) None (Some name)
renumbered is_kept separation kept name n =
    let old = without_cardinality name separation.cardinalities in
    only_set is_kept (with_cardinality separation name n) name n ((contains-insert-Decides cardinality_total cardinality_exact old (name, n) (name, n)).1 (inl refl))
    (λ x has. elim ((contains-insert-Decides cardinality_total cardinality_exact old (name, n) x).0 has) [
      | inl same ↦ inl same
      | inr left ↦ inr (kept x (and_parts _ _ (sym (contains-retain cardinality_total cardinality_exact separation.cardinalities (λ (entry : Cardinality). not (same_name entry.0 name)) x) ∙ left)).0)
    ])
