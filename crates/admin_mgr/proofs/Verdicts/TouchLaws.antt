-- Which set is named if a command concerns only one user or one session.
use Rattle.std.proofs.Common.{◌≡◌, ◌≢◌, ℕ, suc, ◌<◌, Bool, true, false, cond, not, ◌||◌, ◌&&◌, List, [], ◌∷◌, length, refl, sym, ◌∙◌, ap, subst, inl, inr}
use Rattle.std.specs.Prelude.{IsTrue, ◌⊎◌, Some, None, find, nat_lt, count_by}
use Rattle.std.specs.Bool.{Decides}
use Rattle.std.specs.Option.{option_map}
use Rattle.std.specs.List.{list_any, list_all, filter}
use Rattle.std.proofs.lemmas.List.Sums.{length-filter}
use Rattle.std.specs.Ordering.{eq_by_cmp}
use Rattle.std.proofs.lemmas.Bool.{and_parts, and_from, or_cases, or_left, or_right, ltb-true, lt-ltb, true≢false}
use Rattle.std.specs.Cmp.{both_ways}
use Rattle.rbac_sets.specs.Sets.{Bytes, Pair, Pairs, Names, Cardinality, cardinality_cmp, contains, members, insert, retain, seconds, count, any}
use Rattle.rbac_sets.specs.NameOrder.{name_total, name_exact, pair_total, pair_exact, cardinality_total, cardinality_exact}
use Rattle.rbac_sets.specs.declared.refusal.Refusal.TheVariants.{StaticSeparation}
use Rattle.rbac_sets.proofs.SetLaws.{tie_Decides, contains-members, contains-retain, contains-insert-Decides, image-Decides, any-Decides}
use Rattle.role_order.specs.Order.{geq}
use Rattle.role_order.proofs.Members.{same_or_other}
use Rattle.role_order.proofs.Runs.{count_seconds}
use Rattle.admin_mgr.specs.RbacState.{RbacState, Separation, members_of}
use Rattle.admin_mgr.specs.Authorization.{authorized_users, is_authorized, is_session_role}
use Rattle.admin_mgr.specs.Separation.{is_kept_statically, is_kept_dynamically, least_violated}
use Rattle.admin_mgr.specs.Refusals.{violates_static}
use Rattle.admin_mgr.specs.Assignment.{end_sessions, after_assignment}
use Rattle.admin_mgr.specs.Good.{IsGood}
use Rattle.admin_mgr.specs.private.HolderRoles.{run_of, is_reached, has_with, naming_first}
use Rattle.admin_mgr.proofs.Verdicts.AuthorizationLaws.{authorized_reached, authorized_members_count}
use Rattle.admin_mgr.proofs.Verdicts.SeparationLaws.{kept_statically, kept_dynamically}

-- two tests that agree on a list find the same
pub find_same : (p q : Cardinality → Bool) (xs : List Cardinality) → ((x : Cardinality) → IsTrue (list_any (eq_by_cmp cardinality_cmp x) xs) → p x ≡ q x) → find p xs ≡ find q xs
find_same p q [] same = refl
find_same p q (x ∷ xs) same =
    (λ i. cond (same x (or_left (eq_by_cmp cardinality_cmp x x) _ ((tie_Decides cardinality_total cardinality_exact x x).1 refl)) i) (Some x) (find p xs))
    ∙ ap (λ rest. cond (q x) (Some x) rest) (find_same p q xs (λ y there. same y (or_right (eq_by_cmp cardinality_cmp y x) _ there)))

-- the first violated set, by another test of the sets that are there
pub violated_by : (is_kept : Names → ℕ → Bool) (separation : Separation) (test : Cardinality → Bool)
    → ((x : Cardinality) → IsTrue (contains separation.cardinalities x) → not (is_kept (members_of separation x.0) x.1) ≡ test x)
    → least_violated is_kept separation ≡ option_map (λ (x : Cardinality). x.0) (find test (members separation.cardinalities))
unfolding least_violated
violated_by is_kept separation test same =
    ap (option_map (λ (x : Cardinality). x.0))
    (find_same (λ (x : Cardinality). not (is_kept (members_of separation x.0) x.1)) test (members separation.cardinalities)
    (λ x there. same x (contains-members separation.cardinalities x ∙ there)))

-- ---- one more role: if it dominates no member of a set, the count is as before

kept_by_length : {X : Type 0} (p t : X → Bool) (xs : List X) → list_any t xs ≡ false → length (filter (λ x. p x || t x) xs) ≡ length (filter p xs)
kept_by_length p t [] none = refl
kept_by_length {X} p t (x ∷ xs) none = step (kept_by_length p t xs) (p x) (t x) none
  where
    step : (list_any t xs ≡ false → length (filter (λ x. p x || t x) xs) ≡ length (filter p xs)) → (a b : Bool) → (b || list_any t xs) ≡ false
        → length (cond (a || b) (x ∷ filter (λ x. p x || t x) xs) (filter (λ x. p x || t x) xs)) ≡ length (cond a (x ∷ filter p xs) (filter p xs))
    step rest a true none = absurd (true≢false none)
    step rest true false none = ap suc (rest none)
    step rest false false none = rest none

pub untouched : {X : Type 0} (p t : X → Bool) (xs : List X) → list_any t xs ≡ false → count_by (λ x. p x || t x) xs ≡ count_by p xs
untouched p t xs none = sym (length-filter (λ x. p x || t x) xs) ∙ kept_by_length p t xs none ∙ length-filter p xs

-- the count of either test can only reach n if the second holds of some entry
pub one_more : {X : Type 0} (p t : X → Bool) (xs : List X) (n : ℕ) → count_by p xs < n →
    (list_any t xs && not (nat_lt (count_by (λ x. p x || t x) xs) n)) ≡ not (nat_lt (count_by (λ x. p x || t x) xs) n)
one_more {X} p t xs n fewer = by (list_any t xs) refl
  where
    by : (b : Bool) → list_any t xs ≡ b → (b && not (nat_lt (count_by (λ x. p x || t x) xs) n)) ≡ not (nat_lt (count_by (λ x. p x || t x) xs) n)
    by true is = refl
    by false is = sym (ap (λ k. not (nat_lt k n)) (untouched p t xs is) ∙ ap not (lt-ltb (count_by p xs) n fewer))

pub any_insert : (p : Bytes → Bool) (s : Names) (x : Bytes) → any p (insert s x) ≡ (any p s || p x)
any_insert p s x =
    let more = any-Decides name_total name_exact p (insert s x) in
    let before = any-Decides name_total name_exact p s in
    both_ways (any p (insert s x)) (any p s || p x)
    (λ h. (let one = more.0 h in elim ((contains-insert-Decides name_total name_exact s x one.0).0 one.1) [
      | inl same ↦ or_right (any p s) (p x) (ap p (sym same) ∙ one.2)
      | inr old ↦ or_left (any p s) (p x) (before.1 (one.0, old, one.2))
    ]))
    (λ h. elim (or_cases (any p s) (p x) h) [
      | inl old ↦ (let one = before.0 old in more.1 (one.0, (contains-insert-Decides name_total name_exact s x one.0).1 (inr one.1), one.2))
      | inr new ↦ more.1 (x, (contains-insert-Decides name_total name_exact s x x).1 (inl refl), new)
    ])

-- ---- a user is assigned one more role

unfoldable pub with_assignment : RbacState → Pair → RbacState
with_assignment S pair = record S { assignments = insert S.assignments pair }

-- a user is authorized who was before, or to whom the new role is assigned, for a role that the new one dominates
pub authorized-assigned : (S : RbacState) (user role other q : Bytes) →
    Decides (is_authorized (with_assignment S (user, role)) other q) (IsTrue (is_authorized S other q) ⊎ ((other ≡ user) × IsTrue (geq S.edges role q)))
unfolding authorized_users with_assignment
authorized-assigned S user role other q =
    let test : Pair → Bool = λ a. geq S.edges a.1 q in
    let new = insert S.assignments (user, role) in (
      λ h. (let found = (image-Decides pair_total pair_exact name_total name_exact (λ (a : Pair). a.0) (retain new test) other).0 h in
          let parts = and_parts _ _ (sym (contains-retain pair_total pair_exact new test found.0) ∙ found.1) in
          elim ((contains-insert-Decides pair_total pair_exact S.assignments (user, role) found.0).0 parts.0) [
            | inl is ↦ inr (sym found.2 ∙ ap (λ (a : Pair). a.0) is, ap test (sym is) ∙ parts.1)
            | inr was ↦ inl ((image-Decides pair_total pair_exact name_total name_exact (λ (a : Pair). a.0) (retain S.assignments test) other).1
                (found.0, contains-retain pair_total pair_exact S.assignments test found.0 ∙ and_from _ _ was parts.1, found.2))
          ]),
      λ h. (image-Decides pair_total pair_exact name_total name_exact (λ (a : Pair). a.0) (retain new test) other).1 (elim h [
        | inl was ↦ (let found = (image-Decides pair_total pair_exact name_total name_exact (λ (a : Pair). a.0) (retain S.assignments test) other).0 was in
            let parts = and_parts _ _ (sym (contains-retain pair_total pair_exact S.assignments test found.0) ∙ found.1) in
            (found.0, contains-retain pair_total pair_exact new test found.0 ∙ and_from _ _ ((contains-insert-Decides pair_total pair_exact S.assignments (user, role) found.0).1 (inr parts.0)) parts.1, found.2))
        | inr new_one ↦ (
          (user, role),
          contains-retain pair_total pair_exact new test (user, role)
              ∙ and_from _ _ ((contains-insert-Decides pair_total pair_exact S.assignments (user, role) (user, role)).1 (inl refl)) new_one.1,
          sym new_one.0,
        )
      ]),
    )

others_as_before : (S : RbacState) (user role other : Bytes) → (other ≢ user) → (q : Bytes) → is_authorized (with_assignment S (user, role)) other q ≡ is_authorized S other q
others_as_before S user role other apart q = both_ways _ _
    (λ h. elim ((authorized-assigned S user role other q).0 h) [ inl was ↦ was | inr new ↦ absurd (apart new.0) ])
    (λ h. (authorized-assigned S user role other q).1 (inl h))

user_reached : (S : RbacState) (user role q : Bytes) → is_authorized (with_assignment S (user, role)) user q ≡ (is_reached S.edges (run_of S.assignments user) q || geq S.edges role q)
user_reached S user role q =
    both_ways (is_authorized (with_assignment S (user, role)) user q) (is_authorized S user q || geq S.edges role q)
    (λ h. elim ((authorized-assigned S user role user q).0 h) [ inl was ↦ or_left (is_authorized S user q) _ was | inr new ↦ or_right (is_authorized S user q) _ new.1 ])
    (λ h. (authorized-assigned S user role user q).1 (elim (or_cases (is_authorized S user q) (geq S.edges role q) h) [ inl was ↦ inl was | inr new ↦ inr (refl, new) ]))
    ∙ ap (λ b. b || geq S.edges role q) (authorized_reached S user q)

module _ (S : RbacState) (good : IsGood S) (user role : Bytes) (is_user : IsTrue (contains S.users user)) where
  -- only this user has to be counted again
  kept_by_user : (x : Cardinality) → IsTrue (contains S.ssd.cardinalities x) →
      is_kept_statically (with_assignment S (user, role)) (members_of S.ssd x.0) x.1 ≡ nat_lt (count (is_authorized (with_assignment S (user, role)) user) (members_of S.ssd x.0)) x.1
  unfolding with_assignment
  kept_by_user x there = both_ways _ _
      (λ h. lt-ltb _ _ ((kept_statically (with_assignment S (user, role)) (members_of S.ssd x.0) x.1).0 h user is_user))
      (λ h. (kept_statically (with_assignment S (user, role)) (members_of S.ssd x.0) x.1).1 (λ other _. elim (same_or_other other user) [
        | inl same ↦ subst (λ u. count (is_authorized (with_assignment S (user, role)) u) (members_of S.ssd x.0) < x.1) (sym same) (ltb-true _ _ h)
        | inr apart ↦ subst (λ k. k < x.1) (λ i. count (λ q. sym (others_as_before S user role other apart q) i) (members_of S.ssd x.0)) (good.static_separation x.0 other x.1 there)
      ]))

  pub assignment_violates : violates_static (after_assignment S (user, role)) ≡ naming_first StaticSeparation (has_with S.edges (run_of S.assignments user) role) S.ssd
  unfolding after_assignment end_sessions is_kept_statically authorized_users with_assignment
  assignment_violates = ap (option_map StaticSeparation) (violated_by (is_kept_statically (with_assignment S (user, role))) S.ssd _ (λ x there.
      let before : count_by (λ (m : Pair). is_reached S.edges (run_of S.assignments user) m.1) (run_of S.ssd.members x.0) < x.1 =
      subst (λ k. k < x.1) (authorized_members_count S user S.ssd.members x.0) (good.static_separation x.0 user x.1 there) in
      ap not (kept_by_user x there)
      ∙ ap (λ k. not (nat_lt k x.1)) (count_seconds (is_authorized (with_assignment S (user, role)) user) S.ssd.members x.0
      ∙ (λ i. count_by (λ (m : Pair). user_reached S user role m.1 i) (run_of S.ssd.members x.0)))
      ∙ sym (one_more (λ (m : Pair). is_reached S.edges (run_of S.assignments user) m.1) (λ (m : Pair). geq S.edges role m.1) (run_of S.ssd.members x.0) x.1 before)))

-- ---- one session changes

unfoldable pub with_sessions : RbacState → Pairs → Pairs → RbacState
with_sessions S sessions active = record S { sessions = sessions; active = active }

-- each session but this one is as before
abbrev pub OthersStay : RbacState → Pairs → Pairs → Bytes → Type 0
OthersStay S sessions active session = (other user : Bytes) → IsTrue (contains sessions (other, user)) → (other ≡ session) ⊎ (IsTrue (contains S.sessions (other, user)) × (seconds active other ≡ seconds S.active other))

module _ (S : RbacState) (good : IsGood S) (sessions active : Pairs) (session user : Bytes) (there : IsTrue (contains sessions (session, user))) (others : OthersStay S sessions active session) where
  -- only this session has to be counted again
  kept_by_session : (x : Cardinality) → IsTrue (contains S.dsd.cardinalities x) →
      is_kept_dynamically (with_sessions S sessions active) (members_of S.dsd x.0) x.1 ≡ nat_lt (count (is_session_role (with_sessions S sessions active) session) (members_of S.dsd x.0)) x.1
  unfolding with_sessions
  kept_by_session x has = both_ways _ _
      (λ h. lt-ltb _ _ ((kept_dynamically (with_sessions S sessions active) (members_of S.dsd x.0) x.1).0 h session user there))
      (λ h. (kept_dynamically (with_sessions S sessions active) (members_of S.dsd x.0) x.1).1 (λ other owner is. elim (others other owner is) [
        | inl same ↦ subst (λ s. count (is_session_role (with_sessions S sessions active) s) (members_of S.dsd x.0) < x.1) (sym same) (ltb-true _ _ h)
        | inr old ↦ subst (λ k. k < x.1) (λ i. count (λ q. any (λ a. geq S.edges a q) (sym old.1 i)) (members_of S.dsd x.0)) (good.dynamic_separation x.0 other owner x.1 has old.0)
      ]))

  -- and its roles are those that pass the test
  pub session_violates : (held : Bytes → Bool) → ((q : Bytes) → is_session_role (with_sessions S sessions active) session q ≡ held q) → (x : Cardinality) → IsTrue (contains S.dsd.cardinalities x) →
      not (is_kept_dynamically (with_sessions S sessions active) (members_of S.dsd x.0) x.1) ≡ not (nat_lt (count_by (λ (m : Pair). held m.1) (run_of S.dsd.members x.0)) x.1)
  session_violates held same x has =
      ap not (kept_by_session x has)
      ∙ ap (λ k. not (nat_lt k x.1)) (count_seconds (is_session_role (with_sessions S sessions active) session) S.dsd.members x.0
      ∙ (λ i. count_by (λ (m : Pair). same m.1 i) (run_of S.dsd.members x.0)))

-- if no entry is touched, none is found violated
pub no_violation : {K : Type 0} (touched kept : K → Bool) (xs : List K) → list_any touched xs ≡ false → find (λ x. touched x && not (kept x)) xs ≡ None
no_violation touched kept [] none = refl
no_violation touched kept (x ∷ xs) none = by (touched x) refl (no_violation touched kept xs)
  where
    by : (b : Bool) → touched x ≡ b → (list_any touched xs ≡ false → find (λ y. touched y && not (kept y)) xs ≡ None) → find (λ y. touched y && not (kept y)) (x ∷ xs) ≡ None
    by true is rest = absurd (true≢false (ap (λ t. t || list_any touched xs) (sym is) ∙ none))
    by false is rest = rw is (rest (ap (λ t. t || list_any touched xs) (sym is) ∙ none))

-- an entry fails the first test or passes the second, for all, exactly if all that pass the first pass the second
pub asked_passed : {K : Type 0} (passes keeps : K → Bool) (xs : List K) → list_all (λ x. not (passes x) || keeps x) xs ≡ list_all keeps (filter passes xs)
asked_passed passes keeps [] = refl
asked_passed passes keeps (x ∷ xs) = by (passes x) refl (asked_passed passes keeps xs)
  where
    by : (b : Bool) → passes x ≡ b → list_all (λ y. not (passes y) || keeps y) xs ≡ list_all keeps (filter passes xs)
        → list_all (λ y. not (passes y) || keeps y) (x ∷ xs) ≡ list_all keeps (filter passes (x ∷ xs))
    by true is rest = rw is (ap (λ all. keeps x && all) rest)
    by false is rest = rw is rest
