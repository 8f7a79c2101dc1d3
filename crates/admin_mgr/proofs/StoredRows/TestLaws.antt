-- What the tests of gathered sets decide.
use Rattle.std.proofs.Common.{◌≡◌, ◌+◌, ◌≤◌, Bool, true, false, not, ◌&&◌, refl, sym, ◌∙◌, ap, subst, inl, inr, arith}
use Rattle.std.specs.Prelude.{IsTrue, ◌↔◌, ◌⊎◌, nat_le, Result, Ok, Err}
use Rattle.std.specs.List.{list_all}
use Rattle.std.proofs.lemmas.Bool.{and_parts, and_from, not-true, leb-true, le-leb, cases_lt, true≢false}
use Rattle.rbac_sets.specs.Sets.{Bytes, Pair, Pairs, Triple, Names, Cardinality, contains, seconds, any, all, len, insert, empty, same_name, name_cmp}
use Rattle.rbac_sets.specs.NameOrder.{name_total, name_exact, pair_total, pair_exact, triple_total, triple_exact, cardinality_total, cardinality_exact}
use Rattle.rbac_sets.proofs.SetLaws.{contains-empty, contains-insert-Decides, all-Decides, seconds-Decides}
use Rattle.rbac_sets.proofs.Members.{len-subset, a_member, len-insert-le}
use Rattle.role_order.specs.Order.{IsAcyclic, IsClosure}
use Rattle.role_order.proofs.Ranking.{len-new}
use Rattle.role_order.proofs.Runs.{all_seconds}
use Rattle.rbac_sets.specs.declared.refusal.Refusal.{Refusal}
use Rattle.rbac_sets.specs.declared.refusal.Refusal.TheVariants.{Memory, Damaged}
use Rattle.admin_mgr.specs.RbacState.{RbacState, Separation, members_of, active_roles, has_session}
use Rattle.admin_mgr.specs.Authorization.{is_authorized}
use Rattle.admin_mgr.specs.private.HolderRoles.{run_of, is_reached}
use Rattle.admin_mgr.specs.Separation.{is_kept_statically, is_kept_dynamically}
use Rattle.admin_mgr.specs.Good.{IsWellFormed, IsStaticallySeparated, IsDynamicallySeparated}
use Rattle.admin_mgr.specs.StoredSets.{StoredSets}
use Rattle.admin_mgr.specs.RowChecks.{IsComplete, MembersExist, HaveOneUser, HasCardinalities, HaveAuthorizedUsers, HaveUnlockedUsers}
use Rattle.admin_mgr.specs.private.CheckTests.{are_firsts_in, are_seconds_in, have_sets, have_sessions, have_permissions, have_roles, is_complete, have_one_user, has_cardinalities, have_authorized_users, are_kept_statically, are_kept_dynamically, have_unlocked_users}
use Rattle.admin_mgr.proofs.Verdicts.AuthorizationLaws.{authorized_reached}
use Rattle.admin_mgr.proofs.Verdicts.SeparationLaws.{static_test, dynamic_test, least_violated-None}
use Rattle.std.specs.declared.cmp.Ordering.{Ordering}
use Rattle.std.specs.FinMap as finmap

-- the user is authorized for the activated roles exactly if each of them is reachable from the user's assignments
pub authorized_active : (S : RbacState) (session user : Bytes) →
    all (is_authorized S user) (active_roles S session) ≡ list_all (λ (pair : Pair). is_reached S.edges (run_of S.assignments user) pair.1) (run_of S.active session)
authorized_active S session user =
    all_seconds (is_authorized S user) S.active session
    ∙ (λ i. list_all (λ (pair : Pair). authorized_reached S user pair.1 i) (run_of S.active session))

-- ---- what the rows refer to is there

-- each pair begins with one of the names
firsts : (names : Names) (pairs : Pairs) → IsTrue (are_firsts_in names pairs) ↔ ((a b : Bytes) → IsTrue (contains pairs (a, b)) → IsTrue (contains names a))
firsts names pairs =
    let each = all-Decides pair_total pair_exact (λ (pair : Pair). contains names pair.0) pairs in
    (λ h a b there. each.0 h (a, b) there, λ h. each.1 (λ pair there. h pair.0 pair.1 there))

-- each pair ends with one of the names
lasts : (names : Names) (pairs : Pairs) → IsTrue (are_seconds_in names pairs) ↔ ((a b : Bytes) → IsTrue (contains pairs (a, b)) → IsTrue (contains names b))
lasts names pairs =
    let each = all-Decides pair_total pair_exact (λ (pair : Pair). contains names pair.1) pairs in
    (λ h a b there. each.0 h (a, b) there, λ h. each.1 (λ pair there. h pair.0 pair.1 there))

-- members are roles of sets that are there
pub members_there : (roles : Names) (separation : Separation) → IsTrue (have_sets separation && are_seconds_in roles separation.members) ↔ MembersExist roles separation
members_there roles separation =
    let sets = all-Decides pair_total pair_exact (λ (pair : Pair). any (λ (entry : Cardinality). same_name entry.0 pair.0) separation.cardinalities) separation.members in
    let ends = lasts roles separation.members in (
      λ h name role there. (let parts = and_parts (have_sets separation) (are_seconds_in roles separation.members) h in (sets.0 parts.0 (name, role) there, ends.0 parts.1 name role there)),
      λ h. and_from _ _ (sets.1 (λ pair there. (h pair.0 pair.1 there).0)) (ends.1 (λ a b there. (h a b there).1)),
    )

-- the first of two tests that both hold
first_holds : (a b : Bool) → IsTrue (a && b) → IsTrue a
first_holds a b h = (and_parts a b h).0

-- the second of them
second_holds : (a b : Bool) → IsTrue (a && b) → IsTrue b
second_holds a b h = (and_parts a b h).1

-- the test whether what the rows refer to is there
pub complete : (g : StoredSets) → IsTrue (is_complete g) ↔ IsComplete g
complete g =
    let S = g.facts in
    let permissions = firsts S.objects S.permissions in
    let granted = all-Decides triple_total triple_exact (λ (grant : Triple). contains S.permissions (grant.0, grant.1)) S.grants in
    let granted_to = all-Decides triple_total triple_exact (λ (grant : Triple). contains S.roles grant.2) S.grants in
    let assigned = firsts S.users S.assignments in
    let assigned_to = lasts S.roles S.assignments in
    let locked = all-Decides name_total name_exact (contains S.users) S.locked in
    let ascendants = firsts S.roles S.edges in
    let descendants = lasts S.roles S.edges in
    let above = firsts S.roles g.pairs in
    let below = lasts S.roles g.pairs in
    let ssd = members_there S.roles S.ssd in
    let dsd = members_there S.roles S.dsd in
    let owners = lasts S.users S.sessions in
    let opened = all-Decides pair_total pair_exact (λ (pair : Pair). any (λ (session : Pair). same_name session.0 pair.0) S.sessions) S.active in
    let activated = lasts S.roles S.active in (
      λ h.
          let sets : IsTrue (have_sets S.dsd) → IsTrue (are_seconds_in S.roles S.dsd.members) → MembersExist S.roles S.dsd = λ sets roles. dsd.0 (and_from _ _ sets roles) in
          let allowed : (ob op role : Bytes) → IsTrue (have_permissions S) → IsTrue (contains S.grants (ob, op, role)) → IsTrue (contains S.permissions (ob, op)) = λ ob op role each. granted.0 each (ob, op, role) in
          let grantees : (ob op role : Bytes) → IsTrue (have_roles S) → IsTrue (contains S.grants (ob, op, role)) → IsTrue (contains S.roles role) = λ ob op role each. granted_to.0 each (ob, op, role) in
          let in_sessions : (session role : Bytes) → IsTrue (have_sessions S) → IsTrue (contains S.active (session, role)) → IsTrue (has_session S session) = λ session role each. opened.0 each (session, role) in
          search (first_holds, second_holds, permissions.0, allowed, grantees, assigned.0, assigned_to.0, locked.0, ascendants.0, descendants.0, above.0, below.0, ssd.0, sets, owners.0, in_sessions, activated.0) depth 9,
      λ all.
          let core = and_from _ _ (and_from _ _ (and_from _ _ (and_from _ _ (and_from _ _
          (permissions.1 all.permissions)
          (granted.1 (λ grant there. (all.grants grant.0 grant.1 grant.2 there).0)))
          (granted_to.1 (λ grant there. (all.grants grant.0 grant.1 grant.2 there).1)))
          (assigned.1 (λ user role there. (all.assignments user role there).0)))
          (assigned_to.1 (λ user role there. (all.assignments user role there).1)))
          (locked.1 all.locked) in
          let order = and_from _ _ (and_from _ _ (and_from _ _
          (ascendants.1 (λ asc desc there. (all.edges asc desc there).0))
          (descendants.1 (λ asc desc there. (all.edges asc desc there).1)))
          (above.1 (λ a b there. (all.pairs a b there).0)))
          (below.1 (λ a b there. (all.pairs a b there).1)) in
          let dynamic = and_parts (have_sets S.dsd) (are_seconds_in S.roles S.dsd.members) (dsd.1 all.dsd) in
          let sets = and_from _ _ (and_from _ _ (ssd.1 all.ssd) dynamic.0) dynamic.1 in
          let sessions = and_from _ _ (and_from _ _ (owners.1 all.sessions)
          (opened.1 (λ pair there. (all.active pair.0 pair.1 there).0)))
          (activated.1 (λ session role there. (all.active session role there).1)) in
          and_from _ _ (and_from _ _ (and_from _ _ core order) sets) sessions,
    )

-- ---- sessions with one user

-- the empty set has no entry
len-empty : {K : Type 0} (R : K → K → Ordering) → len (empty {R = R}) ≡ 0
unfolding len empty
len-empty R = finmap.len-empty R (Unit {0})

-- a set of two different names has two members
two_names : (x y : Bytes) → contains {R = name_cmp} (insert empty x) y ≡ false → len {R = name_cmp} (insert (insert empty x) y) ≡ 2
two_names x y apart =
    let one : len {R = name_cmp} (insert empty x) ≡ len {R = name_cmp} empty + 1 = len-new empty x (contains-empty name_cmp x) in
    let two : len {R = name_cmp} (insert (insert empty x) y) ≡ len {R = name_cmp} (insert empty x) + 1 = len-new (insert empty x) y apart in
    let none : len {R = name_cmp} empty ≡ 0 = len-empty name_cmp in
    omega (arith, one, two, none)

-- a set of at most one name has no two that differ
pub no_two : (names : Names) → len names ≤ 1 → (x y : Bytes) → IsTrue (contains names x) → IsTrue (contains names y) → x ≡ y
no_two names few x y here there = by (contains {R = name_cmp} (insert empty x) y) refl
  where
    both : (z : Bytes) → IsTrue (contains {R = name_cmp} (insert (insert empty x) y) z) → IsTrue (contains names z)
    both z h = elim ((contains-insert-Decides name_total name_exact (insert empty x) y z).0 h) [
      | inl same ↦ subst (λ w. IsTrue (contains names w)) (sym same) there
      | inr old ↦ elim ((contains-insert-Decides name_total name_exact empty x z).0 old) [
        | inl same ↦ subst (λ w. IsTrue (contains names w)) (sym same) here
        | inr none ↦ absurd (true≢false (sym none ∙ contains-empty name_cmp z))
      ]
    ]

    by : (b : Bool) → contains {R = name_cmp} (insert empty x) y ≡ b → x ≡ y
    by true e = elim ((contains-insert-Decides name_total name_exact empty x y).0 e) [
      | inl same ↦ sym same
      | inr none ↦ absurd (true≢false (sym none ∙ contains-empty name_cmp y))
    ]
    by false e =
        let two = two_names x y e in absurd (omega (arith, len-subset name_total name_exact (insert (insert empty x) y) names both, two, few))

-- a set whose names are all equal has at most one
pub one_at_most : (names : Names) → ((x y : Bytes) → IsTrue (contains names x) → IsTrue (contains names y) → x ≡ y) → len names ≤ 1
one_at_most names same = elim (cases_lt 0 (len names)) [
  | inl some ↦
      let one = a_member name_total name_exact names some in
      let most = len-subset name_total name_exact names (insert empty one.0) (λ z there. (contains-insert-Decides name_total name_exact empty one.0 z).1 (inl (same z one.0 there one.1))) in
      let none : len {R = name_cmp} empty ≡ 0 = len-empty name_cmp in
      omega (arith, most, len-insert-le name_total empty one.0, none)
  | inr none ↦ omega (arith, none)
]

-- the test whether a session has one user
pub one_user : (S : RbacState) → IsTrue (have_one_user S) ↔ HaveOneUser S
one_user S =
    let each = all-Decides pair_total pair_exact (λ (session : Pair). nat_le (len (seconds S.sessions session.0)) 1) S.sessions in (
      λ h session user other here there. no_two (seconds S.sessions session) (leb-true (len (seconds S.sessions session)) 1 (each.0 h (session, user) here)) user other
          ((seconds-Decides S.sessions session user).1 here) ((seconds-Decides S.sessions session other).1 there),
      λ one. each.1 (λ session there. le-leb (len (seconds S.sessions session.0)) 1 (one_at_most (seconds S.sessions session.0) (λ x y here other. one session.0 x y
          ((seconds-Decides S.sessions session.0 x).0 here) ((seconds-Decides S.sessions session.0 y).0 other)))),
    )

-- ---- the last checks

-- the test of the cardinalities
pub cardinalities_fit : (separation : Separation) → IsTrue (has_cardinalities separation) ↔ HasCardinalities separation
cardinalities_fit separation =
    let each = all-Decides cardinality_total cardinality_exact (λ (entry : Cardinality). nat_le 2 entry.1 && nat_le entry.1 (len (members_of separation entry.0))) separation.cardinalities in (
      λ h name n there. (let parts = and_parts (nat_le 2 n) (nat_le n (len (members_of separation name))) (each.0 h (name, n) there) in (leb-true 2 n parts.0, leb-true n (len (members_of separation name)) parts.1)),
      λ h. each.1 (λ entry there. and_from _ _ (le-leb 2 entry.1 (h entry.0 entry.1 there).0) (le-leb entry.1 (len (members_of separation entry.0)) (h entry.0 entry.1 there).1)),
    )

-- the test of the users of sessions
pub authorized_users_are : (S : RbacState) → IsTrue (have_authorized_users S) ↔ HaveAuthorizedUsers S
authorized_users_are S =
    let each = all-Decides pair_total pair_exact (λ (session : Pair). all (is_authorized S session.1) (active_roles S session.0)) S.sessions in
    let roles : (session user : Bytes) → IsTrue (all (is_authorized S user) (active_roles S session)) ↔ ((role : Bytes) → IsTrue (contains (active_roles S session) role) → IsTrue (is_authorized S user role)) =
    λ session user. all-Decides name_total name_exact (is_authorized S user) (active_roles S session) in (
      λ h session user role there active. (roles session user).0 (each.0 h (session, user) there) role ((seconds-Decides S.active session role).1 active),
      λ h. each.1 (λ session there. (roles session.0 session.1).1 (λ role active. h session.0 session.1 role there ((seconds-Decides S.active session.0 role).0 active))),
    )

-- the test of locked users
pub unlocked_users_are : (S : RbacState) → IsTrue (have_unlocked_users S) ↔ HaveUnlockedUsers S
unlocked_users_are S =
    let each = all-Decides pair_total pair_exact (λ (session : Pair). not (contains S.locked session.1)) S.sessions in
    (λ h session user there. not-true _ (each.0 h (session, user) there), λ h. each.1 (λ session there. ap not (h session.0 session.1 there)))

-- the test of the static sets
pub static_sets_are : (S : RbacState) → IsWellFormed S → IsTrue (are_kept_statically S) ↔ IsStaticallySeparated S
static_sets_are S formed =
    let each = all-Decides cardinality_total cardinality_exact (λ (entry : Cardinality). is_kept_statically S (members_of S.ssd entry.0) entry.1) S.ssd.cardinalities in
    let named = least_violated-None (is_kept_statically S) S.ssd in
    let test = static_test S formed in (
      λ h. test.0 (named.1 (λ name n there. each.0 h (name, n) there)),
      λ h. each.1 (λ entry there. named.0 (test.1 h) entry.0 entry.1 there),
    )

-- the test of the dynamic sets
pub dynamic_sets_are : (S : RbacState) → IsTrue (are_kept_dynamically S) ↔ IsDynamicallySeparated S
dynamic_sets_are S =
    let each = all-Decides cardinality_total cardinality_exact (λ (entry : Cardinality). is_kept_dynamically S (members_of S.dsd entry.0) entry.1) S.dsd.cardinalities in
    let named = least_violated-None (is_kept_dynamically S) S.dsd in
    let test = dynamic_test S in (
      λ h. test.0 (named.1 (λ name n there. each.0 h (name, n) there)),
      λ h. each.1 (λ entry there. named.0 (test.1 h) entry.0 entry.1 there),
    )

-- ---- why the hierarchy is refused

-- a failed allocation, a cycle, or pairs that are not the closure
abbrev pub RefusesOrder : StoredSets → Refusal → Type 0
RefusesOrder g refusal = (refusal ≡ Memory)
    ⊎ (((refusal ≡ Damaged 5) × (IsAcyclic g.facts.edges → ⊥))
    ⊎ ((refusal ≡ Damaged 6) × IsAcyclic g.facts.edges × (IsClosure g.facts.edges g.pairs → ⊥)))

-- values are equal if `Err` of both are
err_is : {X : Type 0} (x y : Refusal) → ◌≡◌ {A = Result X Refusal} (Err x) (Err y) → x ≡ y
err_is {X} x y h = ap at h
  where
    at : Result X Refusal → Refusal
    at (Ok _) = x
    at (Err z) = z

-- why the hierarchy is refused, from what its contract ensures
pub order_refused : {X : Type 0} (g : StoredSets) (refusal : Refusal) → let Told : Refusal → Type 0 = (λ other. ◌≡◌ {A = Result X Refusal} (Err refusal) (Err other)) in
    (Told (Damaged 5) ⊎ (Told (Damaged 6) ⊎ Told Memory)) → (Told (Damaged 5) → IsAcyclic g.facts.edges → ⊥)
    → (Told (Damaged 6) → IsAcyclic g.facts.edges × (IsClosure g.facts.edges g.pairs → ⊥)) → RefusesOrder g refusal
order_refused g refusal (inl five) cycle differ = inr (inl (err_is refusal (Damaged 5) five, cycle five))
order_refused g refusal (inr (inl six)) cycle differ = inr (inr (err_is refusal (Damaged 6) six, (differ six).0, (differ six).1))
order_refused g refusal (inr (inr memory)) cycle differ = inl (err_is refusal Memory memory)
