-- What a user could do in some session: exactly what a session could that the user may create.
use Rattle.std.proofs.Common.{◌≡◌, ◌+◌, ◌≤◌, Bool, true, false, cond, not, ◌&&◌, List, [], ◌∷◌, length, refl, sym, ◌∙◌, ap, subst, inl, inr, arith}
use Rattle.std.specs.Prelude.{IsTrue, None, find, nat_lt, count_by}
use Rattle.std.specs.Option.{option_map}
use Rattle.std.specs.List.{list_all, filter}
use Rattle.std.proofs.lemmas.List.Sums.{length-filter}
use Rattle.std.proofs.lemmas.Bool.{and_parts, and_from, lt-ltb, le-ltb, not-true, true≢false}
use Rattle.std.specs.Cmp.{both_ways}
use Rattle.rbac_sets.specs.Sets.{Bytes, Pair, Names, Cardinality, name_cmp, contains, members, insert, empty, retain, len, union, any, all, count, from_list}
use Rattle.rbac_sets.specs.SortedSet.{Stored, set_of}
use Rattle.rbac_sets.specs.Kind.{limit_of}
use Rattle.rbac_sets.specs.NameOrder.{name_total, name_exact, pair_total, pair_exact, cardinality_total, cardinality_exact}
use Rattle.rbac_sets.specs.declared.command.Command.TheVariants.{CreateSession}
use Rattle.rbac_sets.specs.declared.kind.Kind.TheVariants.{Session, ActiveRole}
use Rattle.rbac_sets.specs.declared.refusal.Refusal.TheVariants.{DynamicSeparation, NoUser, NoRole, SessionExists, NotAuthorized, UserLocked, TooMany}
use Rattle.rbac_sets.proofs.SetLaws.{any-Decides, all-Decides, image-Decides, contains-retain, contains-members, contains-insert-Decides, contains-empty, seconds-Decides}
use Rattle.rbac_sets.proofs.Members.{len-insert-le}
use Rattle.std.specs.FinMap as finmap
use Rattle.role_order.specs.Order.{geq}
use Rattle.role_order.proofs.Leading.{Leads-trans, Leads-from_eq}
use Rattle.role_order.proofs.Deciding.{geq-Decides}
use Rattle.role_order.proofs.Runs.{count_seconds}
use Rattle.admin_mgr.specs.RbacState.{RbacState, active_roles, has_session, members_of}
use Rattle.admin_mgr.specs.Authorization.{authorized_roles, authorized_users, has_access, is_authorized, is_session_role, session_roles}
use Rattle.admin_mgr.specs.UserAccess.{could_have_access, stands_alone}
use Rattle.admin_mgr.specs.Refusals.{first, refuse_if, refuse_unless, violates_dynamic}
use Rattle.admin_mgr.specs.After.{after, changed, paired}
use Rattle.admin_mgr.specs.Verdict.{verdict, refusals, create_session_refusals}
use Rattle.admin_mgr.specs.Good.{IsGood}
use Rattle.admin_mgr.specs.Laws.{CreatesAccess, UserAccessIsBySessions, SessionsGiveUserAccess}
use Rattle.admin_mgr.specs.private.HolderRoles.{run_of, is_reached_from, has_all, naming_first}
use Rattle.admin_mgr.proofs.Verdicts.SeparationLaws.{authorized-user}
use Rattle.admin_mgr.proofs.Verdicts.SessionCommandLaws.{created_sessions, created_active, created_goes_on, created_owned, created_roles, create_session}
use Rattle.admin_mgr.proofs.Verdicts.TouchLaws.{find_same, with_sessions}
use Rattle.admin_mgr.proofs.Verdicts.VerdictLaws.{passed, all_but_last, last_decides, refuse_if-None, refuse_unless-None}
use Rattle.admin_mgr.proofs.StateAfter.SessionLaws.{none_ends_where}
use Rattle.admin_mgr.proofs.StateAfter.NewSessionLaws.{good_after_create_session}

-- a role dominates what a junior of it does
geq_through : (S : RbacState) (a b c : Bytes) → IsTrue (geq S.edges a b) → IsTrue (geq S.edges b c) → IsTrue (geq S.edges a c)
geq_through S a b c up down = (geq-Decides S.edges a c).1 (Leads-trans ((geq-Decides S.edges a b).0 up) ((geq-Decides S.edges b c).0 down))

geq_itself : (S : RbacState) (a : Bytes) → IsTrue (geq S.edges a a)
geq_itself S a = (geq-Decides S.edges a a).1 (Leads-from_eq refl)

-- a user is authorized for the juniors of a role for which the user is
authorized_below : (S : RbacState) (user role junior : Bytes) → IsTrue (is_authorized S user role) → IsTrue (geq S.edges role junior) → IsTrue (is_authorized S user junior)
unfolding authorized_users
authorized_below S user role junior h down =
    let above = image-Decides pair_total pair_exact name_total name_exact (λ (a : Pair). a.0) (retain S.assignments (λ a. geq S.edges a.1 role)) user in
    let below = image-Decides pair_total pair_exact name_total name_exact (λ (a : Pair). a.0) (retain S.assignments (λ a. geq S.edges a.1 junior)) user in
    let found = above.0 h in
    let parts = and_parts _ _ (sym (contains-retain pair_total pair_exact S.assignments (λ (a : Pair). geq S.edges a.1 role) found.0) ∙ found.1) in
    below.1 (found.0, contains-retain pair_total pair_exact S.assignments (λ (a : Pair). geq S.edges a.1 junior) found.0 ∙ and_from _ _ parts.0 (geq_through S found.0.1 role junior parts.1 down), found.2)

-- what passes a stronger test is counted by a weaker one
fewer_kept : {X : Type 0} (p q : X → Bool) → ((x : X) → IsTrue (p x) → IsTrue (q x)) → (xs : List X) → length (filter p xs) ≤ length (filter q xs)
fewer_kept p q h [] = omega arith
fewer_kept p q h (x ∷ xs) = step (p x) (q x) (h x) (fewer_kept p q h xs)
  where
    step : (a b : Bool) → (IsTrue a → IsTrue b) → length (filter p xs) ≤ length (filter q xs) → length (cond a (x ∷ filter p xs) (filter p xs)) ≤ length (cond b (x ∷ filter q xs) (filter q xs))
    step true true t le = omega (arith, le)
    step true false t le = absurd (true≢false (sym (t refl)))
    step false true t le = omega (arith, le)
    step false false t le = le

count_fewer : {X : Type 0} (p q : X → Bool) → ((x : X) → IsTrue (p x) → IsTrue (q x)) → (xs : List X) → count_by p xs ≤ count_by q xs
count_fewer p q h xs = omega (arith, length-filter p xs, length-filter q xs, fewer_kept p q h xs)

-- ---- a session that is there

pub access_of_session : SessionsGiveUserAccess
unfolding has_access session_roles could_have_access authorized_roles stands_alone count
access_of_session S good session user operation object owned access =
    let found = (any-Decides name_total name_exact (λ role. contains S.grants (object, operation, role)) (session_roles S session)).0 access in
    let role = found.0 in
    let parts = and_parts _ _ (sym (contains-retain name_total name_exact S.roles (is_session_role S session) role) ∙ found.1) in
    let above = (any-Decides name_total name_exact (λ active. geq S.edges active role) (active_roles S session)).0 parts.1 in
    let active = (seconds-Decides S.active session above.0).0 above.1 in
    let authorized : IsTrue (is_authorized S user role) = authorized_below S user above.0 role (good.authorized session user above.0 owned active) above.2 in
    let fewer : (name : Bytes) → count (geq S.edges role) (members_of S.dsd name) ≤ count (is_session_role S session) (members_of S.dsd name) = λ name.
    count_fewer (geq S.edges role) (is_session_role S session) (λ q down.
    (any-Decides name_total name_exact (λ a. geq S.edges a q) (active_roles S session)).1 (above.0, above.1, geq_through S above.0 role q above.2 down)) (members (members_of S.dsd name)) in
    let alone : IsTrue (stands_alone S role) =
    (all-Decides cardinality_total cardinality_exact (λ (entry : Cardinality). nat_lt (count (geq S.edges role) (members_of S.dsd entry.0)) entry.1) S.dsd.cardinalities).1
    (λ entry there. lt-ltb _ _ (omega (arith, fewer entry.0, good.dynamic_separation entry.0 session user entry.1 there owned))) in
    and_from _ _ (ap not (good.unlocked session user owned))
    ((any-Decides name_total name_exact (λ role. contains S.grants (object, operation, role) && stands_alone S role) (authorized_roles S user)).1
    (role, contains-retain name_total name_exact S.roles (is_authorized S user) role ∙ and_from _ _ parts.0 authorized, and_from _ _ found.2 alone))

-- ---- a session that the user may create

-- the state after it, if nothing else refuses it
created_state : (S : RbacState) (good : IsGood S) (user : Bytes) (roles : Stored Bytes) (session : Bytes) → has_session S session ≡ false →
    IsTrue (contains S.users user) → contains S.locked user ≡ false → IsTrue (all (is_authorized S user) (set_of name_cmp roles)) →
    after S (CreateSession user roles session) ≡ with_sessions S (insert S.sessions (session, user)) (union S.active (paired session (set_of name_cmp roles)))
unfolding after changed created_sessions created_active with_sessions
created_state S good user roles session new is_user unlocked authorized =
    none_ends_where (with_sessions S (insert S.sessions (session, user)) (union S.active (paired session (set_of name_cmp roles))))
    (created_goes_on S good user (set_of name_cmp roles) session new is_user unlocked authorized) (created_owned S good user (set_of name_cmp roles) session new)

-- no session of the user that could be created has access that the user couldn't have
access_once_created : (S : RbacState) → IsGood S → (user operation object : Bytes) (roles : Stored Bytes) (session : Bytes) → CreatesAccess S user operation object roles session →
    IsTrue (could_have_access S user operation object)
unfolding verdict refusals with_sessions could_have_access authorized_roles authorized_users stands_alone
access_once_created S good user operation object roles session creates =
    let names = set_of name_cmp roles in
    let parts = all_but_last (create_session_refusals S user names session) (violates_dynamic (after S (CreateSession user roles session))) creates.0 in
    let each = passed (create_session_refusals S user names session) parts.0 in
    let is_user = refuse_unless-None (contains S.users user) NoUser each.0 in
    let new = refuse_if-None (has_session S session) SessionExists each.1.1.0 in
    let authorized = refuse_unless-None (all (is_authorized S user) names) NotAuthorized each.1.1.1.0 in
    let unlocked = refuse_if-None (contains S.locked user) UserLocked each.1.1.1.1.0 in
    let is = created_state S good user roles session new is_user unlocked authorized in
    let W : RbacState = with_sessions S (insert S.sessions (session, user)) (union S.active (paired session names)) in
    access_of_session W (subst IsGood is (good_after_create_session S good user roles session creates.0)) session user operation object
    ((contains-insert-Decides pair_total pair_exact S.sessions (session, user) (session, user)).1 (inl refl)) (subst (λ T. IsTrue (has_access T session operation object)) is creates.1)

never : {X : Type 0} (xs : List X) → find (λ (_ : X). false) xs ≡ None
never [] = refl
never (x ∷ xs) = never xs

-- one role
module _ (role : Bytes) where
  abbrev one : Stored Bytes
  one = record { in_order = role ∷ []; room = 0 }

  abbrev names : Names
  names = set_of name_cmp one

  in_one : (q : Bytes) → IsTrue (contains names q) → q ≡ role
  unfolding from_list
  in_one q h = elim ((contains-insert-Decides name_total name_exact empty role q).0 h) [ inl e ↦ e | inr there ↦ absurd (true≢false (sym there ∙ contains-empty name_cmp q)) ]

  is_one : IsTrue (contains names role)
  unfolding from_list
  is_one = (contains-insert-Decides name_total name_exact empty role role).1 (inl refl)

  all_one : (p : Bytes → Bool) → IsTrue (p role) → IsTrue (all p names)
  all_one p h = (all-Decides name_total name_exact p names).1 (λ q there. subst (λ r. IsTrue (p r)) (sym (in_one q there)) h)

  any_one : (p : Bytes → Bool) → any p names ≡ p role
  any_one p = both_ways _ _
      (λ h. (let found = (any-Decides name_total name_exact p names).0 h in subst (λ r. IsTrue (p r)) (in_one found.0 found.1) found.2))
      (λ h. (any-Decides name_total name_exact p names).1 (role, is_one, h))

  len_one : len names ≤ 1
  unfolding from_list len empty insert
  len_one = omega (arith, len-insert-le name_total empty role, finmap.len-empty name_cmp (Unit {0}))

-- the session with one role for which the user is authorized and that violates no dynamic set alone
module _ (S : RbacState) (good : IsGood S) (user role session : Bytes) (unlocked : contains S.locked user ≡ false) (is_role : IsTrue (contains S.roles role)) (authorized : IsTrue (is_authorized S user role))
    (alone : IsTrue (stands_alone S role)) (new : has_session S session ≡ false) (room : len S.sessions + 1 ≤ limit_of Session S.version) where
  is_user : IsTrue (contains S.users user)
  is_user = authorized-user S good.well_formed user role authorized

  reached : (q : Bytes) → is_reached_from S.edges (members (names role)) q ≡ geq S.edges role q
  unfolding any
  reached q = any_one role (λ above. geq S.edges above q)

  kept : (entry : Cardinality) → IsTrue (contains S.dsd.cardinalities entry) → has_all S.edges (members (names role)) (run_of S.dsd.members entry.0) entry.1 ≡ false
  unfolding stands_alone
  kept entry there =
      ap (λ k. not (nat_lt k entry.1)) ((λ i. count_by (λ (m : Pair). reached m.1 i) (run_of S.dsd.members entry.0)) ∙ sym (count_seconds (geq S.edges role) S.dsd.members entry.0))
      ∙ ap not ((all-Decides cardinality_total cardinality_exact (λ (e : Cardinality). nat_lt (count (geq S.edges role) (members_of S.dsd e.0)) e.1) S.dsd.cardinalities).0 alone entry there)

  none_violated : naming_first DynamicSeparation (has_all S.edges (members (names role))) S.dsd ≡ None
  none_violated = ap (λ o. option_map DynamicSeparation (option_map (λ (entry : Cardinality). entry.0) o))
      (find_same (λ (entry : Cardinality). has_all S.edges (members (names role)) (run_of S.dsd.members entry.0) entry.1) (λ _. false) (members S.dsd.cardinalities)
      (λ entry there. kept entry (contains-members S.dsd.cardinalities entry ∙ there)) ∙ never (members S.dsd.cardinalities))

  unrefused : first (create_session_refusals S user (names role) session) ≡ None
  unrefused =
      let roles_there = all_one role (contains S.roles) is_role in
      let each = all_one role (is_authorized S user) authorized in
      let few : nat_lt (limit_of Session S.version) (len S.sessions + 1) ≡ false = le-ltb (limit_of Session S.version) (len S.sessions + 1) room in
      let one_active : nat_lt 32 (len (names role)) ≡ false = le-ltb 32 (len (names role)) (omega (arith, len_one role)) in
      λ i. first (
      refuse_unless (is_user i) NoUser
      ∷ refuse_unless (roles_there i) NoRole
      ∷ refuse_if (new i) SessionExists
      ∷ refuse_unless (each i) NotAuthorized
      ∷ refuse_if (unlocked i) UserLocked
      ∷ refuse_if (few i) (TooMany Session)
      ∷ refuse_if (one_active i) (TooMany ActiveRole)
      ∷ [])

  one_accepted : verdict S (CreateSession user (one role) session) ≡ None
  unfolding verdict refusals
  one_accepted =
      last_decides (create_session_refusals S user (names role) session) (violates_dynamic (after S (CreateSession user (one role) session))) unrefused
      ∙ create_session S good user (one role) session new is_user unlocked (all_one role (is_authorized S user) authorized)
      ∙ none_violated

  -- it has the role
  one_has : (operation object : Bytes) → IsTrue (contains S.grants (object, operation, role)) → IsTrue (has_access (after S (CreateSession user (one role) session)) session operation object)
  unfolding has_access session_roles with_sessions created_sessions created_active
  one_has operation object granted =
      let W : RbacState = with_sessions S (insert S.sessions (session, user)) (union S.active (paired session (names role))) in
      subst (λ T. IsTrue (has_access T session operation object)) (sym (created_state S good user (one role) session new is_user unlocked (all_one role (is_authorized S user) authorized)))
      ((any-Decides name_total name_exact (λ q. contains S.grants (object, operation, q)) (session_roles W session)).1
      (role, contains-retain name_total name_exact S.roles (is_session_role W session) role ∙ and_from _ _ is_role (created_roles S good user (names role) session new role ∙ reached role ∙ geq_itself S role), granted))

pub user_access_by_sessions : UserAccessIsBySessions
unfolding could_have_access authorized_roles
user_access_by_sessions S good user operation object = record {
  some = λ could session new room.
      let parts = and_parts _ _ could in
      let unlocked = not-true _ parts.0 in
      let found = (any-Decides name_total name_exact (λ role. contains S.grants (object, operation, role) && stands_alone S role) (authorized_roles S user)).0 parts.1 in
      let role = found.0 in
      let there = and_parts _ _ (sym (contains-retain name_total name_exact S.roles (is_authorized S user) role) ∙ found.1) in
      let both = and_parts _ _ found.2 in
      (one role, (one_accepted S good user role session unlocked there.0 there.1 both.1 new room, one_has S good user role session unlocked there.0 there.1 both.1 new room operation object both.0));
  none = access_once_created S good user operation object;
}

-- ---- by runs

pub alone_by_runs : (S : RbacState) (role : Bytes) →
    list_all (λ (entry : Cardinality). nat_lt (count_by (λ (member : Pair). geq S.edges role member.1) (run_of S.dsd.members entry.0)) entry.1) (members S.dsd.cardinalities) ≡ stands_alone S role
unfolding stands_alone all
alone_by_runs S role = λ i. list_all (λ (entry : Cardinality). nat_lt (sym (count_seconds (geq S.edges role) S.dsd.members entry.0) i) entry.1) (members S.dsd.cardinalities)
