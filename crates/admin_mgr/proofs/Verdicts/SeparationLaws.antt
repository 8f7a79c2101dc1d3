-- Static separation of duty by counting and by subsets, and the tests of both kinds.
use Rattle.std.proofs.Common.{◌≡◌, ℕ, ◌<◌, ◌≤◌, Bool, true, false, cond, not, ◌||◌, List, [], ◌∷◌, refl, sym, ◌∙◌, subst, arith, inl, inr}
use Rattle.std.specs.Prelude.{IsTrue, ◌↔◌, Option, Some, None, find, nat_lt}
use Rattle.std.specs.Option.{option_map}
use Rattle.std.specs.List.{list_any}
use Rattle.std.proofs.lemmas.Bool.{and_parts, and_from, cases_lt, ltb-true, lt-ltb, not-false, not-true, true≢false, false_from_ne_true}
use Rattle.rbac_sets.specs.Sets.{Bytes, Pair, Names, Cardinality, contains, members, retain, len, count, any}
use Rattle.rbac_sets.specs.NameOrder.{name_total, name_exact, pair_total, pair_exact, cardinality_total, cardinality_exact}
use Rattle.rbac_sets.proofs.SetLaws.{contains-retain, image-Decides, any-Decides, all-Decides}
use Rattle.rbac_sets.proofs.Members.{count-len, len-subset, a_member}
use Rattle.role_order.specs.Order.{geq}
use Rattle.admin_mgr.specs.RbacState.{RbacState, Separation, members_of}
use Rattle.admin_mgr.specs.Authorization.{authorized_users, is_authorized, is_session_role}
use Rattle.admin_mgr.specs.Separation.{is_kept_statically, is_kept_dynamically, least_violated}
use Rattle.admin_mgr.specs.Good.{IsWellFormed, IsStaticallySeparated}
use Rattle.admin_mgr.specs.Laws.{IsSeparatedBySubsets, SubsetForm, StaticTest, DynamicTest}

-- ---- by counting and by subsets

by_subsets : (S : RbacState) → IsStaticallySeparated S → IsSeparatedBySubsets S
by_subsets S separated name n part there within enough user each =
    let roles = members_of S.ssd name in
    let fewer : count (is_authorized S user) roles < n = separated name user n there in
    let inside : len part ≤ len (retain roles (is_authorized S user)) = len-subset name_total name_exact part _ (λ role h.
    contains-retain name_total name_exact roles (is_authorized S user) role ∙ and_from _ _ (within role h) (each role h)) in
    let counted : count (is_authorized S user) roles ≡ len (retain roles (is_authorized S user)) = count-len name_total name_exact (is_authorized S user) roles in
    absurd (omega arith)

by_counting : (S : RbacState) → IsSeparatedBySubsets S → IsStaticallySeparated S
by_counting S separated name user n there =
    let roles = members_of S.ssd name in
    let part = retain roles (is_authorized S user) in
    let counted : count (is_authorized S user) roles ≡ len part = count-len name_total name_exact (is_authorized S user) roles in
    elim (cases_lt (count (is_authorized S user) roles) n) [
      | inl fewer ↦ fewer
      | inr enough ↦ absurd (separated name n part there
          (λ role h. (and_parts _ _ (sym (contains-retain name_total name_exact roles (is_authorized S user) role) ∙ h)).0)
          (omega arith)
          user (λ role h. (and_parts _ _ (sym (contains-retain name_total name_exact roles (is_authorized S user) role) ∙ h)).1))
    ]

pub subset_form : SubsetForm
subset_form S = (by_subsets S, by_counting S)

-- ---- the first violated set

-- whether a set is violated
abbrev pub is_violated : (Names → ℕ → Bool) → Separation → Cardinality → Bool
is_violated is_kept separation entry = not (is_kept (members_of separation entry.0) entry.1)

none_found : {X : Type 0} (p : X → Bool) (xs : List X) → (find p xs ≡ None) ↔ (list_any p xs ≡ false)
none_found p [] = (λ _. refl, λ _. refl)
none_found {X} p (x ∷ xs) = step (none_found p xs) (p x)
  where
    step : ((find p xs ≡ None) ↔ (list_any p xs ≡ false)) → (b : Bool) → (cond b (Some x) (find p xs) ≡ None) ↔ ((b || list_any p xs) ≡ false)
    step rest true = (λ h. cc, λ h. absurd (true≢false h))
    step rest false = rest

-- a mapped option is `None` exactly if the option is
pub unmapped : {A B : Type 0} (f : A → B) (o : Option A) → (option_map f o ≡ None) ↔ (o ≡ None)
unmapped f None = (λ _. refl, λ _. refl)
unmapped f (Some x) = (λ h. cc, λ h. cc)

-- no set is named exactly if none is violated
pub least_violated-None : (is_kept : Names → ℕ → Bool) (separation : Separation) →
    (least_violated is_kept separation ≡ None) ↔ ((name : Bytes) (n : ℕ) → IsTrue (contains separation.cardinalities (name, n)) → IsTrue (is_kept (members_of separation name) n))
unfolding least_violated any
least_violated-None is_kept separation =
    let violated : Cardinality → Bool = is_violated is_kept separation in
    let some = any-Decides cardinality_total cardinality_exact violated separation.cardinalities in
    let found = none_found violated (members separation.cardinalities) in
    let named = unmapped (λ (entry : Cardinality). entry.0) (find violated (members separation.cardinalities)) in (
      λ none name n there. not-false _ (false_from_ne_true (violated (name, n)) (λ h. true≢false (sym (some.1 ((name, n), there, h)) ∙ found.0 (named.0 none)))),
      λ each. named.1 (found.1 (false_from_ne_true _ (λ h. (let one = some.0 h in true≢false (sym (each one.0.0 one.0.1 one.1) ∙ not-true _ one.2))))),
    )

-- ---- static

-- only users are authorized
pub authorized-user : (S : RbacState) → IsWellFormed S → (user role : Bytes) → IsTrue (is_authorized S user role) → IsTrue (contains S.users user)
unfolding authorized_users
authorized-user S formed user role h =
    let found = (image-Decides pair_total pair_exact name_total name_exact (λ (a : Pair). a.0) (retain S.assignments (λ a. geq S.edges a.1 role)) user).0 h in
    let assigned = (and_parts _ _ (sym (contains-retain pair_total pair_exact S.assignments (λ (a : Pair). geq S.edges a.1 role) found.0) ∙ found.1)).0 in
    subst (λ x. IsTrue (contains S.users x)) found.2 (formed.assignments found.0.0 found.0.1 assigned).0

-- the test holds exactly if each user is authorized for fewer than n of the roles
pub kept_statically : (S : RbacState) (roles : Names) (n : ℕ) →
    IsTrue (is_kept_statically S roles n) ↔ ((user : Bytes) → IsTrue (contains S.users user) → count (is_authorized S user) roles < n)
unfolding is_kept_statically
kept_statically S roles n =
    let each = all-Decides name_total name_exact (λ user. nat_lt (count (is_authorized S user) roles) n) S.users in
    (λ h user there. ltb-true _ _ (each.0 h user there), λ h. each.1 (λ user there. lt-ltb _ _ (h user there)))

-- a name that is no user is authorized for none of the roles
nobody : (S : RbacState) → IsWellFormed S → (user : Bytes) (roles : Names) → contains S.users user ≡ false → count (is_authorized S user) roles ≤ 0
nobody S formed user roles absent =
    let counted : count (is_authorized S user) roles ≡ len (retain roles (is_authorized S user)) = count-len name_total name_exact (is_authorized S user) roles in
    elim (cases_lt 0 (len (retain roles (is_authorized S user)))) [
      | inl some ↦ let one = a_member name_total name_exact (retain roles (is_authorized S user)) some in
          absurd (true≢false (sym (authorized-user S formed user one.0
          (and_parts _ _ (sym (contains-retain name_total name_exact roles (is_authorized S user) one.0) ∙ one.1)).1) ∙ absent))
      | inr none ↦ omega (arith, counted, none)
    ]

each_name : (S : RbacState) → IsWellFormed S → (name user : Bytes) (n : ℕ) → IsTrue (contains S.ssd.cardinalities (name, n)) → IsTrue (is_kept_statically S (members_of S.ssd name) n) →
    (b : Bool) → contains S.users user ≡ b → count (is_authorized S user) (members_of S.ssd name) < n
each_name S formed name user n there kept true is_user = (kept_statically S (members_of S.ssd name) n).0 kept user is_user
each_name S formed name user n there kept false absent =
    omega (arith, (formed.ssd.cardinality name n there).0, nobody S formed user (members_of S.ssd name) absent)

pub static_test : StaticTest
static_test S formed =
    let named = least_violated-None (is_kept_statically S) S.ssd in (
      λ none name user n there. each_name S formed name user n there (named.0 none name n there) (contains S.users user) refl,
      λ separated. named.1 (λ name n there. (kept_statically S (members_of S.ssd name) n).1 (λ user _. separated name user n there)),
    )

-- ---- dynamic

-- the test holds exactly if each session has fewer than n of the roles
pub kept_dynamically : (S : RbacState) (roles : Names) (n : ℕ) →
    IsTrue (is_kept_dynamically S roles n) ↔ ((session user : Bytes) → IsTrue (contains S.sessions (session, user)) → count (is_session_role S session) roles < n)
unfolding is_kept_dynamically
kept_dynamically S roles n =
    let each = all-Decides pair_total pair_exact (λ (session : Pair). nat_lt (count (is_session_role S session.0) roles) n) S.sessions in
    (λ h session user there. ltb-true _ _ (each.0 h (session, user) there), λ h. each.1 (λ session there. lt-ltb _ _ (h session.0 session.1 there)))

pub dynamic_test : DynamicTest
dynamic_test S =
    let named = least_violated-None (is_kept_dynamically S) S.dsd in (
      λ none name session user n there owner. (kept_dynamically S (members_of S.dsd name) n).0 (named.0 none name n there) session user owner,
      λ separated. named.1 (λ name n there. (kept_dynamically S (members_of S.dsd name) n).1 (λ session user owner. separated name session user n there owner)),
    )
