-- Roles with their juniors, collected as a sorted list.
use Rattle.std.proofs.Common.{◌≡◌, inl, inr, Bool, ◌||◌, ◌≢◌, ◌↔◌, List, [], ◌∷◌, ◌++◌, refl, sym, ◌∙◌, ap, subst}
use Rattle.std.specs.Prelude.{IsTrue, Result, Ok, Err, IfOk}
use Rattle.std.specs.List.{list_any}
use Rattle.std.specs.List.Sorted.{IsStrictlySortedBy}
use Rattle.std.proofs.Math.Bool.{or_assoc}
use Rattle.std.proofs.lemmas.Bool.{and_parts, and_from, or_cases, or_left, or_right}
use Rattle.std.specs.Cmp.{both_ways}
use Rattle.rbac_sets.specs.Sets.{Bytes, Names, Pair, Pairs, name_cmp, same_name, contains, from_list, insert, members, retain, any}
use Rattle.rbac_sets.specs.NameOrder.{name_total, name_exact, pair_total, pair_exact}
use Rattle.rbac_sets.proofs.SetLaws.{any-Decides, contains-empty, contains-insert, contains-retain, from_list_push, from_members, or_turned, same_members, tie_Decides}
use Rattle.rbac_sets.proofs.Members.{members-retain}
use Rattle.rbac_sets.proofs.InOrder.{members-sorted}
use Rattle.rbac_sets.proofs.Lists.{any-push}
use Rattle.role_order.specs.Order.{Geq, here, step, geq, IsClosure}
use Rattle.role_order.proofs.Deciding.{geq-Decides, below-are}
use Rattle.role_order.proofs.Members.{same_or_other}
use Rattle.admin_mgr.specs.RbacState.{RbacState}
use Rattle.admin_mgr.specs.Authorization.{authorized_roles, session_roles, is_authorized, is_session_role}
use Rattle.admin_mgr.specs.Good.{IsGood, IsWellFormed}
use Rattle.admin_mgr.specs.private.HolderRoles.{run_of, is_reached}
use Rattle.admin_mgr.proofs.Verdicts.AuthorizationLaws.{authorized_reached, session_reached}

-- ---- the second names of the pairs of a list are added to those that are there

-- the list has, in order, what was there and the second names of the pairs
pub record Joins (start entries : List Bytes) (items : List Pair) : Type 0 where
  pub sorted : IsStrictlySortedBy name_cmp entries
  pub all : (q : Bytes) → contains (from_list {R = name_cmp} entries) q ≡ (list_any (λ (pair : Pair). same_name q pair.1) items || contains (from_list {R = name_cmp} start) q)

-- before the first pair it is what was there
pub joins_start : (start : List Bytes) → IsStrictlySortedBy name_cmp start → Joins start start []
joins_start start sorted = record { sorted = sorted; all = λ q. refl }

-- with the second name of the next pair inserted, it has those of one more pair
pub joins_put : (start entries more : List Bytes) (done : List Pair) (x : Pair) → Joins start entries done
    → IsStrictlySortedBy name_cmp more → from_list {R = name_cmp} more ≡ insert (from_list {R = name_cmp} entries) x.1 → Joins start more (done ++ x ∷ [])
joins_put start entries more done x old sorted put = record {
  sorted = sorted;
  all = λ q. ap (λ s. contains s q) put ∙ contains-insert name_total (from_list {R = name_cmp} entries) x.1 q ∙ ap (λ b. same_name q x.1 || b) (old.all q)
      ∙ sym (or_assoc (same_name q x.1) _ _)
      ∙ ap (λ b. b || contains (from_list {R = name_cmp} start) q) (sym (any-push (λ (pair : Pair). same_name q pair.1) done x));
}

-- ---- a role and its juniors

-- the role, and its seniors
above-are : (edges : Pairs) (above : Names) (role : Bytes) → ((p : Bytes) → IsTrue (contains above p) ↔ ((p ≢ role) × Geq edges p role))
    → (p : Bytes) → (same_name p role || contains above p) ≡ geq edges p role
above-are edges above role are p = both_ways _ _
    (λ h. (geq-Decides edges p role).1 (elim (or_cases (same_name p role) _ h) [
      | inl one ↦ subst (λ z. Geq edges z role) (sym ((tie_Decides name_total name_exact p role).0 one)) here
      | inr other ↦ ((are p).0 other).1
    ]))
    (λ h. elim (same_or_other p role) [
      | inl one ↦ or_left _ _ ((tie_Decides name_total name_exact p role).1 one)
      | inr other ↦ or_right _ _ ((are p).1 (other, (geq-Decides edges p role).0 h))
    ])

-- and so in a list of both
pub above-listed : (edges : Pairs) (above : Names) (role : Bytes) (names : List Bytes) → names ≡ members above ++ role ∷ [] → ((p : Bytes) → IsTrue (contains above p) ↔ ((p ≢ role) × Geq edges p role))
    → (p : Bytes) → contains (from_list {R = name_cmp} names) p ≡ geq edges p role
above-listed edges above role names is are p =
    ap (λ s. contains s p) (ap (from_list {R = name_cmp}) is ∙ from_list_push name_total name_exact (members above) role ∙ ap (λ s. insert s role) (from_members name_total name_exact above))
    ∙ contains-insert name_total above role p ∙ above-are edges above role are p

-- with both inserted, the list has what was there, the role and its juniors
pub joined-below : (edges pairs : Pairs) → IsClosure edges pairs → (role : Bytes) (before named entries : List Bytes) (items : List Pair)
    → from_list {R = name_cmp} named ≡ insert (from_list {R = name_cmp} before) role → items ≡ run_of pairs role → Joins named entries items
    → (q : Bytes) → contains (from_list {R = name_cmp} entries) q ≡ (geq edges role q || contains (from_list {R = name_cmp} before) q)
joined-below edges pairs closed role before named entries items put run all q =
    let ends : Pair → Bool = λ pair. same_name q pair.1 in
    all.all q
    ∙ ap (λ ys. list_any ends ys || contains (from_list {R = name_cmp} named) q) run
    ∙ ap (λ b. list_any ends (run_of pairs role) || b) (ap (λ s. contains s q) put ∙ contains-insert name_total (from_list {R = name_cmp} before) role q)
    ∙ or_turned (list_any ends (run_of pairs role)) (same_name q role) (contains (from_list {R = name_cmp} before) q)
    ∙ sym (or_assoc (same_name q role) _ _) ∙ ap (λ b. b || contains (from_list {R = name_cmp} before) q) (below-are edges pairs closed role q)

-- ---- the second names of pairs, and their juniors

-- the list has these in order
pub record Reaches (edges : Pairs) (items : List Pair) (entries : List Bytes) : Type 0 where
  pub sorted : IsStrictlySortedBy name_cmp entries
  pub all : (q : Bytes) → contains (from_list {R = name_cmp} entries) q ≡ is_reached edges items q

-- without pairs there are none
pub reaches_start : (edges : Pairs) (entries : List Bytes) → entries ≡ [] → Reaches edges [] entries
unfolding IsStrictlySortedBy from_list
reaches_start edges entries none = subst (Reaches edges []) (sym none) (record { sorted = tt; all = λ q. contains-empty name_cmp q })

-- with the next role and its juniors inserted, it has those of one more pair
pub reaches_put : (edges : Pairs) (entries more : List Bytes) (items : List Pair) (x : Pair) → Reaches edges items entries
    → IsStrictlySortedBy name_cmp more → ((q : Bytes) → contains (from_list {R = name_cmp} more) q ≡ (geq edges x.1 q || contains (from_list {R = name_cmp} entries) q)) → Reaches edges (items ++ x ∷ []) more
reaches_put edges entries more items x old sorted put = record {
  sorted = sorted;
  all = λ q. put q ∙ ap (λ b. geq edges x.1 q || b) (old.all q) ∙ sym (any-push (λ (pair : Pair). geq edges pair.1 q) items x);
}

-- ---- juniors of roles of a state are roles of the state

-- edges lead from a role to roles
leads_role : (S : RbacState) → IsWellFormed S → (a b : Bytes) → Geq S.edges a b → IsTrue (contains S.roles a) → IsTrue (contains S.roles b)
leads_role S well_formed a b here is_role = is_role
leads_role S well_formed a b (step {b = next} edge rest) is_role = leads_role S well_formed next b rest (well_formed.edges a next edge).1

-- roles of the state and their juniors are roles of the state
reached_role : (S : RbacState) → IsWellFormed S → (pairs : Pairs) (first : Bytes) → ((role : Bytes) → IsTrue (contains pairs (first, role)) → IsTrue (contains S.roles role))
    → (role : Bytes) → IsTrue (is_reached S.edges (run_of pairs first) role) → IsTrue (contains S.roles role)
unfolding any
reached_role S well_formed pairs first are_roles role h =
    let begins : Pair → Bool = λ pair. same_name pair.0 first in
    let above : Pair → Bool = λ pair. geq S.edges pair.1 role in
    let found = (any-Decides pair_total pair_exact above (retain pairs begins)).0 (ap (list_any above) (members-retain pair_total pair_exact pairs begins) ∙ h) in
    let parts = and_parts _ _ (sym (contains-retain pair_total pair_exact pairs begins found.0) ∙ found.1) in
    let same = (tie_Decides name_total name_exact found.0.0 first).0 parts.1 in
    leads_role S well_formed found.0.1 role ((geq-Decides S.edges found.0.1 role).0 found.2)
    (are_roles found.0.1 (subst (λ a. IsTrue (contains pairs (a, found.0.1))) same parts.0))

-- the sorted list has the roles of the state that pass a test, if its entries are the names that pass
listed-roles : (S : RbacState) (entries : List Bytes) (held test : Bytes → Bool) → IsStrictlySortedBy name_cmp entries → ((q : Bytes) → contains (from_list {R = name_cmp} entries) q ≡ held q)
    → ((q : Bytes) → test q ≡ held q) → ((q : Bytes) → IsTrue (held q) → IsTrue (contains S.roles q)) → entries ≡ members (retain S.roles test)
listed-roles S entries held test sorted all same are_roles =
    sym (members-sorted name_total entries sorted)
    ∙ ap members (same_members name_total name_exact (from_list {R = name_cmp} entries) (retain S.roles test) (λ q. (
      λ h.
          let is_held = sym (all q) ∙ h in
          contains-retain name_total name_exact S.roles test q ∙ and_from _ _ (are_roles q is_held) (same q ∙ is_held),
      λ h. all q ∙ sym (same q) ∙ (and_parts _ _ (sym (contains-retain name_total name_exact S.roles test q) ∙ h)).1,
    )))

-- the roles that a user is assigned and their juniors are its authorized roles
pub authorized_roles-listed : (S : RbacState) → IsGood S → (user : Bytes) (entries : List Bytes) → IsStrictlySortedBy name_cmp entries
    → ((q : Bytes) → contains (from_list {R = name_cmp} entries) q ≡ is_reached S.edges (run_of S.assignments user) q) → entries ≡ members (authorized_roles S user)
unfolding authorized_roles
authorized_roles-listed S good user entries sorted all =
    listed-roles S entries (is_reached S.edges (run_of S.assignments user)) (is_authorized S user) sorted all (authorized_reached S user)
    (reached_role S good.well_formed S.assignments user (λ role h. (good.well_formed.assignments user role h).1))

-- the roles that were activated in a session and their juniors are the roles of the session
pub session_roles-listed : (S : RbacState) → IsGood S → (session : Bytes) (entries : List Bytes) → IsStrictlySortedBy name_cmp entries
    → ((q : Bytes) → contains (from_list {R = name_cmp} entries) q ≡ is_reached S.edges (run_of S.active session) q) → entries ≡ members (session_roles S session)
unfolding session_roles
session_roles-listed S good session entries sorted all =
    listed-roles S entries (is_reached S.edges (run_of S.active session)) (is_session_role S session) sorted all (session_reached S session)
    (reached_role S good.well_formed S.active session (λ role h. good.well_formed.active session role h))

-- two facts of the value of a call that succeeds give a third
pub if_both : {X E : Type 0} (P Q R : X → Type 0) (result : Result X E) → ((x : X) → P x → Q x → R x) → IfOk result P → IfOk result Q → IfOk result R
if_both P Q R (Ok x) third first second = third x first second
if_both P Q R (Err e) third first second = tt
