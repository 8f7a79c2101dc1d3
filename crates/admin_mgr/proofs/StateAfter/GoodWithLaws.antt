-- A good state with one group of relations replaced: what has to hold of that group for the state to be good.
use Rattle.std.proofs.Common.{◌≡◌, ◌<◌, ◌≤◌, Bool, false, sym, ◌∙◌, ap, subst}
use Rattle.std.specs.Prelude.{IsTrue}
use Rattle.std.specs.declared.cmp.Ordering.{Ordering}
use Rattle.std.specs.Cmp.{IsTotalOrder, both_ways}
use Rattle.std.specs.FinMap.{IsAntisymmetric}
use Rattle.std.specs.FinSet.{FinSet}
use Rattle.std.proofs.lemmas.Bool.{and_parts, and_from}
use Rattle.rbac_sets.specs.Sets.{Bytes, Pair, Names, Pairs, name_cmp, contains, retain, image, any, count, len}
use Rattle.rbac_sets.specs.Kind.{limit_of}
use Rattle.rbac_sets.specs.NameOrder.{name_total, name_exact, pair_total, pair_exact}
use Rattle.rbac_sets.specs.declared.command.Command.{Command}
use Rattle.rbac_sets.specs.declared.kind.Kind.TheVariants.{User, Role, Edge, Session, ActiveRole}
use Rattle.rbac_sets.proofs.SetLaws.{contains-retain, any-Decides, seconds-Decides, same_members}
use Rattle.rbac_sets.proofs.Members.{count-len}
use Rattle.role_order.specs.Order.{geq, IsAcyclic}
use Rattle.admin_mgr.specs.RbacState.{RbacState, Separation, members_of, active_roles}
use Rattle.admin_mgr.specs.Authorization.{authorized_users, is_authorized, is_session_role}
use Rattle.admin_mgr.specs.Assignment.{may_go_on}
use Rattle.admin_mgr.specs.After.{changed, after}
use Rattle.admin_mgr.specs.Good.{IsGood, IsSeparation, IsStaticallySeparated, IsDynamicallySeparated}
use Rattle.admin_mgr.proofs.StateAfter.SessionLaws.{none_ends, goes_on_parts}
use Rattle.admin_mgr.proofs.Verdicts.TouchLaws.{with_sessions}

-- ---- the state after a command that changes a state into a good one

-- no session ends
pub after_is_changed : (S : RbacState) (command : Command) → IsGood (changed S command) → after S command ≡ changed S command
unfolding after
after_is_changed S command good = none_ends (changed S command) good

-- and that state is good
pub good_after : (S : RbacState) (command : Command) → IsGood (changed S command) → IsGood (after S command)
good_after S command good = subst IsGood (sym (after_is_changed S command good)) good

-- ---- tests that agree on the entries of a set

module _ {K : Type 0} {R : K → K → Ordering} (total : IsTotalOrder R) (exact : IsAntisymmetric R) (p q : K → Bool) (s : FinSet R) (same : (x : K) → IsTrue (contains s x) → p x ≡ q x) where
  -- retain the same
  pub retain_same : retain s p ≡ retain s q
  retain_same = same_members total exact (retain s p) (retain s q) (λ x. (
    λ h. (let parts = and_parts _ _ (sym (contains-retain total exact s p x) ∙ h) in contains-retain total exact s q x ∙ and_from _ _ parts.0 (sym (same x parts.0) ∙ parts.1)),
    λ h. (let parts = and_parts _ _ (sym (contains-retain total exact s q x) ∙ h) in contains-retain total exact s p x ∙ and_from _ _ parts.0 (same x parts.0 ∙ parts.1)),
  ))

  -- count as many
  pub count_same : count p s ≡ count q s
  count_same = count-len total exact p s ∙ ap len retain_same ∙ sym (count-len total exact q s)

  -- and one finds an entry exactly if the other does
  pub any_same : any p s ≡ any q s
  any_same = both_ways (any p s) (any q s)
      (λ h. (let one = (any-Decides total exact p s).0 h in (any-Decides total exact q s).1 (one.0, one.1, sym (same one.0 one.1) ∙ one.2)))
      (λ h. (let one = (any-Decides total exact q s).0 h in (any-Decides total exact p s).1 (one.0, one.1, same one.0 one.1 ∙ one.2)))

-- ---- other users

-- more users, within the limit
pub good_with_users : (S : RbacState) → IsGood S → (users : Names) → ((x : Bytes) → IsTrue (contains S.users x) → IsTrue (contains users x)) →
    len users ≤ limit_of User S.version → IsGood (record S { users = users })
unfolding authorized_users
good_with_users S good users more room =
    let formed = good.well_formed in
    let assigned : (user role : Bytes) → IsTrue (contains S.assignments (user, role)) → IsTrue (contains users user) × IsTrue (contains S.roles role) =
    λ user role h. (let was = formed.assignments user role h in (more user was.0, was.1)) in
    let owner : (session user : Bytes) → IsTrue (contains S.sessions (session, user)) → IsTrue (contains users user) = λ session user h. more user (formed.sessions session user h) in
    let locked : (user : Bytes) → IsTrue (contains S.locked user) → IsTrue (contains users user) = λ user h. more user (formed.locked user h) in
    assumption

-- ---- more roles, and other edges

-- what has to hold of them: the order of the old roles is as before
pub record AreMoreRoles (S : RbacState) (roles : Names) (edges : Pairs) : Type 0 where
  pub more : (x : Bytes) → IsTrue (contains S.roles x) → IsTrue (contains roles x)
  pub edges_formed : (asc desc : Bytes) → IsTrue (contains edges (asc, desc)) → IsTrue (contains roles asc) × IsTrue (contains roles desc)
  pub acyclic : IsAcyclic edges
  pub as_before : (r q : Bytes) → IsTrue (contains S.roles r) → IsTrue (contains S.roles q) → geq edges r q ≡ geq S.edges r q
  pub roles_room : len roles ≤ limit_of Role S.version
  pub edges_room : len edges ≤ limit_of Edge S.version

module _ (S : RbacState) (good : IsGood S) (roles : Names) (edges : Pairs) (are : AreMoreRoles S roles edges) where
  -- the state with them
  abbrev with_roles : RbacState
  with_roles = record S { roles = roles; edges = edges }

  -- users are authorized for the same old roles as before
  same_authorized : (user q : Bytes) → IsTrue (contains S.roles q) → is_authorized with_roles user q ≡ is_authorized S user q
  unfolding authorized_users
  same_authorized user q is_role = ap (λ (s : Pairs). contains (image {Q = name_cmp} (λ (a : Pair). a.0) s) user)
      (retain_same pair_total pair_exact (λ (a : Pair). geq edges a.1 q) (λ (a : Pair). geq S.edges a.1 q) S.assignments
      (λ a there. are.as_before a.1 q (good.well_formed.assignments a.0 a.1 there).1 is_role))

  -- and sessions have the same old roles as before
  same_session_role : (session q : Bytes) → IsTrue (contains S.roles q) → is_session_role with_roles session q ≡ is_session_role S session q
  same_session_role session q is_role =
      any_same name_total name_exact (λ a. geq edges a q) (λ a. geq S.edges a q) (active_roles S session)
      (λ a there. are.as_before a q (good.well_formed.active session a ((seconds-Decides S.active session a).0 there)) is_role)

  -- separation of duty sets of the old roles are sets of the new ones
  separation_with : (separation : Separation) → IsSeparation S.roles separation → IsSeparation roles separation
  separation_with separation formed = record {
    members = λ name role h. ((formed.members name role h).0, are.more role (formed.members name role h).1);
    cardinality = formed.cardinality;
    one_cardinality = formed.one_cardinality;
  }

  -- so the state with them is good
  pub good_with_roles : IsGood with_roles
  good_with_roles =
      let formed = good.well_formed in
      let assigned : (user role : Bytes) → IsTrue (contains S.assignments (user, role)) → IsTrue (contains S.users user) × IsTrue (contains roles role) =
      λ user role h. (let was = formed.assignments user role h in (was.0, are.more role was.1)) in
      let granted : (object operation role : Bytes) → IsTrue (contains S.grants (object, operation, role)) → IsTrue (contains S.permissions (object, operation)) × IsTrue (contains roles role) =
      λ object operation role h. (let was = formed.grants object operation role h in (was.0, are.more role was.1)) in
      let active : (session role : Bytes) → IsTrue (contains S.active (session, role)) → IsTrue (contains roles role) = λ session role h. are.more role (formed.active session role h) in
      let ssd = separation_with S.ssd formed.ssd in
      let dsd = separation_with S.dsd formed.dsd in
      let static : IsStaticallySeparated with_roles = λ name user n there. subst (λ k. k < n)
      (sym (count_same name_total name_exact (is_authorized with_roles user) (is_authorized S user) (members_of S.ssd name)
      (λ q member. same_authorized user q (formed.ssd.members name q ((seconds-Decides S.ssd.members name q).0 member)).1)))
      (good.static_separation name user n there) in
      let dynamic : IsDynamicallySeparated with_roles = λ name session user n there owner. subst (λ k. k < n)
      (sym (count_same name_total name_exact (is_session_role with_roles session) (is_session_role S session) (members_of S.dsd name)
      (λ q member. same_session_role session q (formed.dsd.members name q ((seconds-Decides S.dsd.members name q).0 member)).1)))
      (good.dynamic_separation name session user n there owner) in
      let authorized : (session user role : Bytes) → IsTrue (contains S.sessions (session, user)) → IsTrue (contains S.active (session, role)) → IsTrue (is_authorized with_roles user role) =
      λ session user role owner has. same_authorized user role (formed.active session role has) ∙ good.authorized session user role owner has in
      assumption

-- ---- other sessions and activated roles

-- what has to hold of them
pub record AreSessions (S : RbacState) (sessions active : Pairs) : Type 0 where
  pub going : (p : Pair) → IsTrue (contains sessions p) → IsTrue (may_go_on (with_sessions S sessions active) p)
  pub one_owner : (session user other : Bytes) → IsTrue (contains sessions (session, user)) → IsTrue (contains sessions (session, other)) → user ≡ other
  pub roles : (session role : Bytes) → IsTrue (contains active (session, role)) → IsTrue (contains S.roles role)
  pub owned : (session role : Bytes) → IsTrue (contains active (session, role)) → (user : Bytes) × IsTrue (contains sessions (session, user))
  pub separated : IsDynamicallySeparated (with_sessions S sessions active)
  pub sessions_room : len sessions ≤ limit_of Session S.version
  pub active_room : (session : Bytes) → len (active_roles (with_sessions S sessions active) session) ≤ limit_of ActiveRole S.version

-- so the state with them is good
pub good_with_sessions : (S : RbacState) → IsGood S → (sessions active : Pairs) → AreSessions S sessions active → IsGood (with_sessions S sessions active)
unfolding authorized_users with_sessions
good_with_sessions S good sessions active are =
    let goes_on = λ (session user : Bytes) (h : IsTrue (contains sessions (session, user))). goes_on_parts (with_sessions S sessions active) (session, user) (are.going (session, user) h) in
    let owner : (session user : Bytes) → IsTrue (contains sessions (session, user)) → IsTrue (contains S.users user) = λ session user h. (goes_on session user h).0 in
    let unlocked : (session user : Bytes) → IsTrue (contains sessions (session, user)) → contains S.locked user ≡ false = λ session user h. (goes_on session user h).1 in
    let authorized : (session user role : Bytes) → IsTrue (contains sessions (session, user)) → IsTrue (contains active (session, role)) → IsTrue (is_authorized (with_sessions S sessions active) user role) =
    λ session user role h has. (goes_on session user h).2 role has in
    assumption
