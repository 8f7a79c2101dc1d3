-- What holds once the sessions that may not go on have ended.
use Rattle.std.proofs.Common.{◌≡◌, ◌≤◌, Bool, false, ◌&&◌, sym, ◌∙◌, subst, arith}
use Rattle.std.specs.Prelude.{IsTrue, ◌⊎◌}
use Rattle.std.proofs.lemmas.Bool.{and_parts, and_from}
use Rattle.rbac_sets.specs.Sets.{Bytes, Names, Pair, any, contains, retain, count, same_name, empty, len}
use Rattle.rbac_sets.specs.Kind.{limit_of}
use Rattle.rbac_sets.specs.NameOrder.{name_total, name_exact, pair_total, pair_exact}
use Rattle.rbac_sets.specs.declared.kind.Kind.TheVariants.{Session, ActiveRole}
use Rattle.rbac_sets.proofs.SetLaws.{any-Decides, seconds-Decides, image-Decides, contains-retain, tie_Decides}
use Rattle.rbac_sets.proofs.Members.{count-len, len-subset}
use Rattle.role_order.specs.Order.{here, step, Geq, geq, IsAcyclic}
use Rattle.role_order.proofs.Deciding.{geq-Decides}
use Rattle.admin_mgr.specs.RbacState.{RbacState, members_of, active_roles}
use Rattle.admin_mgr.specs.Authorization.{authorized_users, is_authorized, is_session_role}
use Rattle.admin_mgr.specs.Assignment.{may_go_on, end_sessions}
use Rattle.admin_mgr.proofs.StateAfter.SessionLaws.{goes_on_parts}
use Rattle.admin_mgr.specs.Good.{IsGood, IsSeparation, IsStaticallySeparated, IsDynamicallySeparated, IsWithinLimits}

-- The state is good except for its sessions: their users may be missing, locked, or no longer authorized for the active roles.
pub record IsGoodApart (S : RbacState) : Type 0 where
  pub permissions : (object operation : Bytes) → IsTrue (contains S.permissions (object, operation)) → IsTrue (contains S.objects object)
  pub assignments : (user role : Bytes) → IsTrue (contains S.assignments (user, role)) → IsTrue (contains S.users user) × IsTrue (contains S.roles role)
  pub grants : (object operation role : Bytes) → IsTrue (contains S.grants (object, operation, role)) → IsTrue (contains S.permissions (object, operation)) × IsTrue (contains S.roles role)
  pub edges : (asc desc : Bytes) → IsTrue (contains S.edges (asc, desc)) → IsTrue (contains S.roles asc) × IsTrue (contains S.roles desc)
  pub one_owner : (session user other : Bytes) → IsTrue (contains S.sessions (session, user)) → IsTrue (contains S.sessions (session, other)) → user ≡ other
  pub locked : (user : Bytes) → IsTrue (contains S.locked user) → IsTrue (contains S.users user)
  pub ssd : IsSeparation S.roles S.ssd
  pub dsd : IsSeparation S.roles S.dsd
  pub acyclic : IsAcyclic S.edges
  pub static_separation : IsStaticallySeparated S
  pub dynamic_separation : IsDynamicallySeparated S
  pub limits : IsWithinLimits S
  pub version : (S.version ≡ 1) ⊎ (S.version ≡ 2)
  pub no_locks : S.version ≡ 1 → S.locked ≡ empty

-- fewer names and a stricter test don't give a larger count
pub count-fewer : (p q : Bytes → Bool) (part whole : Names) → ((x : Bytes) → IsTrue (contains part x) → IsTrue (contains whole x)) →
    ((x : Bytes) → IsTrue (p x) → IsTrue (q x)) → count p part ≤ count q whole
count-fewer p q part whole within harder =
    let fewer = len-subset name_total name_exact (retain part p) (retain whole q) (λ x h.
    let parts = and_parts _ _ (sym (contains-retain name_total name_exact part p x) ∙ h) in
    contains-retain name_total name_exact whole q x ∙ and_from _ _ (within x parts.0) (harder x parts.1)) in
    omega (arith, fewer, count-len name_total name_exact p part, count-len name_total name_exact q whole)

-- if the edges connect roles, what a role dominates is a role
below_role : (S : RbacState) → ((asc desc : Bytes) → IsTrue (contains S.edges (asc, desc)) → IsTrue (contains S.roles asc) × IsTrue (contains S.roles desc)) →
    {above role : Bytes} → Geq S.edges above role → IsTrue (contains S.roles above) → IsTrue (contains S.roles role)
below_role S ends here is = is
below_role S ends {above} (step {b = m} edge rest) is = below_role S ends rest (ends above m edge).1

module _ (S : RbacState) where
  -- a session that is left was there and may go on
  pub ended_session : (p : Pair) → IsTrue (contains (end_sessions S).sessions p) → IsTrue (contains S.sessions p) × IsTrue (may_go_on S p)
  unfolding end_sessions
  ended_session p h = and_parts _ _ (sym (contains-retain pair_total pair_exact S.sessions (may_go_on S) p) ∙ h)

  -- a role that is left active was so, in a session that may go on
  pub ended_active : (p : Pair) → IsTrue (contains (end_sessions S).active p) → IsTrue (contains S.active p) × ((user : Bytes) × IsTrue (contains S.sessions (p.0, user)) × IsTrue (may_go_on S (p.0, user)))
  unfolding end_sessions
  ended_active p h =
      let parts = and_parts _ _ (sym (contains-retain pair_total pair_exact S.active (λ active. any (λ session. same_name session.0 active.0 && may_go_on S session) S.sessions) p) ∙ h) in
      let owner = (any-Decides pair_total pair_exact (λ (session : Pair). same_name session.0 p.0 && may_go_on S session) S.sessions).0 parts.1 in
      let tests = and_parts _ _ owner.2 in
      let same : owner.0 ≡ (p.0, owner.0.1) = λ i. ((tie_Decides name_total name_exact owner.0.0 p.0).0 tests.0 i, owner.0.1) in
      (parts.0, (owner.0.1, subst (λ s. IsTrue (contains S.sessions s)) same owner.1, subst (λ s. IsTrue (may_go_on S s)) same tests.1))

  -- so it belongs to a session that is left
  pub ended_owned : (session role : Bytes) → IsTrue (contains (end_sessions S).active (session, role)) → (user : Bytes) × IsTrue (contains (end_sessions S).sessions (session, user))
  unfolding end_sessions
  ended_owned session role h = let kept = ended_active (session, role) h in (kept.1.0, contains-retain pair_total pair_exact S.sessions (may_go_on S) (session, kept.1.0) ∙ and_from _ _ kept.1.1 kept.1.2)

module _ (S : RbacState) (good : IsGoodApart S) where
  -- users are only authorized for roles that are there
  authorized-role : (user role : Bytes) → IsTrue (is_authorized S user role) → IsTrue (contains S.roles role)
  unfolding authorized_users
  authorized-role user role h =
      let found = (image-Decides pair_total pair_exact name_total name_exact (λ (a : Pair). a.0) (retain S.assignments (λ a. geq S.edges a.1 role)) user).0 h in
      let parts = and_parts _ _ (sym (contains-retain pair_total pair_exact S.assignments (λ (a : Pair). geq S.edges a.1 role) found.0) ∙ found.1) in
      below_role S good.edges ((geq-Decides S.edges found.0.1 role).0 parts.1) (good.assignments found.0.0 found.0.1 parts.0).1

  -- no role is activated anew
  fewer_active : (session role : Bytes) → IsTrue (contains (active_roles (end_sessions S) session) role) → IsTrue (contains (active_roles S session) role)
  fewer_active session role h = (seconds-Decides S.active session role).1 (ended_active S (session, role) ((seconds-Decides (end_sessions S).active session role).0 h)).0

  fewer_roles : (session role : Bytes) → IsTrue (is_session_role (end_sessions S) session role) → IsTrue (is_session_role S session role)
  unfolding end_sessions
  fewer_roles session role h =
      let above = (any-Decides name_total name_exact (λ active. geq S.edges active role) (active_roles (end_sessions S) session)).0 h in
      (any-Decides name_total name_exact (λ active. geq S.edges active role) (active_roles S session)).1 (above.0, fewer_active session above.0 above.1, above.2)

  -- dynamic separation holds of the sessions that are left
  ended_separation : IsDynamicallySeparated (end_sessions S)
  unfolding end_sessions
  ended_separation name session user n has there =
      let fewer = count-fewer (is_session_role (end_sessions S) session) (is_session_role S session) (members_of S.dsd name) (members_of S.dsd name) (λ x member. member) (fewer_roles session) in
      omega (arith, good.dynamic_separation name session user n has (ended_session S (session, user) there).0, fewer)

  -- a state that is good except for its sessions is good once those that may not go on have ended
  pub good_ended : IsGood (end_sessions S)
  unfolding end_sessions authorized_users
  good_ended =
      let T = end_sessions S in
      let goes_on = λ (session user : Bytes) (h : IsTrue (contains T.sessions (session, user))). goes_on_parts S (session, user) (ended_session S (session, user) h).1 in
      let owner : (session user : Bytes) → IsTrue (contains T.sessions (session, user)) → IsTrue (contains S.users user) = λ session user h. (goes_on session user h).0 in
      let one_owner : (session user other : Bytes) → IsTrue (contains T.sessions (session, user)) → IsTrue (contains T.sessions (session, other)) → user ≡ other =
      λ session user other a b. good.one_owner session user other (ended_session S (session, user) a).0 (ended_session S (session, other) b).0 in
      let active : (session role : Bytes) → IsTrue (contains T.active (session, role)) → IsTrue (contains S.roles role) = λ session role h.
      (let kept = ended_active S (session, role) h in authorized-role kept.1.0 role ((goes_on_parts S (session, kept.1.0) kept.1.2).2 role kept.0)) in
      let owned = ended_owned S in
      let dynamic = ended_separation in
      let authorized : (session user role : Bytes) → IsTrue (contains T.sessions (session, user)) → IsTrue (contains T.active (session, role)) → IsTrue (is_authorized S user role) =
      λ session user role h has. (goes_on session user h).2 role (ended_active S (session, role) has).0 in
      let unlocked : (session user : Bytes) → IsTrue (contains T.sessions (session, user)) → contains S.locked user ≡ false = λ session user h. (goes_on session user h).1 in
      let fewer : len T.sessions ≤ limit_of Session S.version =
      (let less = len-subset pair_total pair_exact T.sessions S.sessions (λ p h. (ended_session S p h).0) in let before = good.limits.sessions in omega (arith, less, before)) in
      let fewer_in : (session : Bytes) → len (active_roles T session) ≤ limit_of ActiveRole S.version = λ session.
      (let less = len-subset name_total name_exact (active_roles T session) (active_roles S session) (fewer_active session) in let before = good.limits.active_roles session in omega (arith, less, before)) in
      assumption
