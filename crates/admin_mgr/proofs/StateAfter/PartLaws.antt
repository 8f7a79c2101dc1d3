-- A state with some of its entries removed: what it keeps of a good state.
use Rattle.std.proofs.Common.{◌≡◌, ◌≤◌, Bool, false, not, sym, ◌∙◌, ap, subst, arith}
use Rattle.std.specs.Prelude.{IsTrue, ℕ, ◌⊎◌}
use Rattle.std.specs.declared.cmp.Ordering.{Ordering}
use Rattle.std.specs.Cmp.{IsTotalOrder}
use Rattle.std.specs.FinMap.{IsAntisymmetric}
use Rattle.std.specs.FinSet.{FinSet}
use Rattle.std.proofs.lemmas.Bool.{and_parts, and_from, true≢false, false_from_ne_true}
use Rattle.rbac_sets.specs.Kind.{limit_of}
use Rattle.rbac_sets.specs.declared.kind.Kind.{Kind}
use Rattle.rbac_sets.specs.Sets.{Bytes, Pair, Pairs, Names, name_cmp, image, empty, contains, remove, retain, seconds, len}
use Rattle.rbac_sets.specs.NameOrder.{name_total, name_exact, pair_total, pair_exact, triple_total, triple_exact, cardinality_total, cardinality_exact}
use Rattle.rbac_sets.proofs.SetLaws.{any-Decides, all-Decides, seconds-Decides, image-Decides, contains-retain, contains-remove, contains-empty, same_set}
use Rattle.rbac_sets.proofs.Members.{len-subset}
use Rattle.role_order.specs.Order.{geq}
use Rattle.role_order.proofs.Leading.{Leads-mono}
use Rattle.role_order.proofs.Closing.{IsAcyclic-subset}
use Rattle.role_order.proofs.Deciding.{geq-Decides}
use Rattle.admin_mgr.specs.RbacState.{RbacState, members_of, active_roles}
use Rattle.admin_mgr.specs.Authorization.{authorized_users, is_authorized, is_session_role}
use Rattle.admin_mgr.specs.Assignment.{may_go_on, end_sessions}
use Rattle.admin_mgr.specs.Good.{IsGood, IsSeparation}
use Rattle.admin_mgr.proofs.StateAfter.SessionLaws.{none_ends_where}
use Rattle.admin_mgr.proofs.StateAfter.EndLaws.{good_ended, count-fewer}

-- each member of the first set is in the second
abbrev pub IsSubset : {K : Type 0} {R : K → K → Ordering} → FinSet R → FinSet R → Type 0
IsSubset {K} part whole = (x : K) → IsTrue (contains part x) → IsTrue (contains whole x)

-- what is left without one member was there
pub remove-subset : {K : Type 0} {R : K → K → Ordering} (total : IsTotalOrder R) (s : FinSet R) (y : K) → IsSubset (remove s y) s
remove-subset total s y x h = (and_parts _ _ (sym (contains-remove total s y x) ∙ h)).1

-- what is retained was there
pub retain-subset : {K : Type 0} {R : K → K → Ordering} (total : IsTotalOrder R) (exact : IsAntisymmetric R) (s : FinSet R) (p : K → Bool) → IsSubset (retain s p) s
retain-subset total exact s p x h = (and_parts _ _ (sym (contains-retain total exact s p x) ∙ h)).0

-- a name has no more second parts in fewer pairs
pub seconds-subset : (part whole : Pairs) (first : Bytes) → IsSubset part whole → IsSubset (seconds part first) (seconds whole first)
seconds-subset part whole first within x h = (seconds-Decides whole first x).1 (within (first, x) ((seconds-Decides part first x).0 h))

-- T is a part of the state S: its sets are subsets of those of S.
pub record IsPart (T S : RbacState) : Type 0 where
  pub version : T.version ≡ S.version
  pub users : IsSubset T.users S.users
  pub locked : IsSubset T.locked S.locked
  pub roles : IsSubset T.roles S.roles
  pub objects : IsSubset T.objects S.objects
  pub permissions : IsSubset T.permissions S.permissions
  pub assignments : IsSubset T.assignments S.assignments
  pub grants : IsSubset T.grants S.grants
  pub edges : IsSubset T.edges S.edges
  pub sessions : IsSubset T.sessions S.sessions
  pub active : IsSubset T.active S.active
  pub ssd_members : IsSubset T.ssd.members S.ssd.members
  pub ssd_sets : IsSubset T.ssd.cardinalities S.ssd.cardinalities
  pub dsd_members : IsSubset T.dsd.members S.dsd.members
  pub dsd_sets : IsSubset T.dsd.cardinalities S.dsd.cardinalities

-- What the relations of the part refer to is still there, except for sessions and the roles that were activated in them.
pub record KeepsReferents (T S : RbacState) : Type 0 where
  pub objects : (object operation : Bytes) → IsTrue (contains T.permissions (object, operation)) → IsTrue (contains S.objects object) → IsTrue (contains T.objects object)
  pub users : (user role : Bytes) → IsTrue (contains T.assignments (user, role)) → IsTrue (contains S.users user) → IsTrue (contains T.users user)
  pub roles : (user role : Bytes) → IsTrue (contains T.assignments (user, role)) → IsTrue (contains S.roles role) → IsTrue (contains T.roles role)
  pub permissions : (object operation role : Bytes) → IsTrue (contains T.grants (object, operation, role)) → IsTrue (contains S.permissions (object, operation)) → IsTrue (contains T.permissions (object, operation))
  pub grantees : (object operation role : Bytes) → IsTrue (contains T.grants (object, operation, role)) → IsTrue (contains S.roles role) → IsTrue (contains T.roles role)
  pub ascendants : (asc desc : Bytes) → IsTrue (contains T.edges (asc, desc)) → IsTrue (contains S.roles asc) → IsTrue (contains T.roles asc)
  pub descendants : (asc desc : Bytes) → IsTrue (contains T.edges (asc, desc)) → IsTrue (contains S.roles desc) → IsTrue (contains T.roles desc)
  pub locked : (user : Bytes) → IsTrue (contains T.locked user) → IsTrue (contains S.users user) → IsTrue (contains T.users user)
  pub ssd : IsSeparation S.roles S.ssd → IsSeparation T.roles T.ssd
  pub dsd : IsSeparation S.roles S.dsd → IsSeparation T.roles T.dsd

-- a role that dominates another with fewer edges does so with more
pub geq-fewer : (part whole : Pairs) → IsSubset part whole → (a b : Bytes) → IsTrue (geq part a b) → IsTrue (geq whole a b)
geq-fewer part whole within a b h =
    (geq-Decides whole a b).1 (Leads-mono (λ x y. IsTrue (contains part (x, y))) (λ x y. IsTrue (contains whole (x, y))) (λ x y. within (x, y)) ((geq-Decides part a b).0 h))

module _ (S T : RbacState) (edges : IsSubset T.edges S.edges) where
  -- with fewer assignments and edges nobody is authorized for more
  pub authorized-fewer : IsSubset T.assignments S.assignments → (user role : Bytes) → IsTrue (is_authorized T user role) → IsTrue (is_authorized S user role)
  unfolding authorized_users
  authorized-fewer assignments user role h =
      let above : Pairs → Pair → Bool = λ edges a. geq edges a.1 role in
      let found = (image-Decides pair_total pair_exact name_total name_exact (λ (a : Pair). a.0) (retain T.assignments (above T.edges)) user).0 h in
      let parts = and_parts _ _ (sym (contains-retain pair_total pair_exact T.assignments (above T.edges) found.0) ∙ found.1) in
      (image-Decides pair_total pair_exact name_total name_exact (λ (a : Pair). a.0) (retain S.assignments (above S.edges)) user).1 (
        found.0,
        contains-retain pair_total pair_exact S.assignments (above S.edges) found.0
            ∙ and_from _ _ (assignments found.0 parts.0) (geq-fewer T.edges S.edges edges found.0.1 role parts.1),
        found.2,
      )

  -- with fewer activated roles and edges no session has more roles
  pub session_role-fewer : IsSubset T.active S.active → (session role : Bytes) → IsTrue (is_session_role T session role) → IsTrue (is_session_role S session role)
  session_role-fewer active session role h =
      let above = (any-Decides name_total name_exact (λ active. geq T.edges active role) (active_roles T session)).0 h in
      (any-Decides name_total name_exact (λ active. geq S.edges active role) (active_roles S session)).1
      (above.0, seconds-subset T.active S.active session active above.0 above.1, geq-fewer T.edges S.edges edges above.0 role above.2)

module _ (S T : RbacState) (part : IsPart T S) where
  -- with the same assignments and edges they are authorized as before
  authorized-same : T.assignments ≡ S.assignments → T.edges ≡ S.edges → (user role : Bytes) → is_authorized T user role ≡ is_authorized S user role
  unfolding authorized_users
  authorized-same assignments edges user role = λ i. contains {R = name_cmp} (image (λ (a : Pair). a.0) (retain (assignments i) (λ (a : Pair). geq (edges i) a.1 role))) user

  -- no session ends if the users, the assignments and the edges are as before and each activated role belongs to a session
  pub part_ends_none : IsGood S → T.users ≡ S.users → T.assignments ≡ S.assignments → T.edges ≡ S.edges
      → ((session role : Bytes) → IsTrue (contains T.active (session, role)) → (user : Bytes) × IsTrue (contains T.sessions (session, user))) → end_sessions T ≡ T
  unfolding may_go_on
  part_ends_none good users assignments edges owned = none_ends_where T (λ p there.
      let was = part.sessions p there in
      let unlocked : contains T.locked p.1 ≡ false = false_from_ne_true (contains T.locked p.1) (λ h. true≢false (sym (part.locked p.1 h) ∙ good.unlocked p.0 p.1 was)) in
      and_from _ _ (and_from _ _ (subst (λ (s : Names). IsTrue (contains s p.1)) (sym users) (good.well_formed.sessions p.0 p.1 was)) (ap not unlocked))
      ((all-Decides name_total name_exact (is_authorized T p.1) (active_roles T p.0)).1 (λ role active.
      authorized-same assignments edges p.1 role ∙ good.authorized p.0 p.1 role was (part.active (p.0, role) ((seconds-Decides T.active p.0 role).0 active))))) owned

  -- if what its relations refer to is there, a part of a good state is good once the sessions that may not go on have ended
  pub good_part : IsGood S → KeepsReferents T S → IsGood (end_sessions T)
  good_part good keeps =
      let formed = good.well_formed in
      let limits = good.limits in
      good_ended T (record {
        permissions = λ ob op h. keeps.objects ob op h (formed.permissions ob op (part.permissions (ob, op) h));
        assignments = λ u r h. (let was = formed.assignments u r (part.assignments (u, r) h) in (keeps.users u r h was.0, keeps.roles u r h was.1));
        grants = λ ob op r h. (let was = formed.grants ob op r (part.grants (ob, op, r) h) in (keeps.permissions ob op r h was.0, keeps.grantees ob op r h was.1));
        edges = λ a d h. (let was = formed.edges a d (part.edges (a, d) h) in (keeps.ascendants a d h was.0, keeps.descendants a d h was.1));
        one_owner = λ session user other a b. formed.one_owner session user other (part.sessions (session, user) a) (part.sessions (session, other) b);
        locked = λ u h. keeps.locked u h (formed.locked u (part.locked u h));
        ssd = keeps.ssd formed.ssd;
        dsd = keeps.dsd formed.dsd;
        acyclic = IsAcyclic-subset T.edges S.edges (λ a b. part.edges (a, b)) good.acyclic;
        static_separation = λ name user n has.
            let fewer = count-fewer (is_authorized T user) (is_authorized S user) (members_of T.ssd name) (members_of S.ssd name)
            (seconds-subset T.ssd.members S.ssd.members name part.ssd_members) (authorized-fewer S T part.edges part.assignments user) in
            omega (arith, good.static_separation name user n (part.ssd_sets (name, n) has), fewer);
        dynamic_separation = λ name session user n has owner.
            let fewer = count-fewer (is_session_role T session) (is_session_role S session) (members_of T.dsd name) (members_of S.dsd name)
            (seconds-subset T.dsd.members S.dsd.members name part.dsd_members) (session_role-fewer S T part.edges part.active session) in
            omega (arith, good.dynamic_separation name session user n (part.dsd_sets (name, n) has) (part.sessions (session, user) owner), fewer);
        limits = search (part, limits, no_more name_total name_exact, no_more pair_total pair_exact, no_more triple_total triple_exact, no_more cardinality_total cardinality_exact, no_more_seconds, limits.ssd_members, limits.dsd_members, limits.active_roles);
        version = subst (λ (v : ℕ). (v ≡ 1) ⊎ (v ≡ 2)) (sym part.version) good.version;
        no_locks = λ one. none_of name_total name_exact T.locked S.locked part.locked (good.no_locks (sym part.version ∙ one));
      })
    where
      no_more : {K : Type 0} {R : K → K → Ordering} (total : IsTotalOrder R) (exact : IsAntisymmetric R) (small large : FinSet R) (kind : Kind)
          → IsSubset small large → len large ≤ limit_of kind S.version → len small ≤ limit_of kind T.version
      no_more total exact small large kind within below =
          omega (arith, len-subset total exact small large within, below, ap (limit_of kind) part.version)

      no_more_seconds : (small large : Pairs) (first : Bytes) (kind : Kind) → IsSubset small large → len (seconds large first) ≤ limit_of kind S.version → len (seconds small first) ≤ limit_of kind T.version
      no_more_seconds small large first kind within = no_more name_total name_exact (seconds small first) (seconds large first) kind (seconds-subset small large first within)

      none_of : {K : Type 0} {R : K → K → Ordering} (total : IsTotalOrder R) (exact : IsAntisymmetric R) (small large : FinSet R) → IsSubset small large → large ≡ empty → small ≡ empty
      none_of {R = R} total exact small large within none = same_set total exact small empty (λ x.
          false_from_ne_true (contains small x) (λ h. true≢false (sym (within x h) ∙ ap (λ s. contains s x) none ∙ contains-empty R x)) ∙ sym (contains-empty R x))
