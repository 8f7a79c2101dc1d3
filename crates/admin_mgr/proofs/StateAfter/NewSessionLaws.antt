-- A new session, and a role that is activated in one: neither was there, no session ends, and the state is good.
use Rattle.std.proofs.Common.{◌≡◌, ◌+◌, ◌≤◌, false, refl, sym, ◌∙◌, ap, subst, inl, inr}
use Rattle.std.specs.Prelude.{IsTrue, Option, Some, None}
use Rattle.std.specs.Option.{option_map}
use Rattle.std.proofs.lemmas.Bool.{or_cases, false_from_ne_true}
use Rattle.rbac_sets.specs.Sets.{Bytes, Pair, Pairs, Names, name_cmp, contains, insert, union, seconds, len, all, IsDisjoint}
use Rattle.rbac_sets.specs.SortedSet.{Stored, set_of}
use Rattle.rbac_sets.specs.Kind.{limit_of}
use Rattle.rbac_sets.specs.NameOrder.{name_total, name_exact, pair_total, pair_exact}
use Rattle.rbac_sets.specs.declared.command.Command.TheVariants.{CreateSession, AddActiveRole}
use Rattle.rbac_sets.specs.declared.kind.Kind.TheVariants.{Session, ActiveRole}
use Rattle.rbac_sets.specs.declared.refusal.Refusal.TheVariants.{DynamicSeparation}
use Rattle.rbac_sets.proofs.SetLaws.{contains-union, contains-insert-Decides, all-Decides}
use Rattle.role_order.proofs.Members.{same_or_other}
use Rattle.admin_mgr.specs.RbacState.{RbacState, has_session, active_roles}
use Rattle.admin_mgr.specs.Authorization.{is_authorized}
use Rattle.admin_mgr.specs.Separation.{dynamic_violation}
use Rattle.admin_mgr.specs.Refusals.{first, violates_dynamic}
use Rattle.admin_mgr.specs.Assignment.{may_go_on, end_sessions}
use Rattle.admin_mgr.specs.After.{paired, changed, after}
use Rattle.admin_mgr.specs.Verdict.{verdict, refusals, create_session_refusals, add_active_role_refusals}
use Rattle.admin_mgr.specs.Good.{IsGood, IsDynamicallySeparated}
use Rattle.admin_mgr.proofs.Verdicts.VerdictLaws.{passed, all_but_last, refuse_if-None, refuse_unless-None}
use Rattle.admin_mgr.proofs.StateAfter.LimitLaws.{too_many-None, one_more_within}
use Rattle.admin_mgr.proofs.Verdicts.SeparationLaws.{dynamic_test}
use Rattle.admin_mgr.proofs.StateAfter.SessionLaws.{none_ends_where}
use Rattle.admin_mgr.proofs.Verdicts.SessionCommandLaws.{created_sessions, created_active, not_new, none_active, created_goes_on, created_owned, more_active, activated_goes_on, activated_owned}
use Rattle.admin_mgr.proofs.Verdicts.TouchLaws.{with_sessions}
use Rattle.admin_mgr.proofs.Verdicts.ViolationLaws.{paired-Decides, with_paired-others, with_paired-own, with_one-others, with_one-own}
use Rattle.admin_mgr.proofs.StateAfter.GoodWithLaws.{good_with_sessions, after_is_changed, good_after}

-- if no session ends and no dynamic set is named, the state is dynamically separated
separated_where : (T : RbacState) → end_sessions T ≡ T → violates_dynamic (end_sessions T) ≡ None → IsDynamicallySeparated T
separated_where T same none = (dynamic_test T).0 (unnamed (dynamic_violation T) (ap violates_dynamic (sym same) ∙ none))
  where
    unnamed : (o : Option Bytes) → option_map DynamicSeparation o ≡ None → o ≡ None
    unnamed None h = refl
    unnamed (Some name) h = cc

-- ---- a new session

-- the conditions that an accepted command meets, besides dynamic separation
record CanCreate (S : RbacState) (user : Bytes) (roles : Names) (session : Bytes) : Type 0 where
  is_user : IsTrue (contains S.users user)
  are_roles : IsTrue (all (contains S.roles) roles)
  new : has_session S session ≡ false
  authorized : IsTrue (all (is_authorized S user) roles)
  unlocked : contains S.locked user ≡ false
  room : len S.sessions + 1 ≤ limit_of Session S.version
  roles_room : len roles ≤ limit_of ActiveRole S.version

-- the session can be created if no refusal applies
can_create : (S : RbacState) (user : Bytes) (roles : Names) (session : Bytes) → first (create_session_refusals S user roles session) ≡ None → CanCreate S user roles session
can_create S user roles session accepted = search (passed (create_session_refusals S user roles session) accepted, refuse_if-None, refuse_unless-None, too_many-None)

module _ (S : RbacState) (user : Bytes) (roles : Stored Bytes) (session : Bytes) (accepted : verdict S (CreateSession user roles session) ≡ None) where
  -- the conditions, and that no dynamic set is named
  created : CanCreate S user (set_of name_cmp roles) session × (violates_dynamic (after S (CreateSession user roles session)) ≡ None)
  unfolding verdict refusals
  created =
      let parts = all_but_last (create_session_refusals S user (set_of name_cmp roles) session) (violates_dynamic (after S (CreateSession user roles session))) accepted in
      (can_create S user (set_of name_cmp roles) session parts.0, parts.1)

  -- the conditions
  can : CanCreate S user (set_of name_cmp roles) session
  can = created.0

  module _ (good : IsGood S) where
    -- no user had a session of the name
    pub create_session_absent : (owner : Bytes) → contains S.sessions (session, owner) ≡ false
    create_session_absent owner = false_from_ne_true (contains S.sessions (session, owner))
        (λ there. not_new S good user (set_of name_cmp roles) session can.new session owner there refl)

    -- no role was activated in it
    pub create_session_inactive : (role : Bytes) → contains S.active (session, role) ≡ false
    create_session_inactive role = false_from_ne_true (contains S.active (session, role)) (none_active S good user (set_of name_cmp roles) session can.new role)

    -- none of the inserted pairs was there
    pub create_session_apart : IsDisjoint (paired session (set_of name_cmp roles)) S.active
    create_session_apart pair new =
        let at : pair.0 ≡ session = ((paired-Decides session (set_of name_cmp roles) pair.0 pair.1).0 new).0 in
        ap (λ s. contains S.active (s, pair.1)) at ∙ create_session_inactive pair.1

    -- the sessions after it
    new_sessions : Pairs
    new_sessions = insert S.sessions (session, user)

    -- the activated roles after it
    new_active : Pairs
    new_active = union S.active (paired session (set_of name_cmp roles))

    -- the sessions may go on
    new_sessions_go_on : (p : Pair) → IsTrue (contains new_sessions p) → IsTrue (may_go_on (with_sessions S new_sessions new_active) p)
    unfolding new_sessions new_active created_sessions created_active
    new_sessions_go_on = created_goes_on S good user (set_of name_cmp roles) session can.new can.is_user can.unlocked can.authorized

    -- and each activated role belongs to one of them
    new_sessions_owned : (other role : Bytes) → IsTrue (contains new_active (other, role)) → (owner : Bytes) × IsTrue (contains new_sessions (other, owner))
    unfolding new_sessions new_active created_sessions created_active
    new_sessions_owned = created_owned S good user (set_of name_cmp roles) session can.new

    -- each of the sessions has one user
    one_owner_of_new : (other a b : Bytes) → IsTrue (contains new_sessions (other, a)) → IsTrue (contains new_sessions (other, b)) → a ≡ b
    unfolding new_sessions
    one_owner_of_new other a b is_a is_b =
        let put = contains-insert-Decides pair_total pair_exact S.sessions (session, user) in
        let old_is_other : ((u : Bytes) → IsTrue (contains S.sessions (other, u)) → other ≡ session → ⊥) = not_new S good user (set_of name_cmp roles) session can.new other in
        elim ((put (other, a)).0 is_a) [
          | inl same_a ↦ elim ((put (other, b)).0 is_b) [
            | inl same_b ↦ ap (λ (p : Pair). p.1) same_a ∙ sym (ap (λ (p : Pair). p.1) same_b)
            | inr old_b ↦ absurd (old_is_other b old_b (ap (λ (p : Pair). p.0) same_a))
          ]
          | inr old_a ↦ elim ((put (other, b)).0 is_b) [
            | inl same_b ↦ absurd (old_is_other a old_a (ap (λ (p : Pair). p.0) same_b))
            | inr old_b ↦ good.well_formed.one_owner other a b old_a old_b
          ]
        ]

    -- what is activated is a role
    new_active_roles : (other role : Bytes) → IsTrue (contains new_active (other, role)) → IsTrue (contains S.roles role)
    unfolding new_active
    new_active_roles other role h = elim (or_cases _ _ (sym (contains-union pair_total pair_exact S.active (paired session (set_of name_cmp roles)) (other, role)) ∙ h)) [
      | inl old ↦ good.well_formed.active other role old
      | inr own ↦ (all-Decides name_total name_exact (contains S.roles) (set_of name_cmp roles)).0 can.are_roles role ((paired-Decides session (set_of name_cmp roles) other role).0 own).1
    ]

    -- no session has more than the limit of activated roles
    new_active_room : (other : Bytes) → len (seconds new_active other) ≤ limit_of ActiveRole S.version
    unfolding new_active
    new_active_room other = elim (same_or_other other session) [
      | inl same ↦ subst (λ s. len (seconds (union S.active (paired session (set_of name_cmp roles))) s) ≤ limit_of ActiveRole S.version) (sym same)
          (subst (λ (s : Names). len s ≤ limit_of ActiveRole S.version)
          (sym (with_paired-own S.active session (set_of name_cmp roles) (none_active S good user (set_of name_cmp roles) session can.new)))
          can.roles_room)
      | inr apart ↦ subst (λ (s : Names). len s ≤ limit_of ActiveRole S.version) (sym (with_paired-others S.active session (set_of name_cmp roles) other apart)) (good.limits.active_roles other)
    ]

    -- the changed state is good
    good_changed_create : IsGood (changed S (CreateSession user roles session))
    unfolding changed after new_sessions new_active with_sessions
    good_changed_create = good_with_sessions S good new_sessions new_active (record {
      going = new_sessions_go_on;
      one_owner = one_owner_of_new;
      roles = new_active_roles;
      owned = new_sessions_owned;
      separated = separated_where (with_sessions S new_sessions new_active) (none_ends_where (with_sessions S new_sessions new_active) new_sessions_go_on new_sessions_owned) created.1;
      sessions_room = one_more_within pair_total S.sessions (session, user) _ can.room;
      active_room = new_active_room;
    })

-- no session ends
pub after_create_session : (S : RbacState) → IsGood S → (user : Bytes) (roles : Stored Bytes) (session : Bytes) → verdict S (CreateSession user roles session) ≡ None →
    after S (CreateSession user roles session) ≡ changed S (CreateSession user roles session)
after_create_session S good user roles session accepted = after_is_changed S (CreateSession user roles session) (good_changed_create S user roles session accepted good)

-- the state after it is good
pub good_after_create_session : (S : RbacState) → IsGood S → (user : Bytes) (roles : Stored Bytes) (session : Bytes) → verdict S (CreateSession user roles session) ≡ None →
    IsGood (after S (CreateSession user roles session))
good_after_create_session S good user roles session accepted = good_after S (CreateSession user roles session) (good_changed_create S user roles session accepted good)

-- ---- a role is activated

-- the conditions that an accepted command meets, besides dynamic separation
record CanActivate (S : RbacState) (user session role : Bytes) : Type 0 where
  is_role : IsTrue (contains S.roles role)
  owner : IsTrue (contains S.sessions (session, user))
  absent : contains S.active (session, role) ≡ false
  authorized : IsTrue (is_authorized S user role)
  room : len (active_roles S session) + 1 ≤ limit_of ActiveRole S.version

-- the role can be activated if no refusal applies
can_activate : (S : RbacState) (user session role : Bytes) → first (add_active_role_refusals S user session role) ≡ None → CanActivate S user session role
can_activate S user session role accepted = search (passed (add_active_role_refusals S user session role) accepted, refuse_if-None, refuse_unless-None, too_many-None)

module _ (S : RbacState) (user session role : Bytes) (accepted : verdict S (AddActiveRole user session role) ≡ None) where
  -- the conditions, and that no dynamic set is named
  activated : CanActivate S user session role × (violates_dynamic (after S (AddActiveRole user session role)) ≡ None)
  unfolding verdict refusals
  activated =
      let parts = all_but_last (add_active_role_refusals S user session role) (violates_dynamic (after S (AddActiveRole user session role))) accepted in
      (can_activate S user session role parts.0, parts.1)

  -- the role wasn't activated in the session
  pub add_active_role_absent : contains S.active (session, role) ≡ false
  add_active_role_absent = activated.0.absent

  module _ (good : IsGood S) where
    -- the activated roles after it
    one_more_active : Pairs
    one_more_active = insert S.active (session, role)

    -- the sessions may go on
    activated_go_on : (p : Pair) → IsTrue (contains S.sessions p) → IsTrue (may_go_on (with_sessions S S.sessions one_more_active) p)
    unfolding one_more_active more_active
    activated_go_on = activated_goes_on S good user session role activated.0.owner activated.0.authorized

    -- and each activated role belongs to one of them
    activated_are_owned : (other q : Bytes) → IsTrue (contains one_more_active (other, q)) → (owner : Bytes) × IsTrue (contains S.sessions (other, owner))
    unfolding one_more_active more_active
    activated_are_owned = activated_owned S good user session role activated.0.owner activated.0.authorized

    -- what is activated is a role
    activated_are_roles : (other q : Bytes) → IsTrue (contains one_more_active (other, q)) → IsTrue (contains S.roles q)
    unfolding one_more_active
    activated_are_roles other q h = elim ((contains-insert-Decides pair_total pair_exact S.active (session, role) (other, q)).0 h) [
      | inl same ↦ ap (λ (p : Pair). contains S.roles p.1) same ∙ activated.0.is_role
      | inr old ↦ good.well_formed.active other q old
    ]

    -- no session has more than the limit of activated roles
    activated_room : (other : Bytes) → len (seconds one_more_active other) ≤ limit_of ActiveRole S.version
    unfolding one_more_active
    activated_room other = elim (same_or_other other session) [
      | inl same ↦ subst (λ s. len (seconds (insert S.active (session, role)) s) ≤ limit_of ActiveRole S.version) (sym same)
          (subst (λ (s : Names). len s ≤ limit_of ActiveRole S.version) (sym (with_one-own S.active session role))
          (one_more_within name_total (active_roles S session) role _ activated.0.room))
      | inr apart ↦ subst (λ (s : Names). len s ≤ limit_of ActiveRole S.version) (sym (with_one-others S.active session role other apart)) (good.limits.active_roles other)
    ]

    -- the changed state is good
    good_changed_activate : IsGood (changed S (AddActiveRole user session role))
    unfolding changed after one_more_active with_sessions
    good_changed_activate = good_with_sessions S good S.sessions one_more_active (record {
      going = activated_go_on;
      one_owner = good.well_formed.one_owner;
      roles = activated_are_roles;
      owned = activated_are_owned;
      separated = separated_where (with_sessions S S.sessions one_more_active) (none_ends_where (with_sessions S S.sessions one_more_active) activated_go_on activated_are_owned) activated.1;
      sessions_room = good.limits.sessions;
      active_room = activated_room;
    })

-- no session ends
pub after_add_active_role : (S : RbacState) → IsGood S → (user session role : Bytes) → verdict S (AddActiveRole user session role) ≡ None →
    after S (AddActiveRole user session role) ≡ changed S (AddActiveRole user session role)
after_add_active_role S good user session role accepted = after_is_changed S (AddActiveRole user session role) (good_changed_activate S user session role accepted good)

-- the state after it is good
pub good_after_add_active_role : (S : RbacState) → IsGood S → (user session role : Bytes) → verdict S (AddActiveRole user session role) ≡ None →
    IsGood (after S (AddActiveRole user session role))
good_after_add_active_role S good user session role accepted = good_after S (AddActiveRole user session role) (good_changed_activate S user session role accepted good)
