-- A new session, and a role that is activated in one: no session ends, and only this one can violate a dynamic set.
use Rattle.std.proofs.Common.{◌≡◌, ◌≢◌, ◌<◌, false, not, ◌||◌, refl, sym, ◌∙◌, ap, subst, inl, inr}
use Rattle.std.specs.Prelude.{IsTrue, count_by}
use Rattle.std.specs.Option.{option_map}
use Rattle.std.proofs.lemmas.Bool.{and_from, or_cases, true≢false}
use Rattle.rbac_sets.specs.Sets.{Bytes, Pair, Pairs, Names, name_cmp, same_name, contains, members, insert, union, seconds, any, all}
use Rattle.rbac_sets.specs.SortedSet.{Stored, set_of}
use Rattle.rbac_sets.specs.NameOrder.{name_total, name_exact, pair_total, pair_exact}
use Rattle.rbac_sets.specs.declared.command.Command.TheVariants.{CreateSession, AddActiveRole}
use Rattle.rbac_sets.specs.declared.refusal.Refusal.TheVariants.{DynamicSeparation}
use Rattle.rbac_sets.proofs.SetLaws.{tie_Decides, contains-union, contains-insert-Decides, any-Decides, all-Decides, seconds-Decides}
use Rattle.role_order.specs.Order.{geq}
use Rattle.role_order.proofs.Members.{same_or_other}
use Rattle.admin_mgr.specs.RbacState.{RbacState, has_session}
use Rattle.admin_mgr.specs.Authorization.{authorized_users, is_authorized, is_session_role}
use Rattle.admin_mgr.specs.Separation.{is_kept_dynamically}
use Rattle.admin_mgr.specs.Refusals.{violates_dynamic}
use Rattle.admin_mgr.specs.Assignment.{may_go_on, end_sessions}
use Rattle.admin_mgr.specs.After.{paired, changed, after}
use Rattle.admin_mgr.specs.Good.{IsGood}
use Rattle.admin_mgr.specs.private.HolderRoles.{run_of, is_reached, is_reached_from, has_all, has_with, naming_first}
use Rattle.admin_mgr.proofs.Verdicts.AuthorizationLaws.{session_reached, session_members_count}
use Rattle.admin_mgr.proofs.StateAfter.SessionLaws.{none_ends_where}
use Rattle.admin_mgr.proofs.Verdicts.TouchLaws.{any_insert, one_more, violated_by, with_sessions, OthersStay, session_violates}
use Rattle.admin_mgr.proofs.Verdicts.ViolationLaws.{paired-Decides, with_paired-others, with_paired-own, with_one-others, with_one-own}

-- a session may go on if its user is there, not locked, and authorized for the roles activated in it
may_go : (S : RbacState) (sessions active : Pairs) (p : Pair) → IsTrue (contains S.users p.1) → contains S.locked p.1 ≡ false →
    ((role : Bytes) → IsTrue (contains (seconds active p.0) role) → IsTrue (is_authorized S p.1 role)) → IsTrue (may_go_on (with_sessions S sessions active) p)
unfolding may_go_on with_sessions authorized_users
may_go S sessions active p is_user unlocked each = and_from _ _ (and_from _ _ is_user (ap not unlocked))
    ((all-Decides name_total name_exact (is_authorized S p.1) (seconds active p.0)).1 each)

-- ---- a new session

module _ (S : RbacState) (good : IsGood S) (user : Bytes) (roles : Names) (session : Bytes) (new : has_session S session ≡ false) where
  unfoldable pub created_sessions : Pairs
  created_sessions = insert S.sessions (session, user)

  unfoldable pub created_active : Pairs
  created_active = union S.active (paired session roles)

  pub not_new : (other owner : Bytes) → IsTrue (contains S.sessions (other, owner)) → other ≢ session
  not_new other owner there same = true≢false
      (sym ((any-Decides pair_total pair_exact (λ (pair : Pair). same_name pair.0 session) S.sessions).1 ((other, owner), there, (tie_Decides name_total name_exact other session).1 same)) ∙ new)

  pub none_active : (role : Bytes) → IsTrue (contains S.active (session, role)) → ⊥
  none_active role active = let owner = good.well_formed.owned session role active in not_new session owner.0 owner.1 refl

  others_created : OthersStay S created_sessions created_active session
  unfolding created_sessions created_active
  others_created other owner there = elim ((contains-insert-Decides pair_total pair_exact S.sessions (session, user) (other, owner)).0 there) [
    | inl same ↦ inl (ap (λ (p : Pair). p.0) same)
    | inr old ↦ inr (old, with_paired-others S.active session roles other (not_new other owner old))
  ]

  pub created_goes_on : IsTrue (contains S.users user) → contains S.locked user ≡ false → IsTrue (all (is_authorized S user) roles) → (p : Pair) → IsTrue (contains created_sessions p) →
      IsTrue (may_go_on (with_sessions S created_sessions created_active) p)
  unfolding created_sessions created_active
  created_goes_on is_user unlocked authorized p there = elim ((contains-insert-Decides pair_total pair_exact S.sessions (session, user) p).0 there) [
    | inl same ↦ subst (λ p. IsTrue (may_go_on (with_sessions S created_sessions created_active) p)) (sym same)
        (may_go S created_sessions created_active (session, user) is_user unlocked (λ role h.
        (all-Decides name_total name_exact (is_authorized S user) roles).0 authorized role (subst (λ s. IsTrue (contains s role)) (with_paired-own S.active session roles none_active) h)))
    | inr old ↦ may_go S created_sessions created_active p (good.well_formed.sessions p.0 p.1 old) (good.unlocked p.0 p.1 old) (λ role h.
        good.authorized p.0 p.1 role old ((seconds-Decides S.active p.0 role).0 (subst (λ s. IsTrue (contains s role)) (with_paired-others S.active session roles p.0 (not_new p.0 p.1 old)) h)))
  ]

  pub created_owned : (other role : Bytes) → IsTrue (contains created_active (other, role)) → (owner : Bytes) × IsTrue (contains created_sessions (other, owner))
  unfolding created_sessions created_active
  created_owned other role active = elim (or_cases _ _ (sym (contains-union pair_total pair_exact S.active (paired session roles) (other, role)) ∙ active)) [
    | inl old ↦ (let owner = good.well_formed.owned other role old in (owner.0, (contains-insert-Decides pair_total pair_exact S.sessions (session, user) (other, owner.0)).1 (inr owner.1)))
    | inr own ↦ (user, (contains-insert-Decides pair_total pair_exact S.sessions (session, user) (other, user)).1 (inl (λ i. (((paired-Decides session roles other role).0 own).0 i, user))))
  ]

  pub created_roles : (q : Bytes) → is_session_role (with_sessions S created_sessions created_active) session q ≡ is_reached_from S.edges (members roles) q
  unfolding created_sessions created_active with_sessions any
  created_roles q = ap (any (λ a. geq S.edges a q)) (with_paired-own S.active session roles none_active)

  created_violates : IsTrue (contains S.users user) → contains S.locked user ≡ false → IsTrue (all (is_authorized S user) roles) →
      violates_dynamic (end_sessions (with_sessions S created_sessions created_active)) ≡ naming_first DynamicSeparation (has_all S.edges (members roles)) S.dsd
  unfolding created_sessions created_active with_sessions
  created_violates is_user unlocked authorized =
      ap violates_dynamic (none_ends_where (with_sessions S created_sessions created_active) (created_goes_on is_user unlocked authorized) created_owned)
      ∙ ap (option_map DynamicSeparation) (violated_by (is_kept_dynamically (with_sessions S created_sessions created_active)) S.dsd _
      (session_violates S good created_sessions created_active session user ((contains-insert-Decides pair_total pair_exact S.sessions (session, user) (session, user)).1 (inl refl)) others_created
      (is_reached_from S.edges (members roles)) created_roles))

pub create_session : (S : RbacState) → IsGood S → (user : Bytes) (roles : Stored Bytes) (session : Bytes) → has_session S session ≡ false →
    IsTrue (contains S.users user) → contains S.locked user ≡ false → IsTrue (all (is_authorized S user) (set_of name_cmp roles)) →
    violates_dynamic (after S (CreateSession user roles session)) ≡ naming_first DynamicSeparation (has_all S.edges (members (set_of name_cmp roles))) S.dsd
unfolding after changed created_sessions created_active with_sessions
create_session S good user roles session new is_user unlocked authorized = created_violates S good user (set_of name_cmp roles) session new is_user unlocked authorized

-- ---- a role is activated

module _ (S : RbacState) (good : IsGood S) (user session role : Bytes) (owner : IsTrue (contains S.sessions (session, user))) (authorized : IsTrue (is_authorized S user role)) where
  unfoldable pub more_active : Pairs
  more_active = insert S.active (session, role)

  others_stay : OthersStay S S.sessions more_active session
  unfolding more_active
  others_stay other owner there = elim (same_or_other other session) [
    | inl same ↦ inl same
    | inr apart ↦ inr (there, with_one-others S.active session role other apart)
  ]

  pub activated_goes_on : (p : Pair) → IsTrue (contains S.sessions p) → IsTrue (may_go_on (with_sessions S S.sessions more_active) p)
  unfolding more_active
  activated_goes_on p there = may_go S S.sessions more_active p (good.well_formed.sessions p.0 p.1 there) (good.unlocked p.0 p.1 there) (λ q h.
      elim ((contains-insert-Decides pair_total pair_exact S.active (session, role) (p.0, q)).0 ((seconds-Decides more_active p.0 q).0 h)) [
        | inl same ↦
            let at : p.0 ≡ session = ap (λ (x : Pair). x.0) same in
            let one : user ≡ p.1 = good.well_formed.one_owner session user p.1 owner (subst (λ s. IsTrue (contains S.sessions (s, p.1))) at there) in
            subst (λ u. IsTrue (is_authorized S u q)) one (subst (λ r. IsTrue (is_authorized S user r)) (sym (ap (λ (x : Pair). x.1) same)) authorized)
        | inr old ↦ good.authorized p.0 p.1 q there old
      ])

  pub activated_owned : (other q : Bytes) → IsTrue (contains more_active (other, q)) → (u : Bytes) × IsTrue (contains S.sessions (other, u))
  unfolding more_active
  activated_owned other q active = elim ((contains-insert-Decides pair_total pair_exact S.active (session, role) (other, q)).0 active) [
    | inl same ↦ (user, subst (λ s. IsTrue (contains S.sessions (s, user))) (sym (ap (λ (x : Pair). x.0) same)) owner)
    | inr old ↦ good.well_formed.owned other q old
  ]

  activated_roles : (q : Bytes) → is_session_role (with_sessions S S.sessions more_active) session q ≡ (is_reached S.edges (run_of S.active session) q || geq S.edges role q)
  unfolding more_active with_sessions
  activated_roles q =
      ap (any (λ a. geq S.edges a q)) (with_one-own S.active session role)
      ∙ any_insert (λ a. geq S.edges a q) (seconds S.active session) role
      ∙ ap (λ b. b || geq S.edges role q) (session_reached S session q)

  pub activated_violates :
      violates_dynamic (after S (AddActiveRole user session role)) ≡ naming_first DynamicSeparation (has_with S.edges (run_of S.active session) role) S.dsd
  unfolding after changed more_active with_sessions
  activated_violates =
      ap violates_dynamic (none_ends_where (with_sessions S S.sessions more_active) activated_goes_on activated_owned)
      ∙ ap (option_map DynamicSeparation) (violated_by (is_kept_dynamically (with_sessions S S.sessions more_active)) S.dsd _ (λ x there.
      let before : count_by (λ (m : Pair). is_reached S.edges (run_of S.active session) m.1) (run_of S.dsd.members x.0) < x.1 =
      subst (λ k. k < x.1) (session_members_count S session S.dsd.members x.0) (good.dynamic_separation x.0 session user x.1 there owner) in
      session_violates S good S.sessions more_active session user owner others_stay (λ q. is_reached S.edges (run_of S.active session) q || geq S.edges role q) activated_roles x there
      ∙ sym (one_more (λ (m : Pair). is_reached S.edges (run_of S.active session) m.1) (λ (m : Pair). geq S.edges role m.1) (run_of S.dsd.members x.0) x.1 before)))
