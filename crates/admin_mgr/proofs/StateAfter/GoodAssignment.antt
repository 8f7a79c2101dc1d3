-- An accepted assignment leads from a good state to a good one, and no session ends.
use Rattle.std.proofs.Common.{◌≡◌, ◌+◌, ◌≤◌, false, not, refl, sym, ◌∙◌, ap, subst, inl, inr}
use Rattle.std.specs.Prelude.{IsTrue, None}
use Rattle.std.proofs.lemmas.Bool.{and_from}
use Rattle.rbac_sets.specs.Sets.{Bytes, Pair, contains, insert, len}
use Rattle.rbac_sets.specs.NameOrder.{name_total, name_exact, pair_total, pair_exact}
use Rattle.rbac_sets.specs.Kind.{limit_of}
use Rattle.rbac_sets.specs.declared.command.Command.TheVariants.{AssignUser}
use Rattle.rbac_sets.specs.declared.kind.Kind.TheVariants.{Assignment}
use Rattle.rbac_sets.specs.declared.refusal.Refusal.TheVariants.{NoUser, NoRole, AlreadyAssigned, StaticSeparation}
use Rattle.rbac_sets.proofs.SetLaws.{contains-insert-Decides, all-Decides, seconds-Decides}
use Rattle.admin_mgr.specs.RbacState.{RbacState, active_roles}
use Rattle.admin_mgr.specs.Authorization.{authorized_users, is_authorized}
use Rattle.admin_mgr.specs.Separation.{is_kept_statically, static_violation}
use Rattle.admin_mgr.specs.Assignment.{may_go_on, end_sessions, after_assignment, assignment_refusals, assignment_verdict}
use Rattle.admin_mgr.specs.After.{changed, after}
use Rattle.admin_mgr.specs.Verdict.{verdict, refusals}
use Rattle.admin_mgr.specs.Good.{IsGood, IsWellFormed}
use Rattle.admin_mgr.proofs.Verdicts.SeparationLaws.{unmapped, static_test}
use Rattle.admin_mgr.proofs.StateAfter.SessionLaws.{none_ends_where}
use Rattle.admin_mgr.proofs.StateAfter.LimitLaws.{too_many-None, one_more_within}
use Rattle.admin_mgr.proofs.Verdicts.TouchLaws.{with_assignment, authorized-assigned}
use Rattle.admin_mgr.proofs.Verdicts.VerdictLaws.{AllPassed, passed, refuse_if-None, refuse_unless-None}

-- the conditions that an accepted assignment meets
module _ (S : RbacState) (pair : Pair) (accepted : assignment_verdict S pair ≡ None) where
  -- no refusal applies
  all_passed : AllPassed (assignment_refusals S pair)
  unfolding assignment_verdict
  all_passed = passed (assignment_refusals S pair) accepted

  -- the user is there
  pub assigned_user : IsTrue (contains S.users pair.0)
  unfolding assignment_refusals
  assigned_user = refuse_unless-None (contains S.users pair.0) NoUser all_passed.0

  -- the role is there
  pub assigned_role : IsTrue (contains S.roles pair.1)
  unfolding assignment_refusals
  assigned_role = refuse_unless-None (contains S.roles pair.1) NoRole all_passed.1.0

  -- the pair is new
  pub not_assigned : contains S.assignments pair ≡ false
  unfolding assignment_refusals
  not_assigned = refuse_if-None (contains S.assignments pair) AlreadyAssigned all_passed.1.1.0

  -- the assignments stay within their limit
  pub room_for_assignment : len S.assignments + 1 ≤ limit_of Assignment S.version
  unfolding assignment_refusals
  room_for_assignment = too_many-None S Assignment (len S.assignments + 1) all_passed.1.1.1.0

  -- no static set is violated with it
  none_violated : static_violation (with_assignment S pair) ≡ None
  unfolding assignment_refusals after_assignment end_sessions is_kept_statically authorized_users with_assignment
  none_violated = (unmapped StaticSeparation (static_violation (with_assignment S pair))).0 all_passed.1.1.1.1.0

module _ (S : RbacState) (good : IsGood S) (pair : Pair) (accepted : assignment_verdict S pair ≡ None) where
  -- with one more assignment, nobody is authorized for less
  still_authorized : (user role : Bytes) → IsTrue (is_authorized S user role) → IsTrue (is_authorized (with_assignment S pair) user role)
  still_authorized user role h = (authorized-assigned S pair.0 pair.1 user role).1 (inl h)

  -- so each session may go on
  assigned_goes_on : (p : Pair) → IsTrue (contains S.sessions p) → IsTrue (may_go_on (with_assignment S pair) p)
  unfolding may_go_on with_assignment
  assigned_goes_on p there = and_from _ _ (and_from _ _ (good.well_formed.sessions p.0 p.1 there) (ap not (good.unlocked p.0 p.1 there)))
      ((all-Decides name_total name_exact (is_authorized (with_assignment S pair) p.1) (active_roles S p.0)).1 (λ role active.
      still_authorized p.1 role (good.authorized p.0 p.1 role there ((seconds-Decides S.active p.0 role).0 active))))

  -- the state has one more assignment, and no session ends
  pub after_assignment_is : after_assignment S pair ≡ record S { assignments = insert S.assignments pair }
  unfolding after_assignment with_assignment
  after_assignment_is = none_ends_where (with_assignment S pair) assigned_goes_on good.well_formed.owned

  -- what the relations refer to is there
  well_formed_with : IsWellFormed (with_assignment S pair)
  unfolding with_assignment
  well_formed_with =
      let formed = good.well_formed in
      let assigned : (user role : Bytes) → IsTrue (contains (insert S.assignments pair) (user, role)) → IsTrue (contains S.users user) × IsTrue (contains S.roles role) =
      λ user role h. elim ((contains-insert-Decides pair_total pair_exact S.assignments pair (user, role)).0 h) [
        | inl same ↦ (ap (λ (p : Pair). contains S.users p.0) same ∙ assigned_user S pair accepted, ap (λ (p : Pair). contains S.roles p.1) same ∙ assigned_role S pair accepted)
        | inr old ↦ formed.assignments user role old
      ] in
      assumption

  -- the state with the assignment is good
  pub good_with_assignment : IsGood (with_assignment S pair)
  unfolding with_assignment
  good_with_assignment =
      let formed = well_formed_with in
      let static = (static_test (with_assignment S pair) formed).0 (none_violated S pair accepted) in
      let authorized : (session user role : Bytes) → IsTrue (contains S.sessions (session, user)) → IsTrue (contains S.active (session, role)) → IsTrue (is_authorized (with_assignment S pair) user role) =
      λ session user role owner active. still_authorized user role (good.authorized session user role owner active) in
      let room = one_more_within pair_total S.assignments pair _ (room_for_assignment S pair accepted) in
      assumption

  -- and it is good
  pub good_assignment : IsGood (after_assignment S pair)
  unfolding with_assignment
  good_assignment = subst IsGood (sym after_assignment_is) good_with_assignment

-- ---- the command

module _ (S : RbacState) (good : IsGood S) (user role : Bytes) (accepted : verdict S (AssignUser user role) ≡ None) where
  -- the command is judged as one assignment
  is_verdict : verdict S (AssignUser user role) ≡ assignment_verdict S (user, role)
  unfolding verdict refusals assignment_verdict
  is_verdict = refl

  -- there is one more assignment, and no session ends
  pub after_assign_user : after S (AssignUser user role) ≡ changed S (AssignUser user role)
  unfolding after changed after_assignment
  after_assign_user = after_assignment_is S good (user, role) (sym is_verdict ∙ accepted)

  -- and the state is good
  pub good_after_assign_user : IsGood (after S (AssignUser user role))
  unfolding after changed after_assignment
  good_after_assign_user = good_assignment S good (user, role) (sym is_verdict ∙ accepted)

  -- the pair was not assigned before
  pub new_assignment : contains S.assignments (user, role) ≡ false
  new_assignment = not_assigned S (user, role) (sym is_verdict ∙ accepted)
