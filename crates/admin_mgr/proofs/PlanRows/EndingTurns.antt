-- The changes of the core RBAC commands that may end sessions turn the rows of a good state into those of the state after.
use Rattle.std.proofs.Common.{◌≡◌, Bool, true, false, not, ◌||◌, List, [], ◌∷◌, ◌++◌, refl, sym, ◌∙◌, ap, subst, inl, inr}
use Rattle.std.specs.Prelude.{IsTrue, None, filter, if◌then◌else◌}
use Rattle.std.specs.Ordering.{eq_by_cmp}
use Rattle.std.proofs.lemmas.Bool.{and_parts, or_cases, true≢false, false_from_ne_true}
use Rattle.rbac_sets.specs.Sets.{Bytes, Names, Pair, Triple, contains, insert, remove, members, same_name, name_cmp}
use Rattle.rbac_sets.specs.NameOrder.{name_total, name_exact, pair_total, pair_exact, triple_total, triple_exact}
use Rattle.rbac_sets.proofs.SetLaws.{contains-insert, tie_Decides, same_set}
use Rattle.rbac_sets.specs.declared.command.Command.TheVariants.{DeleteUser, DeleteRole, DeassignUser, LockUserAccount}
use Rattle.rbac_sets.specs.declared.refusal.Refusal.TheVariants.{NoUser, NoRole, NotAssigned}
use Rattle.rbac_sets.specs.declared.row.Row.TheVariants.{NameRow, PairRow, LockedRow}
use Rattle.rbac_sets.specs.declared.row.TheConstants.Row.{USER, ROLE, ASSIGNMENT}
use Rattle.rbac_sets.specs.declared.row.Change.{Change}
use Rattle.rbac_sets.specs.declared.row.Change.TheVariants.{Put, Take}
use Rattle.admin_mgr.specs.RbacState.{RbacState}
use Rattle.admin_mgr.specs.Rows.{has_row}
use Rattle.admin_mgr.specs.private.HolderRoles.{run_of}
use Rattle.admin_mgr.specs.Assignment.{may_go_on, end_sessions}
use Rattle.admin_mgr.specs.After.{changed, after}
use Rattle.admin_mgr.specs.Verdict.{verdict, refusals}
use Rattle.admin_mgr.specs.private.SessionContinuation.{goes_on_without_role}
use Rattle.admin_mgr.specs.Changes.{same_row, is_put, is_taken, Turns}
use Rattle.admin_mgr.specs.private.PlanChanges.{pair_row, grant_row, take_all, ended_rows, lock_rows, new_lock_rows}
use Rattle.admin_mgr.specs.Good.{IsGood}
use Rattle.admin_mgr.proofs.PlanRows.CommitLaws.{same_row-is}
use Rattle.admin_mgr.proofs.Verdicts.VerdictLaws.{passed, refuse_unless-None}
use Rattle.admin_mgr.proofs.PlanRows.EndingLaws.{goes_on_delete_user, goes_on_lock_user_account, goes_on_deassign_user, goes_on_delete_role}
use Rattle.admin_mgr.proofs.PlanRows.RunLaws.{steps_take_any, steps_take_one, steps_take_some, steps_put_one}
use Rattle.admin_mgr.proofs.PlanRows.SetRows.{user_rows, role_rows, locked_rows, assignment_rows, grant_rows}
use Rattle.admin_mgr.proofs.PlanRows.EndedRows.{steps_ended, steps_end_sessions, ended_rows-same}
use Rattle.admin_mgr.proofs.PlanRows.StepLaws.Way.{taking}
use Rattle.admin_mgr.proofs.PlanRows.StepLaws.{Steps, steps_nothing, steps_append, steps_to}
use Rattle.admin_mgr.proofs.PlanRows.TurnLaws.{turns_taking, turns_both, AreApart}

-- ---- names that are in a set already, and names that may be

-- inserting a name that is there changes nothing
keeps-insert : (s : Names) (x : Bytes) → contains s x ≡ true → insert s x ≡ s
keeps-insert s x there = same_set name_total name_exact _ _ (λ y. contains-insert name_total s x y ∙ by y (eq_by_cmp name_cmp y x) refl)
  where
    by : (y : Bytes) (b : Bool) → eq_by_cmp name_cmp y x ≡ b → (b || contains s y) ≡ contains s y
    by y true same = sym (ap (contains s) ((tie_Decides name_total name_exact y x).0 same) ∙ there)
    by y false other = refl

-- the lock of a user is removed, if there is one
pub steps_take_lock : (S : RbacState) (user : Bytes) → Steps taking S (lock_rows S user) (record S { locked = remove S.locked user })
steps_take_lock S user = steps_take_any locked_rows name_total name_exact S user

-- ---- sessions end whose active roles are no longer authorized

-- Rows are removed, and then those of the sessions that fail the test: if the test holds exactly of the sessions that may go
-- on, this leads to the state in which the others have ended.
pub steps_losing :
    {S M : RbacState} {changes : List Change} (stays : Pair → Bool)
    → ((session role : Bytes) → IsTrue (contains M.active (session, role)) → (user : Bytes) × IsTrue (contains M.sessions (session, user)))
    → ((session user other : Bytes) → IsTrue (contains M.sessions (session, user)) → IsTrue (contains M.sessions (session, other)) → user ≡ other)
    → ((session : Pair) → IsTrue (contains M.sessions session) → may_go_on M session ≡ stays session)
    → Steps taking S changes M → Steps taking S (changes ++ ended_rows M stays) (end_sessions M)
steps_losing {S} {M} {changes} stays owned one_owner same steps = steps_append steps
    (subst (λ (rows : List Change). Steps taking M rows (end_sessions M)) (ended_rows-same M (may_go_on M) stays same) (steps_end_sessions M owned one_owner))

module _ (S : RbacState) (good : IsGood S) where
  -- a user is deleted with its lock, its assignments and its sessions
  pub turns_delete_user : (user : Bytes) → verdict S (DeleteUser user) ≡ None →
      Turns S ((((Take (NameRow USER user) ∷ []) ++ lock_rows S user) ++ take_all (pair_row ASSIGNMENT) (run_of S.assignments user)) ++ ended_rows S (λ session. not (same_name session.1 user))) (after S (DeleteUser user))
  unfolding after changed verdict refusals
  turns_delete_user user accepted =
      let is_user : contains S.users user ≡ true = refuse_unless-None (contains S.users user) NoUser (passed (refusals S (DeleteUser user)) accepted).0 in
      let without_name : RbacState = record S { users = remove S.users user } in
      let without_lock : RbacState = record without_name { locked = remove S.locked user } in
      turns_taking (steps_losing (λ session. not (same_name session.1 user)) good.well_formed.owned good.well_formed.one_owner
      (λ session there. goes_on_delete_user S good session there user)
      (steps_append (steps_append (steps_take_one user_rows S user is_user) (steps_take_lock without_name user))
      (steps_take_some assignment_rows pair_total pair_exact without_lock (λ (pair : Pair). same_name pair.0 user))))

  -- a role is deleted with its assignments, its grants, and the sessions that depended on it
  pub turns_delete_role : (role : Bytes) → verdict S (DeleteRole role) ≡ None →
      Turns S ((((Take (NameRow ROLE role) ∷ []) ++ take_all (pair_row ASSIGNMENT) (filter (λ (pair : Pair). same_name pair.1 role) (members S.assignments)))
      ++ take_all grant_row (filter (λ (grant : Triple). same_name grant.2 role) (members S.grants))) ++ ended_rows S (goes_on_without_role S role)) (after S (DeleteRole role))
  unfolding after changed verdict refusals
  turns_delete_role role accepted =
      let is_role : contains S.roles role ≡ true = refuse_unless-None (contains S.roles role) NoRole (passed (refusals S (DeleteRole role)) accepted).0 in
      let without_name : RbacState = record S { roles = remove S.roles role } in
      turns_taking (steps_losing (goes_on_without_role S role) good.well_formed.owned good.well_formed.one_owner
      (λ session there. goes_on_delete_role S good session there role)
      (steps_append (steps_append (steps_take_one role_rows S role is_role) (steps_take_some assignment_rows pair_total pair_exact without_name (λ (pair : Pair). same_name pair.1 role)))
      (steps_take_some grant_rows triple_total triple_exact _ (λ (grant : Triple). same_name grant.2 role))))

  -- an assignment is removed, with the sessions of its user that depended on it
  pub turns_deassign_user : (user role : Bytes) → verdict S (DeassignUser user role) ≡ None →
      Turns S ((Take (PairRow ASSIGNMENT user role) ∷ []) ++ ended_rows S (λ session. not (same_name session.1 user) || goes_on_without_role S role session)) (after S (DeassignUser user role))
  unfolding after changed verdict refusals
  turns_deassign_user user role accepted =
      let is_assigned : contains S.assignments (user, role) ≡ true =
      refuse_unless-None (contains S.assignments (user, role)) NotAssigned (passed (refusals S (DeassignUser user role)) accepted).1.1.0 in
      turns_taking (steps_losing (λ session. not (same_name session.1 user) || goes_on_without_role S role session) good.well_formed.owned good.well_formed.one_owner
      (λ session there. goes_on_deassign_user S good session there user role)
      (steps_take_one assignment_rows S (user, role) is_assigned))

  -- the sessions of a user end, and the user is locked
  pub turns_lock_user_account : (user : Bytes) → Turns S (ended_rows S (λ session. not (same_name session.1 user)) ++ new_lock_rows S user) (after S (LockUserAccount user))
  unfolding after changed end_sessions has_row is_put
  turns_lock_user_account user = by (contains S.locked user) refl
    where
      -- the state with the lock, before sessions end
      locked : RbacState
      locked = changed S (LockUserAccount user)

      -- the state after sessions have ended, without the lock
      ended : RbacState
      ended = record (after S (LockUserAccount user)) { locked = S.locked }

      -- the sessions of other users go on
      stays : Pair → Bool
      stays session = not (same_name session.1 user)

      -- removing the rows of the user's sessions leads there
      steps : Steps taking S (ended_rows S stays) ended
      steps = subst (λ (rows : List Change). Steps taking S rows ended)
          (ended_rows-same S (may_go_on locked) stays (λ session there. goes_on_lock_user_account S good session there user))
          (steps_ended S good.well_formed.owned good.well_formed.one_owner (may_go_on locked))

      -- no removed row is the lock that is inserted
      apart : contains S.locked user ≡ false → AreApart (ended_rows S stays) (Put (LockedRow user) ∷ [])
      apart absent row = false_from_ne_true _ (λ h.
          let parts = and_parts (is_taken (ended_rows S stays) row) (is_put (Put (LockedRow user) ∷ []) row) h in
          elim (or_cases (same_row (LockedRow user) row) false parts.1) [
            | inl same ↦ true≢false (sym ((turns_taking steps).there row parts.0) ∙ ap (has_row S) (same_row-is (LockedRow user) row same) ∙ absent)
            | inr none ↦ true≢false (sym none)
          ])

      -- if the user is locked already, no row is inserted
      by : (b : Bool) → contains S.locked user ≡ b → Turns S (ended_rows S stays ++ (if b then [] else Put (LockedRow user) ∷ [])) (after S (LockUserAccount user))
      by true there = turns_taking (steps_append steps (steps_to (steps_nothing ended) (λ i. record ended { locked = sym (keeps-insert S.locked user there) i })))
      by false absent = turns_both steps (steps_put_one locked_rows ended user absent) (apart absent)
