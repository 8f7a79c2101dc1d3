-- The plans that remove an object, a permission, a grant, a lock, a session or an activated role: they remove rows.
use Rattle.std.proofs.Common.{◌≡◌, Bool, not, ◌&&◌, ◌∷◌, refl}
use Rattle.std.specs.Prelude.{IsTrue, None, filter}
use Rattle.std.specs.declared.cmp.Ordering.{Ordering}
use Rattle.std.specs.declared.cmp.Ordering.TheVariants.{Less, Equal, Greater}
use Rattle.std.specs.Ordering.{eq_by_cmp, is_eq, ordering_then}
use Rattle.rbac_sets.specs.Sets.{Bytes, Triple, name_cmp, pair_cmp, same_name, contains, remove, retain, members}
use Rattle.rbac_sets.specs.NameOrder.{name_total, name_exact, triple_total, triple_exact}
use Rattle.rbac_sets.specs.declared.command.Command.TheVariants.{DeletePermObj, DeletePermission, RevokePermission, DeleteSession, DropActiveRole, UnlockUserAccount}
use Rattle.rbac_sets.specs.declared.refusal.Refusal.TheVariants.{NoObject, NoPermission, NotGranted, NotOwner, NotActive}
use Rattle.rbac_sets.specs.declared.row.Row.TheVariants.{NameRow, PairRow, GrantRow}
use Rattle.rbac_sets.specs.declared.row.TheConstants.Row.{OBJECT, PERMISSION, ACTIVATED_ROLE}
use Rattle.rbac_sets.specs.declared.row.Change.TheVariants.{Take}
use Rattle.admin_mgr.specs.RbacState.{RbacState}
use Rattle.admin_mgr.specs.Run.{tally}
use Rattle.admin_mgr.specs.After.{changed}
use Rattle.admin_mgr.specs.Verdict.{verdict, refusals}
use Rattle.admin_mgr.specs.Good.{IsGood}
use Rattle.admin_mgr.specs.private.PlanChanges.{grant_row, take_all, session_rows, lock_rows}
use Rattle.admin_mgr.proofs.Verdicts.VerdictLaws.{passed, refuse_unless-None}
use Rattle.admin_mgr.proofs.StateAfter.RemovalLaws.{after_delete_perm_obj, good_after_delete_perm_obj, after_delete_permission, good_after_delete_permission, after_revoke_permission, good_after_revoke_permission, after_delete_session, good_after_delete_session, after_drop_active_role, good_after_drop_active_role, after_unlock_user_account, good_after_unlock_user_account}
use Rattle.admin_mgr.proofs.PlanRows.StepLaws.{steps_append, steps_to}
use Rattle.admin_mgr.proofs.PlanRows.RunLaws.{steps_take_any, steps_take_one, steps_take_some}
use Rattle.admin_mgr.proofs.PlanRows.SetRows.{object_rows, permission_rows, grant_rows, active_rows, locked_rows}
use Rattle.admin_mgr.proofs.PlanRows.EndedRows.{steps_end_one}
use Rattle.admin_mgr.proofs.PlanRows.PlainPlans.{IsDoneBy, IsDoneByOne, done_by, done_by_one}

-- ---- an object

-- the object is there
delete_perm_obj_there : (S : RbacState) (object : Bytes) → verdict S (DeletePermObj object) ≡ None → IsTrue (contains S.objects object)
unfolding verdict refusals
delete_perm_obj_there S object accepted = refuse_unless-None (contains S.objects object) NoObject (passed (refusals S (DeletePermObj object)) accepted).0

pub done_delete_perm_obj : (S : RbacState) → IsGood S → (object : Bytes) → verdict S (DeletePermObj object) ≡ None → IsDoneByOne S (DeletePermObj object) Take (NameRow OBJECT object)
unfolding tally changed
done_delete_perm_obj S good object accepted = done_by_one S (DeletePermObj object) refl (after_delete_perm_obj S good object) (good_after_delete_perm_obj S good object accepted) refl
    Take (NameRow OBJECT object) (steps_take_one object_rows S object (delete_perm_obj_there S object accepted))

-- ---- a permission

-- the permission is there
delete_permission_there : (S : RbacState) (object operation : Bytes) → verdict S (DeletePermission object operation) ≡ None → IsTrue (contains S.permissions (object, operation))
unfolding verdict refusals
delete_permission_there S object operation accepted = refuse_unless-None (contains S.permissions (object, operation)) NoPermission (passed (refusals S (DeletePermission object operation)) accepted).1.0

-- whether a grant is of the permission
abbrev pub is_grant_of : Bytes → Bytes → Triple → Bool
is_grant_of object operation grant = eq_by_cmp pair_cmp (grant.0, grant.1) (object, operation)

-- one ordering and then another is a tie exactly if both are
both_tie : (o p : Ordering) → is_eq (ordering_then o p) ≡ (is_eq o && is_eq p)
both_tie Less p = refl
both_tie Equal p = refl
both_tie Greater p = refl

-- a grant is of the permission exactly if it is of the object and of the operation
grant_of_both : (object operation : Bytes) (grant : Triple) → is_grant_of object operation grant ≡ (same_name grant.0 object && same_name grant.1 operation)
grant_of_both object operation grant = both_tie (name_cmp grant.0 object) (name_cmp grant.1 operation)

-- its row is removed, and those of its grants
pub done_delete_permission : (S : RbacState) → IsGood S → (object operation : Bytes) → verdict S (DeletePermission object operation) ≡ None →
    IsDoneBy S (DeletePermission object operation) (Take (PairRow PERMISSION object operation) ∷ take_all grant_row (filter (is_grant_of object operation) (members S.grants)))
unfolding tally changed
done_delete_permission S good object operation accepted =
    let left : RbacState = record S { permissions = remove S.permissions (object, operation) } in
    done_by S (DeletePermission object operation) refl (after_delete_permission S good object operation) (good_after_delete_permission S good object operation accepted) refl
    (steps_to (steps_append (steps_take_one permission_rows S (object, operation) (delete_permission_there S object operation accepted)) (steps_take_some grant_rows triple_total triple_exact left (is_grant_of object operation)))
    (λ i. record left { grants = retain S.grants (λ grant. not (grant_of_both object operation grant i)) }))

-- ---- a grant

-- the grant is there
revoke_permission_there : (S : RbacState) (object operation role : Bytes) → verdict S (RevokePermission object operation role) ≡ None → IsTrue (contains S.grants (object, operation, role))
unfolding verdict refusals
revoke_permission_there S object operation role accepted =
    refuse_unless-None (contains S.grants (object, operation, role)) NotGranted (passed (refusals S (RevokePermission object operation role)) accepted).1.1.1.0

pub done_revoke_permission : (S : RbacState) → IsGood S → (object operation role : Bytes) → verdict S (RevokePermission object operation role) ≡ None →
    IsDoneByOne S (RevokePermission object operation role) Take (GrantRow object operation role)
unfolding tally changed
done_revoke_permission S good object operation role accepted = done_by_one S (RevokePermission object operation role) refl
    (after_revoke_permission S good object operation role) (good_after_revoke_permission S good object operation role accepted) refl
    Take (GrantRow object operation role) (steps_take_one grant_rows S (object, operation, role) (revoke_permission_there S object operation role accepted))

-- ---- a session

-- the session is there, with the user
delete_session_there : (S : RbacState) (user session : Bytes) → verdict S (DeleteSession user session) ≡ None → IsTrue (contains S.sessions (session, user))
unfolding verdict refusals
delete_session_there S user session accepted = refuse_unless-None (contains S.sessions (session, user)) NotOwner (passed (refusals S (DeleteSession user session)) accepted).1.1.0

-- its row is removed, and those of the roles that were activated in it
pub done_delete_session : (S : RbacState) → IsGood S → (user session : Bytes) → verdict S (DeleteSession user session) ≡ None → IsDoneBy S (DeleteSession user session) (session_rows S (session, user))
unfolding tally changed
done_delete_session S good user session accepted = done_by S (DeleteSession user session) refl (after_delete_session S good user session) (good_after_delete_session S good user session accepted) refl
    (steps_end_one S (session, user) (delete_session_there S user session accepted))

-- ---- an activated role

-- the role was activated in the session
drop_active_role_there : (S : RbacState) (user session role : Bytes) → verdict S (DropActiveRole user session role) ≡ None → IsTrue (contains S.active (session, role))
unfolding verdict refusals
drop_active_role_there S user session role accepted =
    refuse_unless-None (contains S.active (session, role)) NotActive (passed (refusals S (DropActiveRole user session role)) accepted).1.1.1.1.0

pub done_drop_active_role : (S : RbacState) → IsGood S → (user session role : Bytes) → verdict S (DropActiveRole user session role) ≡ None →
    IsDoneByOne S (DropActiveRole user session role) Take (PairRow ACTIVATED_ROLE session role)
unfolding tally changed
done_drop_active_role S good user session role accepted = done_by_one S (DropActiveRole user session role) refl
    (after_drop_active_role S good user session role) (good_after_drop_active_role S good user session role accepted) refl
    Take (PairRow ACTIVATED_ROLE session role) (steps_take_one active_rows S (session, role) (drop_active_role_there S user session role accepted))

-- ---- a lock

-- its row is removed, if there is one
pub done_unlock_user_account : (S : RbacState) → IsGood S → (user : Bytes) → verdict S (UnlockUserAccount user) ≡ None → IsDoneBy S (UnlockUserAccount user) (lock_rows S user)
unfolding tally changed
done_unlock_user_account S good user accepted = done_by S (UnlockUserAccount user) refl (after_unlock_user_account S good user) (good_after_unlock_user_account S good user accepted) refl
    (steps_take_any locked_rows name_total name_exact S user)
