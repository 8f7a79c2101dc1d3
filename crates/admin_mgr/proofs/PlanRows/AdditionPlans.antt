-- The plans that add a user, role, object, permission or grant, or activate a role: each inserts one row.
use Rattle.std.proofs.Common.{◌≡◌, refl}
use Rattle.std.specs.Prelude.{None}
use Rattle.rbac_sets.specs.Sets.{Bytes}
use Rattle.rbac_sets.specs.declared.command.Command.TheVariants.{AddUser, AddRole, AddPermObj, AddPermission, GrantPermission, AddActiveRole}
use Rattle.rbac_sets.specs.declared.row.Row.TheVariants.{NameRow, PairRow, GrantRow}
use Rattle.rbac_sets.specs.declared.row.TheConstants.Row.{USER, ROLE, OBJECT, PERMISSION, ACTIVATED_ROLE}
use Rattle.rbac_sets.specs.declared.row.Change.TheVariants.{Put}
use Rattle.admin_mgr.specs.RbacState.{RbacState}
use Rattle.admin_mgr.specs.Run.{tally}
use Rattle.admin_mgr.specs.After.{changed}
use Rattle.admin_mgr.specs.Verdict.{verdict}
use Rattle.admin_mgr.specs.Good.{IsGood}
use Rattle.admin_mgr.proofs.PlanRows.RunLaws.{steps_put_one}
use Rattle.admin_mgr.proofs.PlanRows.SetRows.{user_rows, role_rows, object_rows, permission_rows, grant_rows, active_rows}
use Rattle.admin_mgr.proofs.StateAfter.AdditionLaws.{add_user_absent, after_add_user, good_after_add_user, add_role_absent, after_add_role, good_after_add_role, add_perm_obj_absent, after_add_perm_obj, good_after_add_perm_obj, add_permission_absent, after_add_permission, good_after_add_permission, grant_permission_absent, after_grant_permission, good_after_grant_permission}
use Rattle.admin_mgr.proofs.StateAfter.NewSessionLaws.{add_active_role_absent, after_add_active_role, good_after_add_active_role}
use Rattle.admin_mgr.proofs.PlanRows.PlainPlans.{IsDoneByOne, done_by_one}

pub done_add_user : (S : RbacState) → IsGood S → (user : Bytes) → verdict S (AddUser user) ≡ None → IsDoneByOne S (AddUser user) Put (NameRow USER user)
unfolding tally changed
done_add_user S good user accepted = done_by_one S (AddUser user) refl (after_add_user S good user accepted) (good_after_add_user S good user accepted) refl
    Put (NameRow USER user) (steps_put_one user_rows S user (add_user_absent S user accepted))

pub done_add_role : (S : RbacState) → IsGood S → (role : Bytes) → verdict S (AddRole role) ≡ None → IsDoneByOne S (AddRole role) Put (NameRow ROLE role)
unfolding tally changed
done_add_role S good role accepted = done_by_one S (AddRole role) refl (after_add_role S good role accepted) (good_after_add_role S good role accepted) refl
    Put (NameRow ROLE role) (steps_put_one role_rows S role (add_role_absent S role accepted))

pub done_add_perm_obj : (S : RbacState) → IsGood S → (object : Bytes) → verdict S (AddPermObj object) ≡ None → IsDoneByOne S (AddPermObj object) Put (NameRow OBJECT object)
unfolding tally changed
done_add_perm_obj S good object accepted = done_by_one S (AddPermObj object) refl (after_add_perm_obj S good object accepted) (good_after_add_perm_obj S good object accepted) refl
    Put (NameRow OBJECT object) (steps_put_one object_rows S object (add_perm_obj_absent S object accepted))

pub done_add_permission : (S : RbacState) → IsGood S → (object operation : Bytes) → verdict S (AddPermission object operation) ≡ None →
    IsDoneByOne S (AddPermission object operation) Put (PairRow PERMISSION object operation)
unfolding tally changed
done_add_permission S good object operation accepted = done_by_one S (AddPermission object operation) refl
    (after_add_permission S good object operation accepted) (good_after_add_permission S good object operation accepted) refl
    Put (PairRow PERMISSION object operation) (steps_put_one permission_rows S (object, operation) (add_permission_absent S object operation accepted))

pub done_grant_permission : (S : RbacState) → IsGood S → (object operation role : Bytes) → verdict S (GrantPermission object operation role) ≡ None →
    IsDoneByOne S (GrantPermission object operation role) Put (GrantRow object operation role)
unfolding tally changed
done_grant_permission S good object operation role accepted = done_by_one S (GrantPermission object operation role) refl
    (after_grant_permission S good object operation role accepted) (good_after_grant_permission S good object operation role accepted) refl
    Put (GrantRow object operation role) (steps_put_one grant_rows S (object, operation, role) (grant_permission_absent S object operation role accepted))

pub done_add_active_role : (S : RbacState) → IsGood S → (user session role : Bytes) → verdict S (AddActiveRole user session role) ≡ None →
    IsDoneByOne S (AddActiveRole user session role) Put (PairRow ACTIVATED_ROLE session role)
unfolding tally changed
done_add_active_role S good user session role accepted = done_by_one S (AddActiveRole user session role) refl
    (after_add_active_role S good user session role accepted) (good_after_add_active_role S good user session role accepted) refl
    Put (PairRow ACTIVATED_ROLE session role) (steps_put_one active_rows S (session, role) (add_active_role_absent S user session role accepted))
