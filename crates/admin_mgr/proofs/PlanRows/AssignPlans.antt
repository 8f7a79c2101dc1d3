-- The plan of an assignment: it inserts one row.
use Rattle.std.proofs.Common.{◌≡◌, refl}
use Rattle.std.specs.Prelude.{None}
use Rattle.rbac_sets.specs.Sets.{Bytes}
use Rattle.rbac_sets.specs.declared.command.Command.TheVariants.{AssignUser}
use Rattle.rbac_sets.specs.declared.row.Row.TheVariants.{PairRow}
use Rattle.rbac_sets.specs.declared.row.TheConstants.Row.{ASSIGNMENT}
use Rattle.rbac_sets.specs.declared.row.Change.TheVariants.{Put}
use Rattle.admin_mgr.specs.RbacState.{RbacState}
use Rattle.admin_mgr.specs.Run.{tally}
use Rattle.admin_mgr.specs.After.{changed}
use Rattle.admin_mgr.specs.Verdict.{verdict}
use Rattle.admin_mgr.specs.Good.{IsGood}
use Rattle.admin_mgr.proofs.PlanRows.RunLaws.{steps_put_one}
use Rattle.admin_mgr.proofs.PlanRows.SetRows.{assignment_rows}
use Rattle.admin_mgr.proofs.StateAfter.GoodAssignment.{after_assign_user, good_after_assign_user, new_assignment}
use Rattle.admin_mgr.proofs.PlanRows.PlainPlans.{IsDoneByOne, done_by_one}

pub done_assign_user : (S : RbacState) → IsGood S → (user role : Bytes) → verdict S (AssignUser user role) ≡ None → IsDoneByOne S (AssignUser user role) Put (PairRow ASSIGNMENT user role)
unfolding tally changed
done_assign_user S good user role accepted = done_by_one S (AssignUser user role) refl (after_assign_user S good user role accepted) (good_after_assign_user S good user role accepted) refl
    Put (PairRow ASSIGNMENT user role) (steps_put_one assignment_rows S (user, role) (new_assignment S good user role accepted))
