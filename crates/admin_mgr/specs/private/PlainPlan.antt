-- A plan that only changes rows.
use Rattle.std.specs.Prelude.{◌≡◌, List, None}
use Rattle.rbac_sets.specs.declared.row.Change.{Change}
use Rattle.admin_mgr.specs.declared.plan.Plan.{Plan}
use Rattle.admin_mgr.specs.Assignment.{no_tally}
use Rattle.admin_mgr.specs.PlanEffect.{tally_of_report}

-- the plan makes these changes of rows, has nothing to report, and leaves the role hierarchy as it is
pub record IsPlain (listed : List Change) (plan : Plan) : Type 0 where
  pub changes : plan.changes.items ≡ listed
  pub report : tally_of_report plan.report ≡ no_tally
  pub order : plan.order ≡ None
