-- Which state a plan leads to, what it reports, and the room that it needs.
use Rattle.std.specs.Prelude.{◌≡◌, Option, Some, None}
use Rattle.rbac_sets.specs.declared.command.Command.{Command}
use Rattle.role_order.specs.Planned.{Order, OrderHasRoom, Fits, changed, Plan as OrderPlan}
use Rattle.admin_mgr.specs.declared.plan.Plan.{Plan}
use Rattle.admin_mgr.specs.declared.plan.Report.{Report}
use Rattle.admin_mgr.specs.RbacState.{RbacState}
use Rattle.admin_mgr.specs.StateWithRoom.{StateWithRoom}
use Rattle.admin_mgr.specs.Assignment.{Tally}
use Rattle.admin_mgr.specs.Run.{tally}
use Rattle.admin_mgr.specs.After.{after}
use Rattle.admin_mgr.specs.Changes.{Turns}
use Rattle.admin_mgr.specs.RowUpdates.{HasRoom}
use Rattle.admin_mgr.specs.Good.{IsGood}

-- the plan of the role hierarchy leads from the edges of S to those of T; without one these are the same
abbrev pub TurnsEdges : RbacState → Option OrderPlan → RbacState → Type 0
TurnsEdges S None T = S.edges ≡ T.edges
TurnsEdges S (Some plan) T = Fits S.edges plan × (changed S.edges plan ≡ T.edges)

-- the plan leads from S to the good state T
pub record LeadsTo (S : RbacState) (plan : Plan) (T : RbacState) : Type 0 where
  pub rows : Turns S plan.changes.items T
  pub edges : TurnsEdges S plan.order T
  pub good : IsGood T

-- the tally of a report
abbrev pub tally_of_report : Report → Tally
tally_of_report report = record { assigned = report.assigned; already = report.already; refused = report.refused.items }

-- the plan leads from S to the state after the command, and has the report of the command
pub record IsPlanOf (S : RbacState) (command : Command) (plan : Plan) : Type 0 where
  pub leads : LeadsTo S plan (after S command)
  pub report : tally_of_report plan.report ≡ tally S command

-- the edges of a state with the room for more
abbrev pub order_of : StateWithRoom → Order
order_of kept = record { edges = kept.facts.edges; edge_room = kept.edge_room; pair_room = kept.pair_room }

-- the role hierarchy has room for what its plan puts
abbrev pub HasRoomIn : StateWithRoom → Option OrderPlan → Type 0
HasRoomIn kept None = Unit {0}
HasRoomIn kept (Some plan) = OrderHasRoom (order_of kept) plan

-- there is room for all that the plan puts
pub record HasRoomFor (kept : StateWithRoom) (plan : Plan) : Type 0 where
  pub sets : HasRoom kept.room plan.changes.items
  pub order : HasRoomIn kept plan.order
