-- Plans of commands that keep the hierarchy and end no session, and whose changes only remove or only insert rows.
use Rattle.std.proofs.Common.{◌≡◌, List, [], ◌∷◌, Result, sym, ◌∙◌, ap, subst}
use Rattle.std.specs.Prelude.{IfOk}
use Rattle.std.proofs.lemmas.Result.{IfOk-weaker}
use Rattle.rbac_sets.specs.declared.command.Command.{Command}
use Rattle.rbac_sets.specs.declared.refusal.Refusal.{Refusal}
use Rattle.rbac_sets.specs.declared.row.Row.{Row}
use Rattle.rbac_sets.specs.declared.row.Change.{Change}
use Rattle.admin_mgr.specs.declared.plan.Plan.{Plan}
use Rattle.admin_mgr.specs.RbacState.{RbacState}
use Rattle.admin_mgr.specs.Assignment.{no_tally}
use Rattle.admin_mgr.specs.Run.{tally}
use Rattle.admin_mgr.specs.After.{changed, after}
use Rattle.admin_mgr.specs.Changes.{Turns}
use Rattle.admin_mgr.specs.private.PlainPlan.{IsPlain}
use Rattle.admin_mgr.specs.PlanEffect.{IsPlanOf}
use Rattle.admin_mgr.specs.Good.{IsGood}
use Rattle.admin_mgr.proofs.PlanRows.StepLaws.Way.{taking, putting}
use Rattle.admin_mgr.proofs.PlanRows.StepLaws.{Way, Steps, steps_to}
use Rattle.admin_mgr.proofs.PlanRows.TurnLaws.{turns_taking, turns_putting}
use Rattle.admin_mgr.proofs.PlanRows.PlanLaws.{plan_of}

-- a plan with exactly these changes is a plan of the command
abbrev pub IsDoneBy : RbacState → Command → List Change → Type 0
IsDoneBy S command changes = (plan : Plan) → IsPlain changes plan → IsPlanOf S command plan

-- a result with exactly one change, of this row, is a plan of the command
abbrev pub IsDoneByOne : RbacState → Command → (Row → Change) → Row → Type 0
IsDoneByOne S command change row = (one : Row) → one ≡ row → (made : Result Plan Refusal) → IfOk made (IsPlain (change one ∷ [])) → IfOk made (IsPlanOf S command)

-- changes that only insert or only remove turn the rows of one state into those of the other
pub turns_one_way : {S T : RbacState} {changes : List Change} (way : Way) → Steps way S changes T → Turns S changes T
turns_one_way taking steps = turns_taking steps
turns_one_way putting steps = turns_putting steps

module _ {way : Way} (S : RbacState) (command : Command) (told : tally S command ≡ no_tally)
    (same : after S command ≡ changed S command) (good : IsGood (after S command)) (edges : S.edges ≡ (changed S command).edges) where
  -- if no session ends, changes that lead to the changed state turn the rows into those after the command
  pub turns_changed : {changes : List Change} → Steps way S changes (changed S command) → Turns S changes (after S command)
  turns_changed steps = turns_one_way way (steps_to steps (sym same))

  -- and a plan of these changes that keeps the hierarchy is a plan of the command
  pub done_by : {changes : List Change} → Steps way S changes (changed S command) → IsDoneBy S command changes
  done_by {changes} steps plan plain = plan_of S command plan changes told plain.changes plain.report (turns_changed steps) good plain.order (edges ∙ ap (λ T. T.edges) (sym same))

  -- the same for a single change
  pub done_by_one : (change : Row → Change) (row : Row) → Steps way S (change row ∷ []) (changed S command) → IsDoneByOne S command change row
  done_by_one change row steps one is made plain = IfOk-weaker made (IsPlain (change one ∷ [])) (IsPlanOf S command) (subst (λ r. IsDoneBy S command (change r ∷ [])) (sym is) (done_by steps)) plain
