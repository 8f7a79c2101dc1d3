-- What a call of an office answers, and what a crash then leaves, as an event of its run.
use Rattle.std.proofs.Common.{◌≡◌, ◌⊎◌, ◌∷◌, [], inl, inr, true, Some, None, Ok, Err, refl, sym, subst}
use Rattle.std.specs.Prelude.{All}
use Rattle.std.proofs.lemmas.List.Elements.{All-nil}
use Rattle.rbac_sets.specs.declared.command.Command.{Command}
use Rattle.rbac_sets.specs.declared.refusal.Refusal.{Refusal}
use Rattle.rbac_sets.specs.declared.refusal.Refusal.TheVariants.{Memory, Store, Closed}
use Rattle.sqlite.specs.State.{State}
use Rattle.sqlite.specs.Held.{state}
use Rattle.sqlite_trees.specs.declared.store.Store.{Ghosts}
use Rattle.admin_mgr.specs.declared.plan.Report.{Report}
use Rattle.admin_mgr.specs.RbacState.{RbacState}
use Rattle.admin_mgr.specs.CommandLaws.{refuses_commands}
use Rattle.admin_mgr.specs.Verdict.{verdict}
use Rattle.admin_mgr.specs.After.{after}
use Rattle.admin_mgr.specs.Run.{tally}
use Rattle.admin_mgr.specs.OfficeRun.{IsClosedReply, Leaves}
use Rattle.admin_mgr.specs.PlanEffect.{tally_of_report}
use Rattle.admin_mgr.proofs.Verdicts.RefusingLaws.{verdicts_refuse_commands}
use Rattle.role_tables.specs.Office.{OfficeModel, AnswersCommand, event_of}
use Rattle.role_tables.specs.Durability.{IsDurable, LeavesEither, LeavesByEvents}

-- a refusal of the plan is an answer that changes nothing
pub plan_refused : {S : Type 0} (old : OfficeModel S) (command : Command) (refusal : Refusal) → (refusal ≡ Memory) ⊎ (verdict old.facts command ≡ Some refusal) → AnswersCommand old command (Err refusal) old
plan_refused old command refusal (inl wanting) = subst (λ r. AnswersCommand old command (Err r) old) (sym wanting) refl
plan_refused old command refusal (inr told) = go refusal (verdicts_refuse_commands old.facts command refusal told) told
  where
    go : (r : Refusal) → refuses_commands r ≡ true → verdict old.facts command ≡ Some r → AnswersCommand old command (Err r) old
    go Memory judged is = refl
    go Store judged is = absurd (cc)
    go Closed judged is = absurd (cc)
    go _ judged is = (is, refl)

-- if nothing was changed, a crash leaves the state
pub leaves_unchanged : {S : Type 0} (g : Ghosts S) (old : OfficeModel S) (command : Command) (refusal : Refusal) → (refusal ≡ Memory) ⊎ (verdict old.facts command ≡ Some refusal) → IsDurable (state g old.conn) old.facts
    → LeavesByEvents (state g old.conn) old.facts (event_of command (Err refusal) ∷ [])
leaves_unchanged g old command refusal cause stands trees may = (old.facts, possible refusal cause, stands.left trees may)
  where
    plain : (r : Refusal) → refuses_commands r ≡ true → verdict old.facts command ≡ Some r → Leaves old.facts (event_of command (Err r) ∷ []) old.facts
    plain Memory judged is = refl
    plain Store judged is = absurd (cc)
    plain Closed judged is = absurd (cc)
    plain _ judged is = (is, refl)

    possible : (r : Refusal) → (r ≡ Memory) ⊎ (verdict old.facts command ≡ Some r) → Leaves old.facts (event_of command (Err r) ∷ []) old.facts
    possible r (inl wanting) = subst (λ r. Leaves old.facts (event_of command (Err r) ∷ []) old.facts) (sym wanting) refl
    possible r (inr told) = plain r (verdicts_refuse_commands old.facts command r told) told

-- if the command was done, a crash leaves the state after it
pub leaves_done : (new : State) (S : RbacState) (command : Command) (report : Report) → verdict S command ≡ None → tally_of_report report ≡ tally S command → IsDurable new (after S command) → LeavesByEvents new S (event_of command (Ok report) ∷ [])
leaves_done new S command report accepted told stands trees may = (after S command, (accepted, told, refl), stands.left trees may)

-- if the store failed in a call, a crash leaves the state before or after
pub leaves_failed : (new : State) (S : RbacState) (command : Command) → verdict S command ≡ None → LeavesEither new S (after S command) → LeavesByEvents new S (event_of command (Err Store) ∷ [])
leaves_failed new S command accepted either trees may = elim (either trees may) [
  | inl before ↦ (S, (accepted, none_follows, inl refl), before)
  | inr done ↦ (after S command, (accepted, none_follows, inr refl), done)
]
  where
    none_follows : All IsClosedReply []
    none_follows = All-nil IsClosedReply
