-- What an office is, and what it answers.
use Rattle.std.specs.Prelude.{◌≡◌, Bool, true, false, refl, Some, None, Result, Ok, Err}
use Rattle.sqlite_trees.specs.declared.store.Store.{Ghosts}
use Rattle.std.specs.Coded.{Coded, code_by, coded×, coded_bool}
use Rattle.rbac_sets.specs.declared.command.Command.{Command}
use Rattle.rbac_sets.specs.declared.refusal.Refusal.{Refusal}
use Rattle.rbac_sets.specs.declared.refusal.Refusal.TheVariants.{Memory, Store, Closed}
use Rattle.sqlite.specs.Held.{Held, held_code, state}
use Rattle.sqlite.specs.State.{HasCleanDisk}
use Rattle.admin_mgr.specs.declared.plan.Report.{Report}
use Rattle.admin_mgr.specs.RbacState.{RbacState, coded_state}
use Rattle.admin_mgr.specs.Run.{tally}
use Rattle.admin_mgr.specs.After.{after}
use Rattle.admin_mgr.specs.Verdict.{verdict}
use Rattle.admin_mgr.specs.OfficeRun.{Event}
use Rattle.admin_mgr.specs.PlanEffect.{tally_of_report}
use Rattle.role_tables.specs.Durability.{IsDurable}

-- an office: its connection, its state, and whether the store has failed in a call
pub record OfficeModel (S : Type 0) : Type 0 where
  pub conn : Held S
  pub facts : RbacState
  pub is_closed : Bool

abbrev pub coded_office : {S : Type 0} → Coded S → Coded (OfficeModel S)
coded_office {S} store =
    code_by (Held S × (RbacState × Bool)) (coded× (held_code store) (coded× coded_state coded_bool)) (λ o. (o.conn, (o.facts, o.is_closed))) (λ p. record { conn = p.0; facts = p.1.0; is_closed = p.1.1 }) (λ _. refl)

-- what an open office answers to a command, and the office after it
abbrev pub AnswersCommand : {S : Type 0} → OfficeModel S → Command → Result Report Refusal → OfficeModel S → Type 0
AnswersCommand old command (Ok report) new = (verdict old.facts command ≡ None) × (tally_of_report report ≡ tally old.facts command) × (new.facts ≡ after old.facts command) × (new.is_closed ≡ false)
AnswersCommand old command (Err Memory) new = new ≡ old
AnswersCommand old command (Err Store) new = (verdict old.facts command ≡ None) × (new.is_closed ≡ true) × (new.facts ≡ old.facts)
AnswersCommand old command (Err Closed) new = ⊥
AnswersCommand old command (Err refusal) new = (verdict old.facts command ≡ Some refusal) × (new ≡ old)

-- the command and its answer as an event of the office's run
abbrev pub event_of : Command → Result Report Refusal → Event
event_of command (Ok report) = record { command = command; reply = Ok (tally_of_report report) }
event_of command (Err refusal) = record { command = command; reply = Err refusal }

-- it is true if the office was open, its state was durable, and the disk returned what was written
abbrev pub IfWasDurable : {S : Type 0} → Ghosts S → OfficeModel S → OfficeModel S → Type 0 → Type 0
IfWasDurable store old new Is = old.is_closed ≡ false → HasCleanDisk (state store new.conn) → IsDurable (state store old.conn) old.facts → Is
