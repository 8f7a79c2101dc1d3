-- How an office answers lines, as the definition of an office that answers lines has it.
use Rattle.std.specs.Prelude.{◌≡◌, ◌⊎◌, true, ℕ, List, Ok}
use Rattle.sqlite.specs.Held.{Held}
use Rattle.sqlite.specs.State.{State}
use Rattle.role_wire.specs.declared.lines.Unanswered.{Unanswered}
use Rattle.role_wire.specs.declared.lines.Unanswered.TheVariants.{Memory, Store}
use Rattle.role_json.specs.Request.{request}
use Rattle.role_json.specs.RequestContent.{RequestContent}
use Rattle.role_tables.specs.Office.{OfficeModel}
use Rattle.role_wire.specs.Continuation.{StoreFails, ReachesState}
use Rattle.role_wire.specs.Events.{AddsFailed, AddsReading, AddsRequest, AddsUndone}
use Rattle.role_wire.specs.Outcome.{answer_to, after_line, state_after}
use Rattle.role_wire.specs.OfficeRequest.{IsAccepted, IsAcceptedImport}

module _ {S : Type 0} (shown : Held S → State) where
  -- the office answers the line with this text
  pub record AnswersLine (old : OfficeModel S) (line text : List ℕ) (new : OfficeModel S) : Type 0 where
    pub text_is : text ≡ answer_to old.facts line
    pub reaches : ReachesState shown old (AddsReading old.facts (request line)) (after_line old.facts line) new

  -- There is no answer to a request that asks for this. If an allocation failed, nothing was done, or it is an accepted import,
  -- which was done. If the store failed, the office is closed: either it was before, or the store failed now, in an accepted command.
  abbrev pub FailsFor : OfficeModel S → (RequestContent → Type 0) → Unanswered → OfficeModel S → Type 0
  FailsFor old AsksFor Memory new = ReachesState shown old (AddsUndone old.facts AsksFor) old.facts new
      ⊎ ((asked : RequestContent) × AsksFor asked × IsAcceptedImport old.facts asked
      × ReachesState shown old (AddsRequest old.facts asked) (state_after old.facts asked) new)
  FailsFor old AsksFor Store new = (new.is_closed ≡ true) × (((old.is_closed ≡ true) × (new ≡ old))
      ⊎ ((asked : RequestContent) × AsksFor asked × IsAccepted old.facts asked
      × StoreFails shown old (AddsFailed asked) old.facts (state_after old.facts asked) new))

  -- no answer to a line
  abbrev pub FailsLine : OfficeModel S → List ℕ → Unanswered → OfficeModel S → Type 0
  FailsLine old line = FailsFor old (λ asked. request line ≡ Ok asked)
