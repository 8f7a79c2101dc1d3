-- What an office does for one request.
use Rattle.std.specs.Prelude.{◌≡◌, ◌⊎◌, true, false, ℕ, List, None, Ok, Err}
use Rattle.sqlite.specs.Held.{Held}
use Rattle.sqlite.specs.State.{State}
use Rattle.rbac_sets.specs.CommandContent.{CommandContent, Import}
use Rattle.rbac_sets.specs.Sets.{Pair}
use Rattle.rbac_sets.specs.declared.refusal.Refusal.{Refusal}
use Rattle.rbac_sets.specs.declared.refusal.Refusal.TheVariants.{Memory, Store, Closed}
use Rattle.admin_mgr.specs.CommandContent.{content_verdict}
use Rattle.admin_mgr.specs.RbacState.{RbacState}
use Rattle.role_json.specs.Request.{request}
use Rattle.role_json.specs.RequestContent.{RequestContent, Change}
use Rattle.role_tables.specs.Office.{OfficeModel}
use Rattle.role_wire.specs.Continuation.{GoesOnBySome, StoreFails, ReachesState}
use Rattle.role_wire.specs.Events.{AddsFailed, AddsRequest, AddsUndone}
use Rattle.role_wire.specs.Outcome.{outcome_of, state_after}

-- it is an import, or a question
abbrev pub IsImport : RequestContent → Type 0
IsImport requested = (pairs : List Pair) × (requested ≡ Change (Import pairs))

-- the request is a command that is accepted in this state
abbrev pub IsAccepted : RbacState → RequestContent → Type 0
IsAccepted S requested = (asked : CommandContent) × (requested ≡ Change asked) × (content_verdict S asked ≡ None)

-- the request is an import that is accepted in this state
abbrev pub IsAcceptedImport : RbacState → RequestContent → Type 0
IsAcceptedImport S requested = IsImport requested × IsAccepted S requested

-- the line asks for a command that is accepted in this state
abbrev pub AsksAccepted : RbacState → List ℕ → Type 0
AsksAccepted S line = (asked : RequestContent) × (request line ≡ Ok asked) × IsAccepted S asked

-- the line asks for an import that is accepted in this state
abbrev pub AsksImport : RbacState → List ℕ → Type 0
AsksImport S line = (asked : RequestContent) × (request line ≡ Ok asked) × IsAcceptedImport S asked

module _ {S : Type 0} (shown : Held S → State) where
  -- an open office did the command or answered the question, and this is the answer text
  pub record DoesRequest (old : OfficeModel S) (requested : RequestContent) (text : List ℕ) (new : OfficeModel S) : Type 0 where
    pub is_open : old.is_closed ≡ false
    pub outcome : outcome_of old.facts requested ≡ Ok text
    pub reaches : ReachesState shown old (AddsRequest old.facts requested) (state_after old.facts requested) new

  -- the office was open, and the store failed in the command, which is accepted
  pub record StoreFailsFor (old : OfficeModel S) (requested : RequestContent) (new : OfficeModel S) : Type 0 where
    pub is_open : old.is_closed ≡ false
    pub accepted : IsAccepted old.facts requested
    pub breaks : StoreFails shown old (AddsFailed requested) old.facts (state_after old.facts requested) new

  -- the request was declined: an allocation failed, the store failed, the office is closed, or an open office refuses the request
  abbrev pub RefusesRequest : OfficeModel S → RequestContent → Refusal → OfficeModel S → Type 0
  RefusesRequest old requested refusal new =
      ((refusal ≡ Memory) × (new ≡ old) × GoesOnBySome shown old (AddsUndone old.facts (λ asked. asked ≡ requested)) new)
      ⊎ (((refusal ≡ Store) × StoreFailsFor old requested new)
      ⊎ (((refusal ≡ Closed) × (old.is_closed ≡ true) × (new ≡ old))
      ⊎ ((outcome_of old.facts requested ≡ Err refusal) × (old.is_closed ≡ false) × (new ≡ old) × GoesOnBySome shown old (AddsRequest old.facts requested) new)))
