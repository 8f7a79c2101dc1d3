-- The events that requests and lines add to the run of an office.
use Rattle.std.specs.Prelude.{◌≡◌, ◌⊎◌, ℕ, List, [], ◌∷◌, ◌++◌, Option, Some, None, Result, Ok, Err}
use Rattle.rbac_sets.specs.CommandContent.{CommandContent, content_of}
use Rattle.rbac_sets.specs.declared.refusal.Refusal.{Refusal}
use Rattle.rbac_sets.specs.declared.refusal.Refusal.TheVariants.{Memory, Store}
use Rattle.admin_mgr.specs.Assignment.{Tally}
use Rattle.admin_mgr.specs.CommandContent.{content_verdict, content_tally}
use Rattle.admin_mgr.specs.OfficeRun.{Event}
use Rattle.admin_mgr.specs.RbacState.{RbacState}
use Rattle.role_json.specs.Request.{request}
use Rattle.role_json.specs.RequestContent.{RequestContent, Change, Ask}
use Rattle.role_wire.specs.Outcome.{after_line}

-- one event: a command that asks for this, answered so
abbrev pub IsOneEvent : CommandContent → (Result Tally Refusal → Type 0) → List Event → Type 0
IsOneEvent asked Replied more = (event : Event) × (content_of event.command ≡ asked) × Replied event.reply × (more ≡ event ∷ [])

-- the answer to a command with this verdict, which has this tally if it is accepted
abbrev pub IsJudgedBy : Option Refusal → Tally → Result Tally Refusal → Type 0
IsJudgedBy None told reply = reply ≡ Ok told
IsJudgedBy (Some refusal) told reply = reply ≡ Err refusal

-- the events of a request that was answered in this state: its command with its verdict, also if it was refused; a question adds none
abbrev pub AddsRequest : RbacState → RequestContent → List Event → Type 0
AddsRequest S (Change asked) more = IsOneEvent asked (IsJudgedBy (content_verdict S asked) (content_tally S asked)) more
AddsRequest S (Ask query) more = more ≡ []

-- the same for what was read of a line or a body: what is no request adds none
abbrev pub AddsReading : RbacState → Result RequestContent Refusal → List Event → Type 0
AddsReading S (Ok asked) more = AddsRequest S asked more
AddsReading S (Err refusal) more = more ≡ []

-- the events of lines that were answered from this state on, in order
unfoldable pub AddsLines : RbacState → List (List ℕ) → List Event → Type 0
AddsLines S [] more = more ≡ []
AddsLines S (line ∷ lines) more = (first rest : List Event) × (more ≡ first ++ rest) × AddsReading S (request line) first × AddsLines (after_line S line) lines rest

-- the events of lines, and then such events
abbrev pub AddsLinesThen : RbacState → List (List ℕ) → (List Event → Type 0) → List Event → Type 0
AddsLinesThen S lines Last more = (first last : List Event) × (more ≡ first ++ last) × AddsLines S lines first × Last last

-- the events of a request that asks for this, if it changed nothing: none, or its command, answered by 40 Memory or by its refusal
abbrev pub AddsUndone : RbacState → (RequestContent → Type 0) → List Event → Type 0
AddsUndone S AsksFor more = (more ≡ [])
    ⊎ ((asked : CommandContent) × AsksFor (Change asked)
    × IsOneEvent asked (λ reply. (reply ≡ Err Memory) ⊎ ((refusal : Refusal) × (content_verdict S asked ≡ Some refusal) × (reply ≡ Err refusal))) more)

-- the events of a request in which the store failed: its command, answered by 41 Store
abbrev pub AddsFailed : RequestContent → List Event → Type 0
AddsFailed (Change asked) more = IsOneEvent asked (λ reply. reply ≡ Err Store) more
AddsFailed (Ask query) more = ⊥
