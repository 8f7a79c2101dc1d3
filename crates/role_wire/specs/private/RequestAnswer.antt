-- How an office answers requests, and the verdicts on what was refused.
use Rattle.std.specs.Prelude.{◌≡◌, ℕ, List, Result, Ok, Err, if◌then◌else◌}
use Rattle.sqlite.specs.Held.{Held}
use Rattle.sqlite.specs.State.{State}
use Rattle.role_wire.specs.declared.lines.Unanswered.{Unanswered}
use Rattle.role_wire.specs.declared.lines.Unanswered.TheVariants.{Memory, Store}
use Rattle.rbac_sets.specs.Refusal.{is_memory}
use Rattle.rbac_sets.specs.declared.refusal.Refusal.{Refusal}
use Rattle.rbac_sets.specs.declared.refusal.Refusal.TheVariants as refusals
use Rattle.role_json.specs.declared.answer.Verdict.{Verdict}
use Rattle.role_json.specs.declared.answer.Verdict.TheVariants.{Refused}
use Rattle.role_tables.specs.Office.{OfficeModel}
use Rattle.role_wire.specs.Continuation.{ReachesState}
use Rattle.role_wire.specs.Events.{AddsRequest}
use Rattle.role_wire.specs.Outcome.{outcome_of, state_after, outcome_text}
use Rattle.role_wire.specs.LineAnswer.{FailsFor}
use Rattle.review_mgr.specs.declared.query.Query.{Query}
use Rattle.role_json.specs.RequestContent.{RequestContent, Ask}

abbrev pub IsQuestion : RequestContent → Type 0
IsQuestion requested = (query : Query) × (requested ≡ Ask query)

module _ {S : Type 0} (shown : Held S → State) where
  -- the office answers the request with this text
  abbrev pub AnswersRequest : OfficeModel S → RequestContent → List ℕ → OfficeModel S → Type 0
  AnswersRequest old asked text new = (text ≡ outcome_text (outcome_of old.facts asked)) × ReachesState shown old (AddsRequest old.facts asked) (state_after old.facts asked) new

  -- no answer to a request
  abbrev pub FailsRequest : OfficeModel S → RequestContent → Unanswered → OfficeModel S → Type 0
  FailsRequest old asked = FailsFor shown old (λ it. it ≡ asked)

-- the verdict on a line that is no request, or why there is none
abbrev pub unread_verdict : Refusal → Result Verdict Unanswered
unread_verdict refusal = if is_memory refusal then Err Memory else Ok (Refused refusal)

-- the verdict on a request that was refused, or why there is none
abbrev pub verdict_of_refusal : Refusal → Result Verdict Unanswered
verdict_of_refusal refusals.Memory = Err Memory
verdict_of_refusal refusals.Store = Err Store
verdict_of_refusal refusals.Closed = Err Store
verdict_of_refusal refusal = Ok (Refused refusal)
