-- The outcome of a request and of a line: what the office answers, and its state afterwards.
use Rattle.std.specs.Prelude.{ℕ, List, Option, Some, None, is_none, Result, Ok, Err, if◌then◌else◌}
use Rattle.rbac_sets.specs.CommandContent.{CommandContent, Single, Import}
use Rattle.rbac_sets.specs.declared.refusal.Refusal.{Refusal}
use Rattle.admin_mgr.specs.RbacState.{RbacState}
use Rattle.admin_mgr.specs.CommandContent.{content_verdict, content_after, content_tally}
use Rattle.admin_mgr.specs.Assignment.{Tally}
use Rattle.review_mgr.specs.Answering.{value}
use Rattle.review_mgr.specs.Questions.{refused}
use Rattle.role_json.specs.Answer.{done_text, import_text, value_text, refusal_text}
use Rattle.role_json.specs.Request.{request}
use Rattle.role_json.specs.RequestContent.{RequestContent, Change, Ask}

-- ---- one request

-- the text for a command that is accepted: for an import it reports the records
abbrev pub accepted_text : CommandContent → Tally → List ℕ
accepted_text (Single command) tally = done_text
accepted_text (Import pairs) tally = import_text tally

-- the value, unless there is a refusal
abbrev pub unless : {X : Type 0} → Option Refusal → X → Result X Refusal
unless None value = Ok value
unless (Some refusal) value = Err refusal

-- the outcome of a request in this state: the text that accepts the command or answers the question, or a refusal
unfoldable pub outcome_of : RbacState → RequestContent → Result (List ℕ) Refusal
outcome_of S (Change asked) = unless (content_verdict S asked) (accepted_text asked (content_tally S asked))
outcome_of S (Ask query) = unless (refused S query) (value_text (value S query))

-- the state after a request: only a command that is accepted changes it
unfoldable pub state_after : RbacState → RequestContent → RbacState
state_after S (Change asked) = if is_none (content_verdict S asked) then content_after S asked else S
state_after S (Ask query) = S

-- ---- the result of reading a text: a request, or the refusal of a text that is no request

-- its outcome
abbrev pub outcome : RbacState → Result RequestContent Refusal → Result (List ℕ) Refusal
outcome S (Ok requested) = outcome_of S requested
outcome S (Err refusal) = Err refusal

-- the state after it
abbrev pub after_reading : RbacState → Result RequestContent Refusal → RbacState
after_reading S (Ok requested) = state_after S requested
after_reading S (Err refusal) = S

-- the text that reports an outcome
abbrev pub outcome_text : Result (List ℕ) Refusal → List ℕ
outcome_text (Ok text) = text
outcome_text (Err refusal) = refusal_text refusal

-- ---- one line

-- the answer to a line in this state, and the state after it
unfoldable pub answer_to : RbacState → List ℕ → List ℕ
answer_to S line = outcome_text (outcome S (request line))

unfoldable pub after_line : RbacState → List ℕ → RbacState
after_line S line = after_reading S (request line)
