-- The answer to a request over HTTP, and the office after it.
use Rattle.std.specs.Prelude.{◌≡◌, ◌⊎◌, ◌++◌, ℕ, ◌≤◌, true, false, List, [], length, Option}
use Rattle.std.specs.Io.KnownBytes.{Appends, Consumes}
use Rattle.sqlite.specs.Held.{Held}
use Rattle.sqlite.specs.State.{State}
use Rattle.rbac_sets.specs.declared.refusal.Refusal.TheVariants.{Memory, Store, Closed}
use Rattle.role_json.specs.Answer.{refusal_text}
use Rattle.role_json.specs.RequestContent.{RequestContent}
use Rattle.role_http.specs.HeadAnswer.{with_left}
use Rattle.role_http.specs.ReplyBytes.{reply_bytes}
use Rattle.role_tables.specs.Office.{OfficeModel}
use Rattle.role_wire.specs.Continuation.{ReachesState}
use Rattle.role_wire.specs.Events.{AddsReading, AddsRequest, AddsUndone}
use Rattle.role_wire.specs.Outcome.{state_after}
use Rattle.role_wire.specs.OfficeRequest.{IsAcceptedImport, StoreFailsFor}
use Rattle.role_wire.specs.Reply.{Reply, Replies, Asks, TakesNoFurther}
use Rattle.role_wire.specs.declared.lines.Cause.{Cause}
use Rattle.role_wire.specs.declared.lines.Cause.TheVariants as cause

-- a closed office stays as it is, and a request that asks for this is answered by 500 with 42 Closed, or by 503 with 40 Memory
abbrev pub StaysClosed : {S : Type 0} → OfficeModel S → (RequestContent → Type 0) → ℕ → List ℕ → OfficeModel S → Type 0
StaysClosed old AsksFor status body new = old.is_closed ≡ true → (new ≡ old)
    × ((asked : RequestContent) → AsksFor asked → ((status ≡ 500) × (body ≡ refusal_text Closed)) ⊎ ((status ≡ 503) × (body ≡ refusal_text Memory)))

module _ {S : Type 0} (shown : Held S → State) where
  -- the answer is this reply
  abbrev pub IsThisReply : OfficeModel S → Reply → ℕ → List ℕ → OfficeModel S → Type 0
  IsThisReply old reply status body new = (status ≡ reply.status) × (body ≡ reply.body) × ReachesState shown old (AddsReading old.facts reply.read) reply.after new

  -- The answer instead of the reply to a request that asks for this: an allocation failed and nothing was done, the store failed in
  -- its command, or the office was closed.
  abbrev pub IsAnsweredInstead : OfficeModel S → (RequestContent → Type 0) → ℕ → List ℕ → OfficeModel S → Type 0
  IsAnsweredInstead old AsksFor status body new =
      ((status ≡ 503) × (body ≡ refusal_text Memory) × ReachesState shown old (AddsUndone old.facts AsksFor) old.facts new)
      ⊎ (((status ≡ 500) × (body ≡ refusal_text Store) × ((asked : RequestContent) × AsksFor asked × StoreFailsFor shown old asked new))
      ⊎ ((status ≡ 500) × (body ≡ refusal_text Closed) × (old.is_closed ≡ true) × (new ≡ old) × ((asked : RequestContent) × AsksFor asked)))

  -- an open office did an accepted import
  abbrev pub IsImported : OfficeModel S → (RequestContent → Type 0) → OfficeModel S → Type 0
  IsImported old AsksFor new = (asked : RequestContent) × AsksFor asked × (old.is_closed ≡ false) × IsAcceptedImport old.facts asked
      × ReachesState shown old (AddsRequest old.facts asked) (state_after old.facts asked) new

  -- There is no reply: a read failed and nothing was done, or an accepted import was done and its text could not be allocated.
  abbrev pub LeavesUnanswered : Cause → OfficeModel S → (RequestContent → Type 0) → OfficeModel S → Type 0
  LeavesUnanswered cause.Read old AsksFor new = new ≡ old
  LeavesUnanswered cause.Memory old AsksFor new = IsImported old AsksFor new
  LeavesUnanswered _ old AsksFor new = ⊥

  -- ---- whole requests

  -- the answer to a request in these bytes
  abbrev pub AnswersBytes : OfficeModel S → List ℕ → ℕ → List ℕ → OfficeModel S → Type 0
  AnswersBytes old bytes status body new =
      (((reply : Reply) × Replies old.facts bytes reply × IsThisReply old reply status body new)
      ⊎ IsAnsweredInstead old (Asks bytes) status body new)
      × StaysClosed old (Asks bytes) status body new

  -- the office after a stop, and what was written: nothing, or a part of the reply
  abbrev pub StopsAt : Cause → OfficeModel S → List ℕ → OfficeModel S → Option (List ℕ) → Option (List ℕ) → Type 0
  StopsAt cause.Write old bytes new written now_written = (status : ℕ) × (body : List ℕ) × AnswersBytes old bytes status body new
      × ((part rest : List ℕ) × (reply_bytes status body ≡ part ++ rest) × (1 ≤ length rest) × Appends written now_written part)
  StopsAt why old bytes new written now_written = LeavesUnanswered why old (Asks bytes) new × Appends written now_written []

  -- a request was read from what a source had left, no byte after it, and the answer was written
  abbrev pub ServesRequest : OfficeModel S → OfficeModel S → (left now_left written now_written : Option (List ℕ)) → ℕ → Type 0
  ServesRequest old new left now_left written now_written status = (taken : List ℕ) × Consumes left now_left taken × TakesNoFurther old.facts (with_left taken now_left) taken
      × ((body : List ℕ) × AnswersBytes old (with_left taken now_left) status body new × Appends written now_written (reply_bytes status body))

  -- bytes of a request were read, none after it, and then this cause stopped it
  abbrev pub StopsRequest : Cause → OfficeModel S → OfficeModel S → (left now_left written now_written : Option (List ℕ)) → Type 0
  StopsRequest why old new left now_left written now_written = (taken : List ℕ) × Consumes left now_left taken × TakesNoFurther old.facts (with_left taken now_left) taken
      × StopsAt why old (with_left taken now_left) new written now_written
