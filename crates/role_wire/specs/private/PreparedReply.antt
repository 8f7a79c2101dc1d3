-- Replies before they are written. The definitions in this file are used only in private contracts.
use Rattle.std.specs.Prelude.{◌≡◌, ◌⊎◌, ℕ, Bool, true, false, Result, Ok}
use Rattle.std.specs.Cow.{cow_str_bytes}
use Rattle.sqlite.specs.Held.{Held}
use Rattle.sqlite.specs.State.{State}
use Rattle.rbac_sets.specs.declared.refusal.Refusal.{Refusal}
use Rattle.rbac_sets.specs.declared.refusal.Refusal.TheVariants.{BadRequest, UnknownFunction, Memory, Store, Closed}
use Rattle.role_json.specs.Answer.{refusal_text, text_of}
use Rattle.role_json.specs.RequestContent.{RequestContent}
use Rattle.role_json.specs.declared.answer.Verdict.{Verdict}
use Rattle.role_http.specs.Status.{status_of}
use Rattle.role_tables.specs.Office.{OfficeModel}
use Rattle.role_wire.specs.Reply.{reply_of}
use Rattle.role_wire.specs.ServedRequest.{IsAnsweredInstead, IsThisReply, StaysClosed}
use Rattle.role_wire.specs.declared.prepared_reply.PreparedReply.{PreparedReply}

-- the reply reports this refusal
abbrev pub IsRefusal : Refusal → PreparedReply → Type 0
IsRefusal refusal made = (made.status ≡ status_of refusal) × (cow_str_bytes made.body ≡ refusal_text refusal)

-- whether the refusal has a constant text
abbrev pub is_fixed : Refusal → Bool
is_fixed BadRequest = true
is_fixed UnknownFunction = true
is_fixed Memory = true
is_fixed Store = true
is_fixed Closed = true
is_fixed _ = false

-- the reply reports the refusal or, if its text has to be allocated, that the allocation failed
abbrev pub ReportsRefusal : Refusal → PreparedReply → Type 0
ReportsRefusal refusal made = IsRefusal refusal made ⊎ (IsRefusal Memory made × (is_fixed refusal ≡ false))

-- the reply reports what was done or answered
abbrev pub IsReplied : Verdict → PreparedReply → Type 0
IsReplied verdict made = (made.status ≡ 200) × (cow_str_bytes made.body ≡ text_of verdict)

-- ---- the result of reading a body

-- this request was read
abbrev pub IsReadAs : Result RequestContent Refusal → RequestContent → Type 0
IsReadAs read asked = read ≡ Ok asked

module _ {S : Type 0} (shown : Held S → State) where
  -- This is the reply to it, or the answer instead of the reply. The reply doesn't depend on the length of the body.
  abbrev pub AnswersBody : OfficeModel S → Result RequestContent Refusal → PreparedReply → OfficeModel S → Type 0
  AnswersBody old read made new =
      (((taken : ℕ) → IsThisReply shown old (reply_of old.facts taken read) made.status (cow_str_bytes made.body) new)
      ⊎ IsAnsweredInstead shown old (IsReadAs read) made.status (cow_str_bytes made.body) new)
      × StaysClosed old (IsReadAs read) made.status (cow_str_bytes made.body) new
