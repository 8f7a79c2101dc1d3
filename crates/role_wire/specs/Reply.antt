-- The reply to a request over HTTP, from its head and the bytes after it.
use Rattle.std.specs.Prelude.{◌≡◌, ◌⊎◌, ◌↔◌, ℕ, ◌+◌, ◌≤◌, ◌==◌, Bool, IsTrue, List, length, nat_lt, take, Option, Result, Ok, Err, if◌then◌else◌}
use Rattle.std.specs.Io.KnownBytes.{Consumes}
use Rattle.httparse.specs.Grammar.{RequestHead, HasNoRequest, print_request}
use Rattle.rbac_sets.specs.declared.refusal.Refusal.{Refusal}
use Rattle.rbac_sets.specs.declared.refusal.Refusal.TheVariants.{BadRequest, UnknownFunction}
use Rattle.admin_mgr.specs.RbacState.{RbacState}
use Rattle.role_json.specs.Answer.{refusal_text}
use Rattle.role_json.specs.Request.{body_to}
use Rattle.role_json.specs.RequestContent.{RequestContent}
use Rattle.role_functions.specs.declared.function.Function.{Function}
use Rattle.role_http.specs.Head.{HasHead, longest_head}
use Rattle.role_http.specs.HeadChecks.{judged_head}
use Rattle.role_http.specs.Status.{status_of}
use Rattle.role_wire.specs.Outcome.{outcome, after_reading, outcome_text}

-- a reply: its status and its body, the request that was read, the state after it, and how many bytes after its head the request has
pub record Reply : Type 0 where
  pub status : ℕ
  pub body : List ℕ
  pub read : Result RequestContent Refusal
  pub after : RbacState
  pub taken : ℕ

-- the body of a reply that refuses a head by this status
unfoldable pub head_body : ℕ → List ℕ
head_body status = if status == 404 then refusal_text UnknownFunction else refusal_text BadRequest

-- the status of an outcome
abbrev pub status_in : Result (List ℕ) Refusal → ℕ
status_in (Ok text) = 200
status_in (Err refusal) = status_of refusal

-- the reply to a body of `taken` bytes, from the result of reading it
abbrev pub reply_of : RbacState → ℕ → Result RequestContent Refusal → Reply
reply_of S taken read = record { status = status_in (outcome S read); body = outcome_text (outcome S read); read = read; after = after_reading S read; taken = taken }

-- what a call asks for, by the bytes after its head: fewer than it announces are no request
abbrev pub called_for : List ℕ → Function → ℕ → Result RequestContent Refusal
called_for rest called count = if nat_lt (length rest) count then Err BadRequest else body_to called (take count rest)

-- The reply to a head, from the result of judging it, and to the bytes after it. No request is read behind a head that is refused.
abbrev pub behind_head : RbacState → List ℕ → Result (Function × ℕ) ℕ → Reply
behind_head S rest (Err status) = record { status = status; body = head_body status; read = Err BadRequest; after = S; taken = 0 }
behind_head S rest (Ok (called, count)) = reply_of S (length (take count rest)) (called_for rest called count)

-- the reply to a head and the bytes after it
unfoldable pub reply_to : RbacState → RequestHead → List ℕ → Reply
reply_to S head rest = behind_head S rest (judged_head head)

-- the bytes don't begin with a head within the limits
abbrev pub HasNoHead : List ℕ → Type 0
HasNoHead bytes = (head : RequestHead) (rest : List ℕ) → ¬ (HasHead bytes head rest)

-- The reply to a request in these bytes. If they begin with a head beyond the limits, the status is 431. If they begin with no
-- head, it is 400 or 431.
abbrev pub Replies : RbacState → List ℕ → Reply → Type 0
Replies S bytes reply =
    ((head : RequestHead) × (rest : List ℕ) × HasHead bytes head rest × (reply ≡ reply_to S head rest))
    ⊎ (HasNoHead bytes × (((reply.status ≡ 400) × HasNoRequest bytes) ⊎ (reply.status ≡ 431)) × (reply.body ≡ head_body reply.status) × (reply.read ≡ Err BadRequest) × (reply.after ≡ S))

-- the request in these bytes asks for this
abbrev pub Asks : List ℕ → RequestContent → Type 0
Asks bytes asked = (head : RequestHead) × (rest : List ℕ) × HasHead bytes head rest
    × ((called : Function) × (count : ℕ) × (judged_head head ≡ Ok (called, count)) × (called_for rest called count ≡ Ok asked))

-- no byte after the request in these bytes was read and, if they don't begin with a head within the limits, no more bytes than a
-- head may have
abbrev pub TakesNoFurther : RbacState → List ℕ → List ℕ → Type 0
TakesNoFurther S bytes taken =
    ((head : RequestHead) (rest : List ℕ) → HasHead bytes head rest → length taken ≤ length (print_request head) + (reply_to S head rest).taken)
    × (HasNoHead bytes → length taken ≤ longest_head)

-- the bytes are a whole request: a head within the limits that calls a function, and a body as long as the head says
abbrev pub IsWholeRequest : List ℕ → Type 0
IsWholeRequest bytes = (head : RequestHead) × (body : List ℕ) × HasHead bytes head body
    × ((called : Function) × (count : ℕ) × (judged_head head ≡ Ok (called, count)) × (length body ≡ count))

-- `has_read_all` says whether the bytes that were read from a source are a whole request. The source had the remaining bytes
-- `left` before, and has `now_left` after
abbrev pub SaysIfWhole : (left now_left : Option (List ℕ)) → Bool → Type 0
SaysIfWhole left now_left has_read_all = (taken : List ℕ) × Consumes left now_left taken × (IsTrue has_read_all ↔ IsWholeRequest taken)

-- a request with a head within the limits has only one reply
abbrev pub RepliesOnce : Type 0
RepliesOnce = (S : RbacState) (bytes : List ℕ) (head : RequestHead) (rest : List ℕ) → HasHead bytes head rest → (first second : Reply) → Replies S bytes first → Replies S bytes second → first ≡ second
