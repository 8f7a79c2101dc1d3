-- Calls: what follows a head.
use Rattle.std.proofs.Common.{◌≡◌, ◌≤◌, ◌<◌, ◌∙◌, inl, ℕ, List, length, length-append, length-take, take, Option, Some, None, Err, sym, refl, arith, subst}
use Rattle.std.specs.Cow.{cow_str_bytes}
use Rattle.std.specs.Io.KnownBytes.{IsAtEnd}
use Rattle.std.proofs.lemmas.Bool.{le-ltb, lt-ltb}
use Rattle.std.proofs.lemmas.List.{append-nil, take-append-le, take_all}
use Rattle.sqlite.specs.Held.{Held}
use Rattle.sqlite.specs.State.{State}
use Rattle.rbac_sets.specs.declared.refusal.Refusal.TheVariants.{BadRequest}
use Rattle.role_json.specs.Request.{body_to}
use Rattle.role_functions.specs.declared.function.Function.{Function}
use Rattle.role_http.specs.HeadAnswer.{with_left}
use Rattle.role_tables.specs.Office.{OfficeModel}
use Rattle.role_wire.specs.Events.{AddsReading}
use Rattle.role_wire.specs.private.PreparedReply.{AnswersBody, IsReadAs}
use Rattle.role_wire.specs.Reply.{called_for, head_body}
use Rattle.role_wire.specs.declared.prepared_reply.PreparedReply.{PreparedReply}
use Rattle.role_wire.proofs.Performed.{stays}
use Rattle.role_wire.proofs.HttpAnswers.{asks_nothing}

-- ---- bytes that were read, and those that are left

length-with_left : (taken : List ℕ) (left : Option (List ℕ)) → length taken ≤ length (with_left taken left)
length-with_left taken None = omega arith
length-with_left taken (Some ys) = omega (arith, length-append taken ys)

take-with_left : (taken : List ℕ) (left : Option (List ℕ)) (count : ℕ) → length taken ≡ count → take count (with_left taken left) ≡ taken
take-with_left taken None count e = take_all count taken (omega (arith, e))
take-with_left taken (Some ys) count e = take-append-le count taken ys (omega (arith, e)) ∙ take_all count taken (omega (arith, e))

pub with_left-end : (taken : List ℕ) (left : Option (List ℕ)) → IsAtEnd left → with_left taken left ≡ taken
with_left-end taken None at_end = refl
with_left-end taken (Some ys) at_end = rw at_end (append-nil taken)

-- ---- a body

-- that is whole
pub called_whole : (taken : List ℕ) (left : Option (List ℕ)) (called : Function) (count : ℕ) → length taken ≡ count → called_for (with_left taken left) called count ≡ body_to called taken
called_whole taken left called count e =
    rw (le-ltb (length (with_left taken left)) count (omega (arith, e, length-with_left taken left)), take-with_left taken left count e) refl

-- that is short
pub called_short : (taken : List ℕ) (left : Option (List ℕ)) (called : Function) (count : ℕ) → length taken < count → IsAtEnd left → called_for (with_left taken left) called count ≡ Err BadRequest
called_short taken left called count less at_end = rw (with_left-end taken left at_end, lt-ltb (length taken) count less) refl

-- no more was read than the call has
pub taken_within : (taken : List ℕ) (left : Option (List ℕ)) (count : ℕ) → length taken ≤ count → length taken ≤ length (take count (with_left taken left))
taken_within taken left count within = omega (arith, within, length-take count (with_left taken left), length-with_left taken left)

module _ {S : Type 0} (shown : Held S → State) where
  -- the reply to a short body
  pub short_answered : (office : OfficeModel S) (taken : List ℕ) (left : Option (List ℕ)) (called : Function) (count : ℕ) (made : PreparedReply) → length taken < count → IsAtEnd left
      → made.status ≡ 400 → cow_str_bytes made.body ≡ head_body 400 → AnswersBody shown office (called_for (with_left taken left) called count) made office
  unfolding head_body
  short_answered office taken left called count made less at_end status body =
      subst (λ read. AnswersBody shown office read made office) (sym (called_short taken left called count less at_end)) (
        inl (λ _. (status, body, stays shown office (AddsReading office.facts (Err BadRequest)) refl)),
        asks_nothing office office (IsReadAs (Err BadRequest)) made.status (cow_str_bytes made.body) refl (λ asked reads. (cc)),
      )
