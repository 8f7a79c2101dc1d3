-- A reply with status 500 means that the office is closed.
use Rattle.std.proofs.Common.{◌≡◌, ◌∙◌, inl, inr, ℕ, Bool, true, false, List, [], ◌∷◌, length, take, Option, Some, None, Result, Ok, Err, refl, ap, sym, subst, arith}
use Rattle.std.specs.Prelude.{◌&&◌, nat_le, nat_lt, if◌then◌else◌, codes}
use Rattle.std.specs.Str.{bytes_eq}
use Rattle.std.specs.Str.Parse.{digits_value}
use Rattle.sqlite.specs.Held.{Held}
use Rattle.sqlite.specs.State.{State}
use Rattle.rbac_sets.specs.declared.refusal.Refusal.{Refusal}
use Rattle.rbac_sets.specs.declared.refusal.Refusal.TheVariants.{BadRequest, Memory, Store, Closed}
use Rattle.admin_mgr.specs.RbacState.{RbacState}
use Rattle.role_functions.specs.Function.{longest_body, takes_csv}
use Rattle.role_functions.specs.declared.function.Function.{Function}
use Rattle.role_csv.specs.TextLaws.{refuses_texts}
use Rattle.role_json.specs.Request.{body_to}
use Rattle.role_json.specs.RequestContent.{RequestContent}
use Rattle.role_json.specs.RequestLaws.{refuses_arguments}
use Rattle.role_json.proofs.Refusing.{refusals_of_bodies}
use Rattle.role_http.specs.HeadChecks.{◌>>=◌, Field, agrees, has_field, is_length, judged, judged_head, length_of, one_length, or_status, values_of}
use Rattle.role_http.specs.Route.{function_in}
use Rattle.role_http.specs.Status.{status_of}
use Rattle.role_tables.specs.Office.{OfficeModel}
use Rattle.role_wire.specs.Outcome.{outcome, outcome_of}
use Rattle.role_wire.specs.Reply.{Reply, Replies, behind_head, called_for, reply_to, status_in}
use Rattle.role_wire.specs.ServedRequest.{AnswersBytes}
use Rattle.role_wire.proofs.Judged.{IsJudged, is_judged}

-- ---- heads

-- a value, or a status other than 500
abbrev RefusesOther : {A : Type 0} → Result A ℕ → Type 0
RefusesOther (Ok value) = Unit {0}
RefusesOther (Err status) = status ≡ 500 → ⊥

next : {A B : Type 0} (first : Result A ℕ) (f : A → Result B ℕ) → RefusesOther first → ((a : A) → RefusesOther (f a)) → RefusesOther (first >>= f)
next (Ok a) f other more = more a
next (Err status) f other more = other

wanted : {A : Type 0} (status : ℕ) (found : Option A) → (status ≡ 500 → ⊥) → RefusesOther (or_status status found)
wanted status (Some a) other = tt
wanted status None other = other

either : {A : Type 0} (b : Bool) (one other : Result A ℕ) → RefusesOther one → RefusesOther other → RefusesOther (if b then one else other)
either true one other first second = first
either false one other first second = second

lengths : (before : Option (List ℕ)) (values : List (List ℕ)) → RefusesOther (one_length before values)
unfolding one_length
lengths before [] = tt
lengths before (value ∷ values) = either (is_length value && agrees before value) _ _ (lengths (Some value) values) (λ is. omega (arith, is))

counts : (most : ℕ) (digits : List ℕ) → RefusesOther (length_of most digits)
unfolding length_of
counts most digits = either (nat_le (digits_value 10 digits) most) _ _ tt (λ is. omega (arith, is))

heads : (method : List ℕ) (named : Option Function) (fields : List Field) → RefusesOther (judged method named fields)
unfolding judged
heads method named fields =
    either (has_field (codes "transfer-encoding") fields) _ _ (λ is. omega (arith, is))
    (next (one_length None (values_of (codes "content-length") fields)) _ (lengths None (values_of (codes "content-length") fields)) (λ told.
    next (or_status 404 named) _ (wanted 404 named (λ is. omega (arith, is))) (λ called.
    either (bytes_eq method (codes "POST")) _ _
    (next (or_status 411 told) _ (wanted 411 told (λ is. omega (arith, is))) (λ digits.
    next (length_of (longest_body called) digits) _ (counts (longest_body called) digits) (λ count. tt)))
    (λ is. omega (arith, is)))))

-- ---- requests

judged_other : (refusal : Refusal) → IsJudged refusal → status_of refusal ≡ 500 → ⊥
judged_other Memory judged is = absurd judged
judged_other Store judged is = absurd judged
judged_other Closed judged is = absurd judged
judged_other refusal judged is = omega (arith, is)

-- what refuses a body is about the request
of_body : (csv : Bool) (refusal : Refusal) → (if csv then refuses_texts refusal else refuses_arguments refusal) ≡ true → IsJudged refusal
of_body true Memory told = absurd (cc)
of_body true Store told = absurd (cc)
of_body true Closed told = absurd (cc)
of_body false Memory told = absurd (cc)
of_body false Store told = absurd (cc)
of_body false Closed told = absurd (cc)
of_body csv refusal told = tt

read_judged : (rest : List ℕ) (called : Function) (count : ℕ) (refusal : Refusal) → called_for rest called count ≡ Err refusal → IsJudged refusal
read_judged rest called count refusal = by (nat_lt (length rest) count)
  where
    by : (short : Bool) → (if short then Err BadRequest else body_to called (take count rest)) ≡ Err refusal → IsJudged refusal
    by true is = subst IsJudged (let same : BadRequest ≡ refusal = cc in same) tt
    by false is = of_body (takes_csv called) refusal (refusals_of_bodies called (take count rest) refusal is)

-- the outcome of a request that was read in these ways
outcome_other : (S : RbacState) (read : Result RequestContent Refusal) → ((refusal : Refusal) → read ≡ Err refusal → IsJudged refusal) → status_in (outcome S read) ≡ 500 → ⊥
outcome_other S (Ok asked) judges = by (outcome_of S asked) refl
  where
    by : (told : Result (List ℕ) Refusal) → outcome_of S asked ≡ told → status_in told ≡ 500 → ⊥
    by (Ok text) told is = omega (arith, is)
    by (Err refusal) told is = judged_other refusal (is_judged S asked refusal told) is
outcome_other S (Err refusal) judges = judged_other refusal (judges refusal refl)

behind_other : (S : RbacState) (rest : List ℕ) (judged : Result (Function × ℕ) ℕ) → RefusesOther judged → (behind_head S rest judged).status ≡ 500 → ⊥
behind_other S rest (Err status) other is = other is
behind_other S rest (Ok (called, count)) other is = outcome_other S (called_for rest called count) (read_judged rest called count) is

replies_other : (S : RbacState) (bytes : List ℕ) (reply : Reply) → Replies S bytes reply → reply.status ≡ 500 → ⊥
unfolding reply_to
replies_other S bytes reply (inl (head, rest, has, is)) status =
    behind_other S rest (judged_head head) (heads head.method (function_in head.target) _) (sym (ap (λ (r : Reply). r.status) is) ∙ status)
replies_other S bytes reply (inr (none, inl (bad, empty), body, read, after)) status = omega (arith, bad, status)
replies_other S bytes reply (inr (none, inr large, body, read, after)) status = omega (arith, large, status)

-- ---- answers

module _ {S : Type 0} (shown : Held S → State) where
  pub closed_by_500 : (old new : OfficeModel S) (bytes : List ℕ) (status : ℕ) (body : List ℕ) → AnswersBytes shown old bytes status body new → status ≡ 500 → new.is_closed ≡ true
  closed_by_500 old new bytes status body (inl (reply, replies, (same, text, reaches)), shut) is = absurd (replies_other old.facts bytes reply replies (sym same ∙ is))
  closed_by_500 old new bytes status body (inr (inl (memory, text, reaches)), shut) is = absurd (omega (arith, memory, is))
  closed_by_500 old new bytes status body (inr (inr (inl (store, text, (asked, asks, broke)))), shut) is = broke.breaks.is_closed
  closed_by_500 old new bytes status body (inr (inr (inr (closed, text, was_closed, same, asked))), shut) is = rw same was_closed
