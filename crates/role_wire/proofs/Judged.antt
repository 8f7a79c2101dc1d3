-- The verdicts on requests and on lines.
use Rattle.std.proofs.Common.{◌≡◌, ◌≢◌, ◌⊎◌, inl, inr, ℕ, List, [], ◌∷◌, length, Bool, true, false, Option, Some, None, Ok, Err, IfOk, IfErr, refl, sym, ap, subst, ◌∙◌}
use Rattle.std.proofs.lemmas.Bool.{cases_Bool}
use Rattle.sqlite.specs.Held.{Held}
use Rattle.sqlite.specs.State.{State}
use Rattle.rbac_sets.specs.CommandContent.{Single, Import}
use Rattle.rbac_sets.specs.Refusal.{is_memory}
use Rattle.rbac_sets.specs.declared.kind.Kind.TheVariants.{Record}
use Rattle.rbac_sets.specs.declared.refusal.Refusal.{Refusal}
use Rattle.rbac_sets.specs.declared.refusal.Refusal.TheVariants.{Memory, Store, Closed, TooMany}
use Rattle.admin_mgr.specs.CommandContent.{content_verdict}
use Rattle.admin_mgr.specs.CommandLaws.{refuses_commands}
use Rattle.admin_mgr.specs.OfficeRun.{Event}
use Rattle.admin_mgr.specs.RbacState.{RbacState}
use Rattle.admin_mgr.specs.Refusals.{first, refuse_if, too_many}
use Rattle.admin_mgr.specs.Verdict.{verdict}
use Rattle.admin_mgr.proofs.Verdicts.RefusingLaws.{verdicts_refuse_commands}
use Rattle.review_mgr.specs.QuestionLaws.{refuses_questions}
use Rattle.review_mgr.specs.Questions.{refused}
use Rattle.review_mgr.specs.declared.query.Query.{Query}
use Rattle.review_mgr.proofs.Refusing.{refusals_of_questions}
use Rattle.role_json.specs.Answer.{text_of}
use Rattle.role_json.specs.Request.{request}
use Rattle.role_json.specs.RequestContent.{RequestContent, Change, Ask}
use Rattle.role_json.specs.declared.answer.Verdict.{Verdict}
use Rattle.role_json.specs.declared.answer.Verdict.TheVariants.{Done}
use Rattle.role_tables.specs.Office.{OfficeModel}
use Rattle.role_wire.specs.Continuation.{ReachesState}
use Rattle.role_wire.specs.Events.{AddsReading, AddsRequest, AddsUndone}
use Rattle.role_wire.specs.LineAnswer.{AnswersLine, FailsFor, FailsLine}
use Rattle.role_wire.specs.private.RequestAnswer.{FailsRequest, verdict_of_refusal, unread_verdict}
use Rattle.role_wire.specs.Outcome.{outcome_of, state_after, outcome_text, unless, answer_to, after_line}
use Rattle.role_wire.specs.OfficeRequest.{RefusesRequest, IsAccepted, IsImport, DoesRequest}
use Rattle.role_wire.specs.private.RequestAnswer.{IsQuestion}
use Rattle.role_wire.specs.declared.lines.Unanswered.{Unanswered}
use Rattle.role_wire.specs.declared.lines.Unanswered.TheVariants as unanswered
use Rattle.role_wire.proofs.Performed.{reaches_by, same_state, stays}

-- ---- what refuses a request

-- a refusal that is about the request, and not about memory or the store
abbrev pub IsJudged : Refusal → Type 0
IsJudged Memory = ⊥
IsJudged Store = ⊥
IsJudged Closed = ⊥
IsJudged refusal = Unit {0}

of_command : (refusal : Refusal) → refuses_commands refusal ≡ true → IsJudged refusal
of_command Memory told = absurd (cc)
of_command Store told = absurd (cc)
of_command Closed told = absurd (cc)
of_command refusal told = tt

of_question : (refusal : Refusal) → refuses_questions refusal ≡ true → IsJudged refusal
of_question Memory told = absurd (cc)
of_question Store told = absurd (cc)
of_question Closed told = absurd (cc)
of_question refusal told = tt

was_refused : {X : Type 0} (v : Option Refusal) (value : X) (refusal : Refusal) → unless v value ≡ Err refusal → v ≡ Some refusal
was_refused None value refusal is = cc
was_refused (Some told) value refusal is = cc

too_large : (b : Bool) (refusal : Refusal) → first (refuse_if b (TooMany Record) ∷ []) ≡ Some refusal → IsJudged refusal
too_large true refusal is = subst IsJudged (let same : TooMany Record ≡ refusal = cc in same) tt
too_large false refusal is = absurd (cc)

-- if a request has a refusal as its outcome, the refusal is about the request
pub is_judged : (S : RbacState) (asked : RequestContent) (refusal : Refusal) → outcome_of S asked ≡ Err refusal → IsJudged refusal
unfolding outcome_of content_verdict
is_judged S (Change (Single command)) refusal is = of_command refusal (verdicts_refuse_commands S command refusal (was_refused (verdict S command) _ refusal is))
is_judged S (Change (Import pairs)) refusal is = too_large _ refusal (was_refused (first (too_many S Record (length pairs) ∷ [])) _ refusal is)
is_judged S (Ask query) refusal is = of_question refusal (refusals_of_questions S query refusal (was_refused (refused S query) _ refusal is))

-- an import that was done is accepted
was_accepted : {X : Type 0} (v : Option Refusal) (value told : X) → unless v value ≡ Ok told → v ≡ None
was_accepted None value told is = refl
was_accepted (Some refusal) value told is = absurd (cc)

pub import_accepted : (S : RbacState) (asked : RequestContent) (text : List ℕ) → outcome_of S asked ≡ Ok text → IsImport asked → IsAccepted S asked
unfolding outcome_of
import_accepted S asked text outcome (pairs, is) =
    let told : outcome_of S (Change (Import pairs)) ≡ Ok text = subst (λ a. outcome_of S a ≡ Ok text) is outcome in
    (Import pairs, is, was_accepted (content_verdict S (Import pairs)) _ text told)

-- a request whose outcome is a refusal doesn't change the state
pub stays_refused : (S : RbacState) (asked : RequestContent) (refusal : Refusal) → outcome_of S asked ≡ Err refusal → state_after S asked ≡ S
unfolding outcome_of state_after
stays_refused S (Change asked) refusal is = rw (was_refused (content_verdict S asked) _ refusal is) refl
stays_refused S (Ask query) refusal is = refl

-- ---- its events

-- a refused command was not done
undone : (S : RbacState) (asked : RequestContent) (refusal : Refusal) → outcome_of S asked ≡ Err refusal → (more : List Event) → AddsRequest S asked more → AddsUndone S (λ it. it ≡ asked) more
unfolding outcome_of
undone S (Change asked) refusal is more (event, same, judged, one) =
    let declined : content_verdict S asked ≡ Some refusal = was_refused (content_verdict S asked) _ refusal is in
    inr (asked, refl, (event, same, inr (refusal, declined, rw declined at judged), one))
undone S (Ask query) refusal is more none = inl none

-- what was not done for one who asks for this, or for that
undone_for : (S : RbacState) (First Then : RequestContent → Type 0) → ((asked : RequestContent) → First asked → Then asked) → (more : List Event) → AddsUndone S First more → AddsUndone S Then more
undone_for S First Then step more (inl none) = inl none
undone_for S First Then step more (inr (asked, for, one)) = inr (asked, step (Change asked) for, one)

module _ {S : Type 0} (shown : Held S → State) where
  abbrev HasAnswer : OfficeModel S → RequestContent → OfficeModel S → Verdict → Type 0
  HasAnswer old asked new verdict = (text_of verdict ≡ outcome_text (outcome_of old.facts asked)) × ReachesState shown old (AddsRequest old.facts asked) (state_after old.facts asked) new

  -- without an answer to a verdict other than `Done`, an allocation failed
  abbrev HasNoAnswer : OfficeModel S → RequestContent → OfficeModel S → Verdict → Type 0
  HasNoAnswer old asked new verdict = verdict ≢ Done → FailsRequest shown old asked unanswered.Memory new

  -- an office to which nothing was done, for one who asks for this, or for that
  pub undone_reaches : (old new : OfficeModel S) (First Then : RequestContent → Type 0) → ((asked : RequestContent) → First asked → Then asked)
      → ReachesState shown old (AddsUndone old.facts First) old.facts new → ReachesState shown old (AddsUndone old.facts Then) old.facts new
  undone_reaches old new First Then step reaches = reaches_by shown old new (AddsUndone old.facts First) (AddsUndone old.facts Then) old.facts (undone_for old.facts First Then step) reaches

  -- an office after a question
  pub questioned : (old new : OfficeModel S) (query : Query) (AsksFor : RequestContent → Type 0) → ReachesState shown old (AddsRequest old.facts (Ask query)) (state_after old.facts (Ask query)) new
      → ReachesState shown old (AddsUndone old.facts AsksFor) old.facts new
  unfolding state_after
  questioned old new query AsksFor reaches = reaches_by shown old new (AddsRequest old.facts (Ask query)) (AddsUndone old.facts AsksFor) old.facts (λ more none. inl none) reaches

  -- and after a request that was refused
  pub refused_undone : (old new : OfficeModel S) (asked : RequestContent) (refusal : Refusal) (AsksFor : RequestContent → Type 0) → ((it : RequestContent) → it ≡ asked → AsksFor it) → outcome_of old.facts asked ≡ Err refusal
      → ReachesState shown old (AddsRequest old.facts asked) old.facts new → ReachesState shown old (AddsUndone old.facts AsksFor) old.facts new
  refused_undone old new asked refusal AsksFor asks is reaches = undone_reaches old new (λ it. it ≡ asked) AsksFor asks
      (reaches_by shown old new (AddsRequest old.facts asked) (AddsUndone old.facts (λ it. it ≡ asked)) old.facts (undone old.facts asked refusal is) reaches)

  -- a question that was answered, or an import that was done
  pub performed_unanswered : (old new : OfficeModel S) (asked : RequestContent) (text : List ℕ) → DoesRequest shown old asked text new → IsQuestion asked ⊎ IsImport asked → FailsRequest shown old asked unanswered.Memory new
  performed_unanswered old new asked text performs (inl (query, is)) =
      inl (questioned old new query (λ it. it ≡ asked) (subst (λ a. ReachesState shown old (AddsRequest old.facts a) (state_after old.facts a) new) is performs.reaches))
  performed_unanswered old new asked text performs (inr imports) = inr (asked, refl, (imports, import_accepted old.facts asked text performs.outcome imports), performs.reaches)

  judged_so : (old new : OfficeModel S) (asked : RequestContent) (refusal : Refusal) → IsJudged refusal → outcome_of old.facts asked ≡ Err refusal → ReachesState shown old (AddsRequest old.facts asked) old.facts new
      → IfOk (verdict_of_refusal refusal) (HasAnswer old asked new) × IfOk (verdict_of_refusal refusal) (HasNoAnswer old asked new)
      × IfErr (verdict_of_refusal refusal) (λ unanswered. FailsRequest shown old asked unanswered new)
  unfolding text_of
  judged_so old new asked Memory judged is reaches = absurd judged
  judged_so old new asked Store judged is reaches = absurd judged
  judged_so old new asked Closed judged is reaches = absurd judged
  judged_so old new asked refusal judged is reaches = (
    (sym (ap outcome_text is), subst (λ T. ReachesState shown old (AddsRequest old.facts asked) T new) (sym (stays_refused old.facts asked refusal is)) reaches),
    λ other. inl (refused_undone old new asked refusal (λ it. it ≡ asked) (λ it same. same) is reaches),
    tt,
  )

  -- a request that was not done
  pub judged_refusal : (old new : OfficeModel S) (asked : RequestContent) (refusal : Refusal) → RefusesRequest shown old asked refusal new
      → IfOk (verdict_of_refusal refusal) (HasAnswer old asked new) × IfOk (verdict_of_refusal refusal) (HasNoAnswer old asked new)
      × IfErr (verdict_of_refusal refusal) (λ unanswered. FailsRequest shown old asked unanswered new)
  judged_refusal old new asked refusal (inl (is, same, runs)) = rw is (tt, tt, inl (same_state shown old new (AddsUndone old.facts (λ it. it ≡ asked)) same runs))
  judged_refusal old new asked refusal (inr (inl (is, broke))) = rw is (tt, tt, (broke.breaks.is_closed, inr (asked, refl, broke.accepted, broke.breaks)))
  judged_refusal old new asked refusal (inr (inr (inl (is, shut, same)))) = rw is (tt, tt, (rw same shut, inl (shut, same)))
  judged_refusal old new asked refusal (inr (inr (inr (is, works, same, runs)))) =
      judged_so old new asked refusal (is_judged old.facts asked refusal is) is (same_state shown old new (AddsRequest old.facts asked) same runs)

  -- ---- lines

  -- what a request does, a line does that asks for it
  pub line_reaches : (old new : OfficeModel S) (S : RbacState) (line : List ℕ) (asked : RequestContent) → request line ≡ Ok asked → ReachesState shown old (AddsRequest S asked) (state_after S asked) new
      → ReachesState shown old (AddsReading S (request line)) (after_line S line) new
  unfolding after_line
  line_reaches old new S line asked read reaches = rw read reaches

  pub line_answered : (old new : OfficeModel S) (line text : List ℕ) (asked : RequestContent) → request line ≡ Ok asked → text ≡ outcome_text (outcome_of old.facts asked)
      → ReachesState shown old (AddsRequest old.facts asked) (state_after old.facts asked) new → AnswersLine shown old line text new
  unfolding answer_to
  line_answered old new line text asked read is reaches = record { text_is = rw read is; reaches = line_reaches old new old.facts line asked read reaches }

  -- there is no answer for one who asks for this, or for that
  fails_for : (old new : OfficeModel S) (First Then : RequestContent → Type 0) → ((asked : RequestContent) → First asked → Then asked) → (why : Unanswered) → FailsFor shown old First why new → FailsFor shown old Then why new
  fails_for old new First Then step unanswered.Memory (inl reaches) =
      inl (undone_reaches old new First Then step reaches)
  fails_for old new First Then step unanswered.Memory (inr (asked, for, imports, reaches)) = inr (asked, step asked for, imports, reaches)
  fails_for old new First Then step unanswered.Store (closed, inl shut) = (closed, inl shut)
  fails_for old new First Then step unanswered.Store (closed, inr (asked, for, accepted, broke)) = (closed, inr (asked, step asked for, accepted, broke))

  pub line_failed : (old new : OfficeModel S) (line : List ℕ) (asked : RequestContent) (why : Unanswered) → request line ≡ Ok asked → FailsRequest shown old asked why new → FailsLine shown old line why new
  line_failed old new line asked why read fails = fails_for old new (λ it. it ≡ asked) (λ it. request line ≡ Ok it) (λ it same. read ∙ ap Ok (sym same)) why fails

  -- nothing was done for a line
  stays_undone : (office : OfficeModel S) (line : List ℕ) → ReachesState shown office (AddsUndone office.facts (λ asked. request line ≡ Ok asked)) office.facts office
  stays_undone office line = stays shown office (AddsUndone office.facts (λ asked. request line ≡ Ok asked)) (inl refl)

  -- a line that is no request
  pub line_unread : (office : OfficeModel S) (line : List ℕ) (refusal : Refusal) → (refusal ≡ Memory) ⊎ (request line ≡ Err refusal)
      → IfOk (unread_verdict refusal) (λ verdict. AnswersLine shown office line (text_of verdict) office)
      × IfOk (unread_verdict refusal) (λ verdict. verdict ≢ Done → FailsLine shown office line unanswered.Memory office)
      × IfErr (unread_verdict refusal) (λ unanswered. FailsLine shown office line unanswered office)
  unfolding answer_to after_line text_of
  line_unread office line refusal (inl memory) = rw memory (tt, tt, inl (stays_undone office line))
  line_unread office line refusal (inr read) = elim (cases_Bool (is_memory refusal)) [
    | inl memory ↦ rw memory (tt, tt, inl (stays_undone office line))
    | inr plain ↦ rw plain (record { text_is = rw read refl; reaches = rw read (stays shown office (AddsReading office.facts (Err refusal)) refl) }, λ other. inl (stays_undone office line), tt)
  ]
