-- How requests over HTTP are answered.
use Rattle.std.proofs.Common.{◌≡◌, ◌⊎◌, inl, inr, ℕ, List, false, Result, Ok, Err, refl, sym, ap, subst, ◌∙◌}
use Rattle.std.specs.Cow.{cow_str_bytes}
use Rattle.sqlite.specs.Held.{Held}
use Rattle.sqlite.specs.State.{State}
use Rattle.rbac_sets.specs.declared.refusal.Refusal.{Refusal}
use Rattle.rbac_sets.specs.declared.refusal.Refusal.TheVariants.{Memory, Store, Closed}
use Rattle.role_json.specs.Answer.{refusal_text}
use Rattle.role_json.specs.RequestContent.{RequestContent}
use Rattle.role_tables.specs.Office.{OfficeModel}
use Rattle.role_wire.specs.Continuation.{GoesOnBySome, ReachesState}
use Rattle.role_wire.specs.Events.{AddsReading, AddsRequest, AddsUndone}
use Rattle.role_wire.specs.private.PreparedReply.{AnswersBody, IsReadAs, IsRefusal, ReportsRefusal, is_fixed}
use Rattle.role_wire.specs.Outcome.{outcome_of, state_after}
use Rattle.role_wire.specs.OfficeRequest.{IsImport, DoesRequest, RefusesRequest}
use Rattle.role_wire.specs.private.RequestAnswer.{IsQuestion}
use Rattle.role_wire.specs.Reply.{reply_of}
use Rattle.role_wire.specs.ServedRequest.{IsThisReply, IsAnsweredInstead, IsImported, StaysClosed}
use Rattle.role_wire.specs.declared.prepared_reply.PreparedReply.{PreparedReply}
use Rattle.role_wire.proofs.Judged.{import_accepted, questioned, refused_undone, stays_refused, undone_reaches}
use Rattle.role_wire.proofs.Performed.{same_state, stays}

-- ---- a closed office

module _ {S : Type 0} (old new : OfficeModel S) (AsksFor : RequestContent → Type 0) (status : ℕ) (body : List ℕ) where
  -- an open office
  pub works_on : old.is_closed ≡ false → StaysClosed old AsksFor status body new
  works_on works shut = absurd (let no = sym shut ∙ works in cc)

  -- nothing is asked for
  pub asks_nothing : new ≡ old → ((asked : RequestContent) → ¬ (AsksFor asked)) → StaysClosed old AsksFor status body new
  asks_nothing same none shut = (same, λ asked asks. absurd (none asked asks))

  -- an allocation failed
  pub has_no_memory : new ≡ old → status ≡ 503 → body ≡ refusal_text Memory → StaysClosed old AsksFor status body new
  has_no_memory same is text shut = (same, λ asked asks. inr (is, text))

  -- the answer is 42 Closed
  pub says_closed : new ≡ old → status ≡ 500 → body ≡ refusal_text Closed → StaysClosed old AsksFor status body new
  says_closed same is text shut = (same, λ asked asks. inl (is, text))

-- ---- requests

module _ {S : Type 0} (shown : Held S → State) where
  -- an allocation failed and nothing was done
  pub no_memory_answered : (old new : OfficeModel S) (AsksFor : RequestContent → Type 0) (made : PreparedReply) → IsRefusal Memory made → ReachesState shown old (AddsUndone old.facts AsksFor) old.facts new
      → IsAnsweredInstead shown old AsksFor made.status (cow_str_bytes made.body) new
  no_memory_answered old new AsksFor made is same = inl (is.0, is.1, same)

  -- the same, as an answer to a body
  memory_refused : (old new : OfficeModel S) (read : Result RequestContent Refusal) (made : PreparedReply) → new ≡ old → ReachesState shown old (AddsUndone old.facts (IsReadAs read)) old.facts new → IsRefusal Memory made
      → AnswersBody shown old read made new
  memory_refused old new read made same reaches is = (
    inr (no_memory_answered old new (IsReadAs read) made is reaches),
    has_no_memory old new (IsReadAs read) made.status (cow_str_bytes made.body) same is.0 is.1,
  )

  -- a request that was done or answered
  pub performed_answered : (old new : OfficeModel S) (asked : RequestContent) (text : List ℕ) (status : ℕ) (body : List ℕ) (taken : ℕ) → DoesRequest shown old asked text new → status ≡ 200 → body ≡ text
      → IsThisReply shown old (reply_of old.facts taken (Ok asked)) status body new
  performed_answered old new asked text status body taken performs ok is = rw performs.outcome (ok, is, performs.reaches)

  -- a question whose answer text could not be allocated
  pub question_unanswered : (old new : OfficeModel S) (asked : RequestContent) (text : List ℕ) (made : PreparedReply) → DoesRequest shown old asked text new → IsQuestion asked → IsRefusal Memory made
      → AnswersBody shown old (Ok asked) made new
  question_unanswered old new asked text made performs (query, is) tells = (
    inr (no_memory_answered old new (IsReadAs (Ok asked)) made tells
        (questioned shown old new query (IsReadAs (Ok asked)) (subst (λ a. ReachesState shown old (AddsRequest old.facts a) (state_after old.facts a) new) is performs.reaches))),
    works_on old new (IsReadAs (Ok asked)) made.status (cow_str_bytes made.body) performs.is_open,
  )

  -- an import whose answer text could not be allocated
  pub import_unanswered : (old new : OfficeModel S) (asked : RequestContent) (text : List ℕ) → DoesRequest shown old asked text new → IsImport asked → IsImported shown old (IsReadAs (Ok asked)) new
  import_unanswered old new asked text performs imports =
      (asked, refl, performs.is_open, (imports, import_accepted old.facts asked text performs.outcome imports), performs.reaches)

  unperformed : (old new : OfficeModel S) (asked : RequestContent) → new ≡ old → GoesOnBySome shown old (AddsUndone old.facts (λ it. it ≡ asked)) new → ReachesState shown old (AddsUndone old.facts (IsReadAs (Ok asked))) old.facts new
  unperformed old new asked same runs = undone_reaches shown old new (λ it. it ≡ asked) (IsReadAs (Ok asked)) (λ it is. ap Ok (sym is)) (same_state shown old new (AddsUndone old.facts (λ it. it ≡ asked)) same runs)

  -- a request that was not done
  pub refused_answered : (old new : OfficeModel S) (asked : RequestContent) (refusal : Refusal) (made : PreparedReply) → RefusesRequest shown old asked refusal new → ReportsRefusal refusal made
      → AnswersBody shown old (Ok asked) made new
  refused_answered old new asked refusal made (inl (is, same, runs)) (inl tells) = memory_refused old new (Ok asked) made same (unperformed old new asked same runs) (rw is at tells)
  refused_answered old new asked refusal made (inl (is, same, runs)) (inr (tells, plain)) = memory_refused old new (Ok asked) made same (unperformed old new asked same runs) tells
  refused_answered old new asked refusal made (inr (inl (is, broke))) (inl tells) =
      let told : IsRefusal Store made = rw is at tells in (
        inr (inr (inl (told.0, told.1, (asked, refl, broke)))),
        works_on old new (IsReadAs (Ok asked)) made.status (cow_str_bytes made.body) broke.is_open,
      )
  refused_answered old new asked refusal made (inr (inl (is, broke))) (inr (tells, plain)) =
      absurd (let wrong : is_fixed Store ≡ false = rw is at plain in cc)
  refused_answered old new asked refusal made (inr (inr (inl (is, shut, same)))) (inl tells) =
      let told : IsRefusal Closed made = rw is at tells in (
        inr (inr (inr (told.0, told.1, shut, same, (asked, refl)))),
        says_closed old new (IsReadAs (Ok asked)) made.status (cow_str_bytes made.body) same told.0 told.1,
      )
  refused_answered old new asked refusal made (inr (inr (inl (is, shut, same)))) (inr (tells, plain)) =
      absurd (let wrong : is_fixed Closed ≡ false = rw is at plain in cc)
  refused_answered old new asked refusal made (inr (inr (inr (is, works, same, runs)))) (inl tells) = (
    inl (λ taken. rw is (tells.0, tells.1, subst (λ T. ReachesState shown old (AddsRequest old.facts asked) T new) (sym (stays_refused old.facts asked refusal is)) (same_state shown old new (AddsRequest old.facts asked) same runs))),
    works_on old new (IsReadAs (Ok asked)) made.status (cow_str_bytes made.body) works,
  )
  refused_answered old new asked refusal made (inr (inr (inr (is, works, same, runs)))) (inr (tells, plain)) = (
    inr (no_memory_answered old new (IsReadAs (Ok asked)) made tells (refused_undone shown old new asked refusal (IsReadAs (Ok asked)) (λ it is. ap Ok (sym is)) is (same_state shown old new (AddsRequest old.facts asked) same runs))),
    works_on old new (IsReadAs (Ok asked)) made.status (cow_str_bytes made.body) works,
  )

  -- a body that is no request
  pub unread_answered : (office : OfficeModel S) (read : Result RequestContent Refusal) (refusal : Refusal) (made : PreparedReply) → (refusal ≡ Memory) ⊎ (read ≡ Err refusal) → ReportsRefusal refusal made
      → AnswersBody shown office read made office
  unread_answered office read refusal made (inl is) (inl tells) = memory_refused office office read made refl (stays shown office (AddsUndone office.facts (IsReadAs read)) (inl refl)) (rw is at tells)
  unread_answered office read refusal made why (inr (tells, plain)) = memory_refused office office read made refl (stays shown office (AddsUndone office.facts (IsReadAs read)) (inl refl)) tells
  unread_answered office read refusal made (inr is) (inl tells) = (
    inl (λ taken. rw is (tells.0, tells.1, stays shown office (AddsReading office.facts (Err refusal)) refl)),
    asks_nothing office office (IsReadAs read) made.status (cow_str_bytes made.body) refl (λ asked reads. (let no = sym is ∙ reads in cc)),
  )
