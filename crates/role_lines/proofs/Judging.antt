-- What a state and its revision are after a command, a question, a request and a line.
use Rattle.std.proofs.Common.{◌≡◌, ◌⊎◌, inl, inr, ℕ, List, true, Option, Some, None, Ok, Err, IfOk, IfErr, refl, sym, ap, ◌∙◌}
use Rattle.std.proofs.lemmas.Bool.{cases_Bool}
use Rattle.rbac_sets.specs.CommandContent.{content_of}
use Rattle.rbac_sets.specs.Refusal.{is_memory}
use Rattle.rbac_sets.specs.declared.command.Command.{Command}
use Rattle.rbac_sets.specs.declared.refusal.Refusal.{Refusal}
use Rattle.rbac_sets.specs.declared.refusal.Refusal.TheVariants.{Memory}
use Rattle.admin_mgr.specs.After.{after}
use Rattle.admin_mgr.specs.Assignment.{Tally}
use Rattle.admin_mgr.specs.CommandContent.{content_verdict, DependsOnContent}
use Rattle.admin_mgr.specs.RbacState.{RbacState}
use Rattle.admin_mgr.specs.Run.{tally}
use Rattle.admin_mgr.specs.Verdict.{verdict}
use Rattle.admin_mgr.proofs.Verdicts.AskedLaws.{commands_go_by_asked}
use Rattle.review_mgr.specs.Answering.{AnswerContent, value}
use Rattle.review_mgr.specs.Questions.{refused}
use Rattle.review_mgr.specs.declared.query.Query.{Query}
use Rattle.role_json.specs.Answer.{text_of, value_text}
use Rattle.role_json.specs.Request.{request}
use Rattle.role_json.specs.RequestContent.{RequestContent, Change, Ask}
use Rattle.role_lines.specs.private.LineAnswer.{AnswersLine, AnswersRequest, RefusesRequest, HadNoMemory, DoesRequest, verdict_of_refusal}
use Rattle.role_lines.specs.Outcome.{accepted_text, outcome_of, state_after, outcome_text, unless, answer_to, after_line}
use Rattle.role_lines.specs.Revision.{next_revision, revision_after, revision_after_line}

module _ (S : RbacState) (n : ℕ) (command : Command) where
  law : DependsOnContent S command
  law = commands_go_by_asked S command

  accepted : verdict S command ≡ None → content_verdict S (content_of command) ≡ None
  accepted none = sym law.verdict_is ∙ none

  -- a command that was done
  pub command_done : (T : RbacState) (m : ℕ) (told : Tally) (text : List ℕ) → verdict S command ≡ None → T ≡ after S command → m ≡ next_revision n → told ≡ tally S command
      → text ≡ accepted_text (content_of command) told → DoesRequest S n (Change (content_of command)) text T m
  unfolding outcome_of state_after revision_after
  command_done T m told text none to counted is text_is = record {
    outcome = rw (accepted none) (ap (λ t. Ok t) (ap (λ n. accepted_text (content_of command) n) (sym (is ∙ law.tally_is)) ∙ sym text_is));
    state = rw (accepted none) (to ∙ law.after_is);
    revision = rw (accepted none) counted;
  }

  -- one that was refused
  pub command_refused : (T : RbacState) (m : ℕ) (refusal : Refusal) → T ≡ S → m ≡ n → (refusal ≡ Memory) ⊎ (verdict S command ≡ Some refusal)
      → RefusesRequest S n (Change (content_of command)) refusal T m
  unfolding outcome_of
  command_refused T m refusal same still (inl memory) = record { state = same; revision = still; cause = inl memory }
  command_refused T m refusal same still (inr is) = record { state = same; revision = still; cause = inr (rw (sym law.verdict_is ∙ is) refl) }

module _ (S : RbacState) (n : ℕ) (query : Query) where
  -- a question that was answered
  pub question_answered : (content : AnswerContent) → refused S query ≡ None → content ≡ value S query → DoesRequest S n (Ask query) (value_text content) S n
  unfolding outcome_of state_after revision_after
  question_answered content none is = record { outcome = rw none (ap (λ t. Ok (value_text t)) (sym is)); state = refl; revision = refl }

  -- one that was refused
  pub question_refused : (refusal : Refusal) → (refusal ≡ Memory) ⊎ (refused S query ≡ Some refusal) → RefusesRequest S n (Ask query) refusal S n
  unfolding outcome_of
  question_refused refusal (inl memory) = record { state = refl; revision = refl; cause = inl memory }
  question_refused refusal (inr is) = record { state = refl; revision = refl; cause = inr (rw is refl) }

was_refused : {X : Type 0} (v : Option Refusal) (value : X) (refusal : Refusal) → unless v value ≡ Err refusal → v ≡ Some refusal
was_refused None value refusal is = cc
was_refused (Some told) value refusal is = cc

module _ (S : RbacState) (n : ℕ) where
  -- a refused request doesn't change the state
  stays_refused : (asked : RequestContent) (refusal : Refusal) → outcome_of S asked ≡ Err refusal → state_after S asked ≡ S
  unfolding outcome_of state_after
  stays_refused (Change asked) refusal is = rw (was_refused (content_verdict S asked) _ refusal is) refl
  stays_refused (Ask query) refusal is = refl

  -- nor the revision
  counts_none : (asked : RequestContent) (refusal : Refusal) → outcome_of S asked ≡ Err refusal → revision_after S asked n ≡ n
  unfolding outcome_of revision_after
  counts_none (Change asked) refusal is = rw (was_refused (content_verdict S asked) _ refusal is) refl
  counts_none (Ask query) refusal is = refl

module _ (S : RbacState) (n : ℕ) (asked : RequestContent) where
  pub request_done : (text : List ℕ) (T : RbacState) (m : ℕ) → DoesRequest S n asked text T m → AnswersRequest S n asked text T m
  request_done text T m done = record { text_is = sym (ap outcome_text done.outcome); state = done.state; revision = done.revision }

  -- a request that was declined
  pub request_declined : (refusal : Refusal) (T : RbacState) (m : ℕ) → RefusesRequest S n asked refusal T m
      → IfOk (verdict_of_refusal refusal) (λ verdict. AnswersRequest S n asked (text_of verdict) T m) × IfErr (verdict_of_refusal refusal) (λ cause. HadNoMemory S n cause T m)
  unfolding text_of
  request_declined refusal T m declined = elim (cases_Bool (is_memory refusal)) [
    | inl memory ↦ rw memory (tt, record { cause = refl; state = declined.state; revision = declined.revision })
    | inr plain ↦ rw plain (elim declined.cause [
      | inl memory ↦ absurd (let no : is_memory Memory ≡ true = refl in let so = ap is_memory memory in cc)
      | inr is ↦ (
        record {
          text_is = sym (ap outcome_text is);
          state = declined.state ∙ sym (stays_refused S n asked refusal is);
          revision = declined.revision ∙ sym (counts_none S n asked refusal is);
        },
        tt,
      )
    ])
  ]

module _ (S : RbacState) (n : ℕ) (line : List ℕ) where
  pub line_answered : (asked : RequestContent) (text : List ℕ) (T : RbacState) (m : ℕ) → request line ≡ Ok asked → AnswersRequest S n asked text T m → AnswersLine S n line text T m
  unfolding answer_to after_line revision_after_line
  line_answered asked text T m read answered = record { text_is = rw read answered.text_is; state = rw read answered.state; revision = rw read answered.revision }

  -- a line that is no request
  pub line_unread : (refusal : Refusal) → (refusal ≡ Memory) ⊎ (request line ≡ Err refusal)
      → IfOk (verdict_of_refusal refusal) (λ verdict. AnswersLine S n line (text_of verdict) S n) × IfErr (verdict_of_refusal refusal) (λ cause. HadNoMemory S n cause S n)
  unfolding answer_to after_line revision_after_line text_of
  line_unread refusal (inl memory) = rw memory (tt, record { cause = refl; state = refl; revision = refl })
  line_unread refusal (inr read) = elim (cases_Bool (is_memory refusal)) [
    | inl memory ↦ rw memory (tt, record { cause = refl; state = refl; revision = refl })
    | inr plain ↦ rw plain (record { text_is = rw read refl; state = rw read refl; revision = rw read refl }, tt)
  ]
