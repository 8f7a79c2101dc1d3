-- What an office does for a command or a question.
use Rattle.std.proofs.Common.{◌≡◌, ◌⊎◌, ◌∷◌, [], inl, inr, List, false, Some, None, Result, Ok, Err, IsTrue, OnOk, IfErr, refl, sym, ap, subst, ◌∙◌}
use Rattle.std.proofs.lemmas.Bool.{cases_Bool}
use Rattle.std.proofs.lemmas.List.{append-nil}
use Rattle.sqlite.specs.Held.{Held}
use Rattle.sqlite.specs.State.{State, HasCleanDisk}
use Rattle.rbac_sets.specs.CommandContent.{content_of}
use Rattle.rbac_sets.specs.declared.command.Command.{Command}
use Rattle.rbac_sets.specs.declared.refusal.Refusal.{Refusal}
use Rattle.rbac_sets.specs.declared.refusal.Refusal.TheVariants.{Memory, Store, Closed}
use Rattle.admin_mgr.specs.declared.plan.Report.{Report}
use Rattle.admin_mgr.specs.After.{after}
use Rattle.admin_mgr.specs.CommandContent.{content_verdict, DependsOnContent}
use Rattle.admin_mgr.specs.OfficeRun.{Event}
use Rattle.admin_mgr.specs.PlanEffect.{tally_of_report}
use Rattle.admin_mgr.specs.RbacState.{RbacState}
use Rattle.admin_mgr.specs.Verdict.{verdict}
use Rattle.admin_mgr.proofs.Verdicts.AskedLaws.{commands_go_by_asked}
use Rattle.review_mgr.specs.Answering.{AnswerContent, value}
use Rattle.review_mgr.specs.Questions.{refused}
use Rattle.review_mgr.specs.declared.query.Query.{Query}
use Rattle.role_json.specs.Answer.{value_text}
use Rattle.role_json.specs.RequestContent.{Change, Ask}
use Rattle.role_tables.specs.Office.{OfficeModel, AnswersCommand, event_of}
use Rattle.role_tables.specs.Runs.{GoesOnBy, IsInRun}
use Rattle.role_tables.specs.Durability.{ForgetsNoFault, HoldsAsBefore, LeavesByEvents, LeavesState, IsDurable}
use Rattle.role_tables.specs.StoredState.{HoldsState}
use Rattle.role_wire.specs.Continuation.{GoesOnBySome, StaysDurable, ReachesState}
use Rattle.role_wire.specs.Events.{AddsFailed, AddsRequest, AddsUndone}
use Rattle.role_wire.specs.Outcome.{accepted_text, outcome_of, state_after}
use Rattle.role_wire.specs.OfficeRequest.{DoesRequest, StoreFailsFor, RefusesRequest}

module _ {S : Type 0} (shown : Held S → State) where
  -- an office is in its own run, with no event added
  pub same_run : (office : OfficeModel S) (Added : List Event → Type 0) → Added [] → GoesOnBySome shown office Added office
  same_run office Added none = ([], none, λ start events run. subst (λ all. IsInRun shown start all office) (sym (append-nil events)) run)

  -- an office to which nothing was done
  unchanged : (office : OfficeModel S) (Added : List Event → Type 0) → Added [] → StaysDurable shown office Added office
  unchanged office Added none = record { clean = λ clean. clean; runs = same_run office Added none; durable = λ clean stands. stands }

  pub stays : (office : OfficeModel S) (Added : List Event → Type 0) → Added [] → ReachesState shown office Added office.facts office
  stays office Added none = record { state = refl; is_closed = refl; keeps = unchanged office Added none }

  -- one that is the same now, but for its run
  pub same_state : (old new : OfficeModel S) (Added : List Event → Type 0) → new ≡ old → GoesOnBySome shown old Added new → ReachesState shown old Added old.facts new
  same_state old new Added same runs = record {
    state = ap (λ (o : OfficeModel S). o.facts) same;
    is_closed = ap (λ (o : OfficeModel S). o.is_closed) same;
    keeps = record {
      clean = subst (λ (o : OfficeModel S). ForgetsNoFault (shown old.conn) (shown o.conn)) (sym same) (λ clean. clean);
      runs = runs;
      durable = subst (λ (o : OfficeModel S). HasCleanDisk (shown o.conn) → IsDurable (shown old.conn) old.facts → IsDurable (shown o.conn) o.facts) (sym same) (λ clean stands. stands);
    };
  }

  -- what is said of the events, less exactly
  pub reaches_by : (old new : OfficeModel S) (First Then : List Event → Type 0) (T : RbacState) → ((more : List Event) → First more → Then more) → ReachesState shown old First T new → ReachesState shown old Then T new
  reaches_by old new First Then T step reaches = record {
    state = reaches.state;
    is_closed = reaches.is_closed;
    keeps = record {
      clean = reaches.keeps.clean;
      runs = (reaches.keeps.runs.0, step reaches.keeps.runs.0 reaches.keeps.runs.1, reaches.keeps.runs.2);
      durable = reaches.keeps.durable;
    };
  }

  -- ---- commands

  module _ (old new : OfficeModel S) (command : Command) (result : Result Report Refusal)
      (closed : IsTrue old.is_closed → (result ≡ Err Closed) × (new ≡ old))
      (answers : old.is_closed ≡ false → AnswersCommand old command result new)
      (clean : ForgetsNoFault (shown old.conn) (shown new.conn))
      (done : old.is_closed ≡ false → HasCleanDisk (shown new.conn) → IsDurable (shown old.conn) old.facts → OnOk result (IsDurable (shown new.conn) (after old.facts command)))
      (undone : old.is_closed ≡ false → HasCleanDisk (shown new.conn) → IsDurable (shown old.conn) old.facts → IfErr result (λ _. HoldsAsBefore (shown old.conn) (shown new.conn)))
      (stop : old.is_closed ≡ false → HasCleanDisk (shown new.conn) → IsDurable (shown old.conn) old.facts → LeavesByEvents (shown new.conn) old.facts (event_of command result ∷ []))
      (run : GoesOnBy shown old (event_of command result) new) where
    one_event : (Added : List Event → Type 0) (reply : Result Report Refusal) → result ≡ reply → Added (event_of command reply ∷ []) → GoesOnBySome shown old Added new
    one_event Added reply is added = (event_of command result ∷ [], subst (λ r. Added (event_of command r ∷ [])) (sym is) added, run)

    law : DependsOnContent old.facts command
    law = commands_go_by_asked old.facts command

    accepted : verdict old.facts command ≡ None → content_verdict old.facts (content_of command) ≡ None
    accepted none = sym law.verdict_is ∙ none

    leads : verdict old.facts command ≡ None → state_after old.facts (Change (content_of command)) ≡ after old.facts command
    unfolding state_after
    leads none = rw (accepted none) (sym law.after_is)

    -- a command that was done
    pub command_done : (report : Report) → result ≡ Ok report → DoesRequest shown old (Change (content_of command)) (accepted_text (content_of command) (tally_of_report report)) new
    unfolding outcome_of
    command_done report is = elim (cases_Bool old.is_closed) [
      | inl shut ↦ absurd (let no = sym is ∙ (closed shut).0 in cc)
      | inr works ↦
          let told : AnswersCommand old command (Ok report) new = subst (λ r. AnswersCommand old command r new) is (answers works) in
          let to = leads told.0 in
          record {
            is_open = works;
            outcome = rw (accepted told.0) (ap (λ tally. Ok (accepted_text (content_of command) tally)) (sym (told.1 ∙ law.tally_is)));
            reaches = record {
              state = told.2 ∙ sym to;
              is_closed = told.3 ∙ sym works;
              keeps = record {
                clean = clean;
                runs = one_event (AddsRequest old.facts (Change (content_of command))) (Ok report) is
                    (event_of command (Ok report), refl, rw (accepted told.0) (ap Ok (told.1 ∙ law.tally_is)), refl);
                durable = λ is_clean stands. subst (λ T. IsDurable (shown new.conn) T) (sym told.2) (subst (λ r. OnOk r (IsDurable (shown new.conn) (after old.facts command))) is (done works is_clean stands));
              };
            };
          }
    ]

    -- one in which the store failed
    broken : old.is_closed ≡ false → result ≡ Err Store → StoreFailsFor shown old (Change (content_of command)) new
    broken works is =
        let told : AnswersCommand old command (Err Store) new = subst (λ r. AnswersCommand old command r new) is (answers works) in
        let to = leads told.0 in
        record {
          is_open = works;
          accepted = (content_of command, refl, accepted told.0);
          breaks = record {
            is_closed = told.1;
            state = told.2;
            clean = clean;
            runs = one_event (AddsFailed (Change (content_of command))) (Err Store) is (event_of command (Err Store), refl, refl, refl);
            held = λ is_clean stands is_open. subst (λ db. HoldsState db old.facts) (sym (subst (λ r. IfErr r (λ _. HoldsAsBefore (shown old.conn) (shown new.conn))) is (undone works is_clean stands) is_open)) stands.held;
            left = λ is_clean stands trees may.
                let found = subst (λ r. LeavesByEvents (shown new.conn) old.facts (event_of command r ∷ [])) is (stop works is_clean stands) trees may in
                elim found.1.2 [
                  | inl before ↦ inl (subst (λ T. LeavesState T trees) before found.2)
                  | inr after ↦ inr (subst (λ T. LeavesState T trees) (after ∙ sym to) found.2)
                ];
          };
        }

    refused_by : old.is_closed ≡ false → (refusal : Refusal) → result ≡ Err refusal → AnswersCommand old command (Err refusal) new → RefusesRequest shown old (Change (content_of command)) refusal new
    unfolding outcome_of
    refused_by works Memory is told = inl (
      refl,
      told,
      one_event (AddsUndone old.facts (λ asked. asked ≡ Change (content_of command))) (Err Memory) is
          (inr (content_of command, refl, (event_of command (Err Memory), refl, inl refl, refl))),
    )
    refused_by works Store is told = inr (inl (refl, broken works is))
    refused_by works Closed is told = absurd told
    refused_by works refusal is told =
        let declined = sym law.verdict_is ∙ told.0 in
        inr (inr (inr (
          rw declined refl,
          works,
          told.1,
          one_event (AddsRequest old.facts (Change (content_of command))) (Err refusal) is (event_of command (Err refusal), refl, rw declined refl, refl),
        )))

    -- one that was not done
    pub command_refused : (refusal : Refusal) → result ≡ Err refusal → RefusesRequest shown old (Change (content_of command)) refusal new
    command_refused refusal is = elim (cases_Bool old.is_closed) [
      | inl shut ↦ let same : refusal ≡ Closed = let both = sym is ∙ (closed shut).0 in cc in inr (inr (inl (same, shut, (closed shut).1)))
      | inr works ↦ refused_by works refusal is (subst (λ r. AnswersCommand old command r new) is (answers works))
    ]

  -- ---- questions

  -- one that was answered
  pub question_answered : (office : OfficeModel S) (query : Query) (content : AnswerContent) → office.is_closed ≡ false → refused office.facts query ≡ None → content ≡ value office.facts query → DoesRequest shown office (Ask query) (value_text content) office
  unfolding outcome_of state_after
  question_answered office query content works accepted is = record {
    is_open = works;
    outcome = rw accepted (ap (λ t. Ok (value_text t)) (sym is));
    reaches = stays office (AddsRequest office.facts (Ask query)) refl;
  }

  -- one that was not
  pub question_refused : (office : OfficeModel S) (query : Query) (refusal : Refusal) → office.is_closed ≡ false → (refusal ≡ Memory) ⊎ (refused office.facts query ≡ Some refusal) → RefusesRequest shown office (Ask query) refusal office
  unfolding outcome_of
  question_refused office query refusal works (inl memory) = inl (memory, refl, same_run office (AddsUndone office.facts (λ asked. asked ≡ Ask query)) (inl refl))
  question_refused office query refusal works (inr is) = inr (inr (inr (rw is refl, works, refl, same_run office (AddsRequest office.facts (Ask query)) refl)))
