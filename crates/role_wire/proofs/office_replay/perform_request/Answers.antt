use Rattle.std.proofs.Common.{◌≡◌, ◌≢◌, IfOk, IfErr, subst, sym}
use Rattle.sqlite.specs.Held.{state}
use Rattle.role_json.specs.Answer.{text_of}
use Rattle.role_json.specs.RequestContent.{requested}
use Rattle.role_json.specs.declared.answer.Verdict.TheVariants.{Done}
use Rattle.role_wire.specs.Continuation.{ReachesState}
use Rattle.role_wire.specs.Events.{AddsRequest}
use Rattle.role_wire.specs.private.RequestAnswer.{FailsRequest}
use Rattle.role_wire.specs.declared.lines.Unanswered.TheVariants.{Memory}
use Rattle.role_wire.specs.Outcome.{outcome_of, state_after, outcome_text}
use Rattle.role_wire.proofs.Judged.{judged_refusal, performed_unanswered}
use Rattle.role_wire.proofs.office_replay.perform_request.Goals as goal

pub returns-in-Err-clause-answered : goal.returns-in-Err-clause-answered
returns-in-Err-clause-answered g c =
    subst (λ r. IfOk r (λ verdict. (text_of verdict ≡ outcome_text (outcome_of c.args.office.now.facts (requested c.args.request.now))) × ReachesState (state g.S.Store) c.args.office.now (AddsRequest c.args.office.now.facts (requested c.args.request.now)) (state_after c.args.office.now.facts (requested c.args.request.now)) c.perform.new.office))
    (sym c.refusal_verdict.ensures) (judged_refusal (state g.S.Store) c.args.office.now c.perform.new.office (requested c.args.request.now) c.in-Err.refusal c.in-Err.ensures.refused).0

pub returns-in-Ok-clause-other : goal.returns-in-Ok-clause-other
returns-in-Ok-clause-other g c other =
    performed_unanswered (state g.S.Store) c.args.office.now c.perform.new.office (requested c.args.request.now) (text_of c.in-Ok.verdict) c.in-Ok.ensures.done (c.in-Ok.ensures.other other)

pub returns-in-Err-clause-other : goal.returns-in-Err-clause-other
returns-in-Err-clause-other g c =
    subst (λ r. IfOk r (λ verdict. verdict ≢ Done → FailsRequest (state g.S.Store) c.args.office.now (requested c.args.request.now) Memory c.perform.new.office))
    (sym c.refusal_verdict.ensures) (judged_refusal (state g.S.Store) c.args.office.now c.perform.new.office (requested c.args.request.now) c.in-Err.refusal c.in-Err.ensures.refused).1

pub returns-in-Err-clause-failed : goal.returns-in-Err-clause-failed
returns-in-Err-clause-failed g c =
    subst (λ r. IfErr r (λ unanswered. FailsRequest (state g.S.Store) c.args.office.now (requested c.args.request.now) unanswered c.perform.new.office))
    (sym c.refusal_verdict.ensures) (judged_refusal (state g.S.Store) c.args.office.now c.perform.new.office (requested c.args.request.now) c.in-Err.refusal c.in-Err.ensures.refused).2
