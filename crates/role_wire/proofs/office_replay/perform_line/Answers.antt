use Rattle.std.proofs.Common.{◌≢◌, IfOk, IfErr, subst, sym}
use Rattle.sqlite.specs.Held.{state}
use Rattle.role_json.specs.Answer.{text_of}
use Rattle.role_json.specs.RequestContent.{requested}
use Rattle.role_json.specs.declared.answer.Verdict.TheVariants.{Done}
use Rattle.role_wire.specs.LineAnswer.{AnswersLine, FailsLine}
use Rattle.role_wire.specs.declared.lines.Unanswered.TheVariants.{Memory}
use Rattle.role_wire.proofs.Judged.{line_answered, line_failed, line_unread}
use Rattle.role_wire.proofs.Results.{if_ok-then, if_err-then}
use Rattle.role_wire.proofs.office_replay.perform_line.Goals as goal

pub returns-in-Ok-clause-answered : goal.returns-in-Ok-clause-answered
returns-in-Ok-clause-answered g c =
    if_ok-then c.perform_request.result _ _ c.perform_request.ensures.answered (λ verdict told.
    line_answered (state g.S.Store) c.args.office.now c.perform_request.new.office c.args.line.now (text_of verdict) (requested c.in-Ok.request) c.in-Ok.ensures.ok told.0 told.1)

pub returns-in-Ok-clause-other : goal.returns-in-Ok-clause-other
returns-in-Ok-clause-other g c =
    if_ok-then c.perform_request.result _ _ c.perform_request.ensures.other (λ verdict told other.
    line_failed (state g.S.Store) c.args.office.now c.perform_request.new.office c.args.line.now (requested c.in-Ok.request) Memory c.in-Ok.ensures.ok (told other))

pub returns-in-Ok-clause-failed : goal.returns-in-Ok-clause-failed
returns-in-Ok-clause-failed g c =
    if_err-then c.perform_request.result _ _ c.perform_request.ensures.failed (λ unanswered failed.
    line_failed (state g.S.Store) c.args.office.now c.perform_request.new.office c.args.line.now (requested c.in-Ok.request) unanswered c.in-Ok.ensures.ok failed)

pub returns-in-Err-clause-answered : goal.returns-in-Err-clause-answered
returns-in-Err-clause-answered g c =
    subst (λ r. IfOk r (λ verdict. AnswersLine (state g.S.Store) c.args.office.now c.args.line.now (text_of verdict) c.args.office.now)) (sym c.unread_verdict.ensures)
    (line_unread (state g.S.Store) c.args.office.now c.args.line.now c.in-Err.refusal c.in-Err.ensures.err).0

pub returns-in-Err-clause-other : goal.returns-in-Err-clause-other
returns-in-Err-clause-other g c =
    subst (λ r. IfOk r (λ verdict. verdict ≢ Done → FailsLine (state g.S.Store) c.args.office.now c.args.line.now Memory c.args.office.now)) (sym c.unread_verdict.ensures)
    (line_unread (state g.S.Store) c.args.office.now c.args.line.now c.in-Err.refusal c.in-Err.ensures.err).1

pub returns-in-Err-clause-failed : goal.returns-in-Err-clause-failed
returns-in-Err-clause-failed g c =
    subst (λ r. IfErr r (λ unanswered. FailsLine (state g.S.Store) c.args.office.now c.args.line.now unanswered c.args.office.now)) (sym c.unread_verdict.ensures)
    (line_unread (state g.S.Store) c.args.office.now c.args.line.now c.in-Err.refusal c.in-Err.ensures.err).2
