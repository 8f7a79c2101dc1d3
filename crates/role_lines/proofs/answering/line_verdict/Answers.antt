use Rattle.std.proofs.Common.{IfOk, IfErr, subst, sym}
use Rattle.role_json.specs.Answer.{text_of}
use Rattle.role_json.specs.RequestContent.{requested}
use Rattle.role_lines.specs.private.LineAnswer.{AnswersLine, HadNoMemory}
use Rattle.role_lines.proofs.Judging.{line_answered, line_unread}
use Rattle.role_lines.proofs.Results.{if_ok-then}
use Rattle.role_lines.proofs.answering.line_verdict.Goals as goal

pub returns-in-Ok-clause-answered : goal.returns-in-Ok-clause-answered
returns-in-Ok-clause-answered c =
    let T = c.request_verdict.new.state.facts in let m = c.request_verdict.new.revision in
    if_ok-then c.request_verdict.result _ _ c.request_verdict.ensures.answered (λ verdict answered.
    line_answered c.args.state.now.facts c.args.revision.now c.args.line.now (requested c.in-Ok.request) (text_of verdict) T m c.in-Ok.ensures.ok answered)

pub returns-in-Err-clause-answered : goal.returns-in-Err-clause-answered
returns-in-Err-clause-answered c =
    let S = c.args.state.now.facts in let n = c.args.revision.now in
    subst (λ r. IfOk r (λ verdict. AnswersLine S n c.args.line.now (text_of verdict) S n)) (sym c.refusal_verdict.ensures)
    (line_unread S n c.args.line.now c.in-Err.refusal c.in-Err.ensures.err).0

pub returns-in-Err-clause-stopped : goal.returns-in-Err-clause-stopped
returns-in-Err-clause-stopped c =
    let S = c.args.state.now.facts in let n = c.args.revision.now in
    subst (λ r. IfErr r (λ cause. HadNoMemory S n cause S n)) (sym c.refusal_verdict.ensures)
    (line_unread S n c.args.line.now c.in-Err.refusal c.in-Err.ensures.err).1
