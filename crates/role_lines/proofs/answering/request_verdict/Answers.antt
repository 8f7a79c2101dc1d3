use Rattle.std.proofs.Common.{IfOk, IfErr, subst, sym}
use Rattle.role_json.specs.Answer.{text_of}
use Rattle.role_json.specs.RequestContent.{requested}
use Rattle.role_lines.specs.private.LineAnswer.{AnswersRequest, HadNoMemory}
use Rattle.role_lines.proofs.Judging.{request_done, request_declined}
use Rattle.role_lines.proofs.answering.request_verdict.Goals as goal

pub returns-in-Ok-clause-answered : goal.returns-in-Ok-clause-answered
returns-in-Ok-clause-answered c =
    request_done c.args.state.now.facts c.args.revision.now (requested c.args.request.now) (text_of c.in-Ok.verdict) c.perform.new.state.facts c.perform.new.revision c.in-Ok.ensures.done

pub returns-in-Err-clause-answered : goal.returns-in-Err-clause-answered
returns-in-Err-clause-answered c =
    let S = c.args.state.now.facts in let n = c.args.revision.now in let T = c.perform.new.state.facts in let m = c.perform.new.revision in
    subst (λ r. IfOk r (λ verdict. AnswersRequest S n (requested c.args.request.now) (text_of verdict) T m)) (sym c.refusal_verdict.ensures)
    (request_declined S n (requested c.args.request.now) c.in-Err.refusal T m c.in-Err.ensures.declined).0

pub returns-in-Err-clause-stopped : goal.returns-in-Err-clause-stopped
returns-in-Err-clause-stopped c =
    let S = c.args.state.now.facts in let n = c.args.revision.now in let T = c.perform.new.state.facts in let m = c.perform.new.revision in
    subst (λ r. IfErr r (λ cause. HadNoMemory S n cause T m)) (sym c.refusal_verdict.ensures)
    (request_declined S n (requested c.args.request.now) c.in-Err.refusal T m c.in-Err.ensures.declined).1
