use Rattle.std.proofs.Common.{◌≡◌, ◌⊎◌, Some, None, Err, IfErr, rules, sym, subst}
use Rattle.rbac_sets.specs.declared.refusal.Refusal.TheVariants.{Memory}
use Rattle.admin_mgr.specs.StateWithRoom.{StateWithRoom}
use Rattle.review_mgr.specs.Answering.{answer_content, value}
use Rattle.review_mgr.specs.Questions.{refused}
use Rattle.role_json.specs.Answer.{text_of}
use Rattle.role_json.specs.RequestContent.{Ask}
use Rattle.role_lines.specs.private.LineAnswer.{RefusesRequest}
use Rattle.role_lines.proofs.Judging.{question_answered, question_refused}
use Rattle.role_lines.proofs.answering.question.Goals as goal

pub returns-in_err-answer-clause-declined : goal.returns-in_err-answer-clause-declined
returns-in_err-answer-clause-declined c =
    let S = c.args.state.now.facts in
    let n = c.args.revision.now in
    let refusal = c.in_err-answer.field-0.0 in
    let is : c.from_residual.result ≡ Err refusal = search rules in
    subst (λ r. IfErr r (λ refusal. RefusesRequest S n (Ask c.args.query.now) refusal S n)) (sym is)
    (question_refused S n c.args.query.now refusal (subst (λ (kept : StateWithRoom). (refusal ≡ Memory) ⊎ (refused kept.facts c.args.query.now ≡ Some refusal)) c.state.ensures c.in_err-answer.ensures.refused))

pub returns-clause-done : goal.returns-clause-done
unfolding text_of
returns-clause-done c =
    let content = answer_content c.in_ok-answer.answer in
    question_answered c.args.state.now.facts c.args.revision.now c.args.query.now content
    (subst (λ (kept : StateWithRoom). refused kept.facts c.args.query.now ≡ None) c.state.ensures c.in_ok-answer.ensures.answered)
    (subst (λ (kept : StateWithRoom). content ≡ value kept.facts c.args.query.now) c.state.ensures c.in_ok-answer.ensures.value)
