use Rattle.std.proofs.Common.{◌≡◌, ◌⊎◌, false, Some, None, Err, IfErr, rules, subst, sym}
use Rattle.sqlite.specs.Held.{state}
use Rattle.rbac_sets.specs.declared.refusal.Refusal.TheVariants.{Memory}
use Rattle.review_mgr.specs.Answering.{answer_content, value}
use Rattle.review_mgr.specs.Questions.{refused}
use Rattle.role_json.specs.Answer.{text_of}
use Rattle.role_json.specs.RequestContent.{Ask}
use Rattle.role_wire.specs.OfficeRequest.{RefusesRequest}
use Rattle.role_wire.proofs.Performed.{question_answered, question_refused}
use Rattle.role_wire.proofs.office_request.answer.Goals as goal

pub returns-in_err-answer-clause-refused : goal.returns-in_err-answer-clause-refused
returns-in_err-answer-clause-refused g c =
    let is : c.from_residual-in_err-answer.result ≡ Err c.in_err-answer.field-0.0 = search rules in
    let facts : c.in_ok-state.state.now.facts ≡ c.args.office.now.facts = search rules in
    let works : c.args.office.now.is_closed ≡ false = search rules in
    subst (λ r. IfErr r (λ refusal. RefusesRequest (state g.S.Store) c.args.office.now (Ask c.args.query.now) refusal c.args.office.now)) (sym is)
    (question_refused (state g.S.Store) c.args.office.now c.args.query.now c.in_err-answer.field-0.0 works
    (subst (λ S. (c.in_err-answer.field-0.0 ≡ Memory) ⊎ (refused S c.args.query.now ≡ Some c.in_err-answer.field-0.0)) facts c.in_err-answer.ensures.refused))

pub returns-clause-done : goal.returns-clause-done
unfolding text_of
returns-clause-done g c =
    let facts : c.in_ok-state.state.now.facts ≡ c.args.office.now.facts = search rules in
    let works : c.args.office.now.is_closed ≡ false = search rules in
    question_answered (state g.S.Store) c.args.office.now c.args.query.now (answer_content c.in_ok-answer.answer) works
    (subst (λ S. refused S c.args.query.now ≡ None) facts c.in_ok-answer.ensures.answered)
    (subst (λ S. answer_content c.in_ok-answer.answer ≡ value S c.args.query.now) facts c.in_ok-answer.ensures.value)
