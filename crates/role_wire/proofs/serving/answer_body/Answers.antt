use Rattle.std.proofs.Common.{subst, sym}
use Rattle.sqlite.specs.Held.{state}
use Rattle.role_json.specs.Request.{body_to}
use Rattle.role_wire.specs.ServedRequest.{IsImported}
use Rattle.role_wire.specs.private.PreparedReply.{AnswersBody, IsReadAs}
use Rattle.role_wire.proofs.Results.{if_ok-then, if_err-then}
use Rattle.role_wire.proofs.HttpAnswers.{unread_answered}
use Rattle.role_wire.proofs.serving.answer_body.Goals as goal

pub returns-in-Ok-clause-made : goal.returns-in-Ok-clause-made
returns-in-Ok-clause-made g c =
    if_ok-then c.answer_request.result _ _ c.answer_request.ensures.made (λ made told.
    subst (λ read. AnswersBody (state g.S.Store) c.args.office.now read made c.answer_request.new.office) (sym c.in-Ok.ensures.ok) told)

pub returns-in-Ok-clause-left : goal.returns-in-Ok-clause-left
returns-in-Ok-clause-left g c =
    if_err-then c.answer_request.result _ _ c.answer_request.ensures.left (λ cause left.
    (left.0, subst (λ read. IsImported (state g.S.Store) c.args.office.now (IsReadAs read) c.answer_request.new.office) (sym c.in-Ok.ensures.ok) left.1))

pub returns-in-Err-clause-made : goal.returns-in-Err-clause-made
returns-in-Err-clause-made g c =
    unread_answered (state g.S.Store) c.args.office.now (body_to c.args.called c.args.body.now) c.in-Err.refusal c.refused.result c.in-Err.ensures.err c.refused.ensures
