use Rattle.std.proofs.Common.{inl, inr, Ok}
use Rattle.std.specs.Cow.{cow_str_bytes}
use Rattle.sqlite.specs.Held.{state}
use Rattle.role_json.specs.Answer.{text_of}
use Rattle.role_json.specs.RequestContent.{requested}
use Rattle.role_wire.proofs.Results.{if_ok-then, if_err-then}
use Rattle.role_wire.specs.private.PreparedReply.{IsReadAs}
use Rattle.role_wire.proofs.HttpAnswers.{works_on, performed_answered, question_unanswered, import_unanswered, refused_answered}
use Rattle.role_wire.proofs.serving.answer_request.Goals as goal

pub returns-in-Ok-clause-made : goal.returns-in-Ok-clause-made
returns-in-Ok-clause-made g c =
    let shown = state g.S.Store in
    let asked = requested c.args.request.now in
    let text = text_of c.in-Ok.verdict in
    if_ok-then c.reply_to_verdict.result _ _ c.reply_to_verdict.ensures.made (λ made told. elim told [
      | inl replied ↦ (
        inl (λ taken. performed_answered shown c.args.office.now c.perform.new.office asked text _ _ taken c.in-Ok.ensures.done replied.0 replied.1),
        works_on c.args.office.now c.perform.new.office (IsReadAs (Ok asked)) made.status (cow_str_bytes made.body) c.in-Ok.ensures.done.is_open,
      )
      | inr no_answer ↦ question_unanswered shown c.args.office.now c.perform.new.office asked text made c.in-Ok.ensures.done no_answer.1 no_answer.0
    ])

pub returns-in-Ok-clause-left : goal.returns-in-Ok-clause-left
returns-in-Ok-clause-left g c =
    if_err-then c.reply_to_verdict.result _ _ c.reply_to_verdict.ensures.left (λ cause left.
    (left.0, import_unanswered (state g.S.Store) c.args.office.now c.perform.new.office (requested c.args.request.now) (text_of c.in-Ok.verdict) c.in-Ok.ensures.done left.1))

pub returns-in-Err-clause-made : goal.returns-in-Err-clause-made
returns-in-Err-clause-made g c =
    refused_answered (state g.S.Store) c.args.office.now c.perform.new.office (requested c.args.request.now) c.in-Err.refusal c.refused.result c.in-Err.ensures.refused c.refused.ensures
