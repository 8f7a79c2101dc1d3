use Rattle.std.proofs.Common.{◌∙◌, sym, subst}
use Rattle.std.proofs.lemmas.Bool.{eqb-true}
use Rattle.sqlite.specs.Held.{state}
use Rattle.role_wire.specs.Reply.{SaysIfWhole}
use Rattle.role_wire.proofs.ClosedOffice.{closed_by_500}
use Rattle.role_wire.proofs.Requesting.{sent, sent_part}
use Rattle.role_wire.proofs.Results.{if_ok-both, if_ok-then, if_err-then}
use Rattle.role_wire.proofs.serving.Server.serve.Goals as goal

pub returns-in-Ok-clause-served : goal.returns-in-Ok-clause-served
returns-in-Ok-clause-served g c =
    if_ok-then c.send.result _ _ c.send.ensures.served (λ answered told.
    sent (state g.S.Store) c.args.office.now c.answer.new.office _ _ _ _ c.in-Ok.made.reply.status answered.status _ c.in-Ok.ensures.made told.0 told.1)

pub returns-in-Ok-clause-closed : goal.returns-in-Ok-clause-closed
returns-in-Ok-clause-closed g c =
    let (taken, consumes, few, answers) = c.in-Ok.ensures.made in
    if_ok-then c.send.result _ _ (if_ok-both c.send.result _ _ c.send.ensures.served c.send.ensures.closes) (λ answered (told, closes) closed.
    closed_by_500 (state g.S.Store) c.args.office.now c.answer.new.office _ c.in-Ok.made.reply.status _ answers (sym told.0 ∙ eqb-true answered.status 500 (rw closes at closed)))

pub returns-in-Ok-clause-whole : goal.returns-in-Ok-clause-whole
returns-in-Ok-clause-whole g c =
    if_ok-then c.send.result _ _ c.send.ensures.whole (λ answered same.
    subst (SaysIfWhole (g.R.Source.remaining c.args.source.now) (g.R.Source.remaining c.answer.new.source)) (sym same) c.in-Ok.ensures.whole)

pub returns-in-Ok-clause-stopped : goal.returns-in-Ok-clause-stopped
returns-in-Ok-clause-stopped g c =
    if_err-then c.send.result _ _ c.send.ensures.part (λ stop told. (
      told.0,
      sent_part (state g.S.Store) stop.cause c.args.office.now c.answer.new.office _ _ _ _ c.in-Ok.made.reply.status _ c.in-Ok.ensures.made told.1 told.2,
    ))
