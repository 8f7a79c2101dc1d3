use Rattle.sqlite.specs.Held.{state}
use Rattle.role_wire.proofs.Requesting.{made_called, left_called, made_head, made_stopped, left_stopped}
use Rattle.role_wire.proofs.Results.{if_ok-then, if_err-then}
use Rattle.role_wire.proofs.WholeRequests.{says_called, says_refused, says_stopped}
use Rattle.role_wire.proofs.serving.Server.answer.Goals as goal

pub returns-in-Ok-Ok-clause-made : goal.returns-in-Ok-Ok-clause-made
returns-in-Ok-Ok-clause-made g c =
    if_ok-then c.answer_call.result _ _ c.answer_call.ensures.made (λ made told.
    made_called (state g.S.Store) c.args.office.now c.answer_call.new.office _ _ _ c.in-Ok-Ok.called c.in-Ok-Ok.count made.reply (rw c.in-Ok-Ok.field-0-is at c.in-Ok-Ok.ensures.answers) told)

pub returns-in-Ok-Ok-clause-left : goal.returns-in-Ok-Ok-clause-left
returns-in-Ok-Ok-clause-left g c =
    if_err-then c.answer_call.result _ _ c.answer_call.ensures.left (λ why left.
    left_called (state g.S.Store) why c.args.office.now c.answer_call.new.office _ _ _ c.in-Ok-Ok.called c.in-Ok-Ok.count (rw c.in-Ok-Ok.field-0-is at c.in-Ok-Ok.ensures.answers) left)

pub returns-in-Ok-Ok-clause-cause : goal.returns-in-Ok-Ok-clause-cause
returns-in-Ok-Ok-clause-cause g c = rw (c.in-Ok-Ok.ensures.steady) at c.answer_call.ensures.cause

pub returns-in-Ok-Ok-clause-whole : goal.returns-in-Ok-Ok-clause-whole
returns-in-Ok-Ok-clause-whole g c =
    if_ok-then c.answer_call.result _ _ c.answer_call.ensures.whole (λ made says.
    says_called _ _ _ c.in-Ok-Ok.called c.in-Ok-Ok.count made.has_read_all (rw c.in-Ok-Ok.field-0-is at c.in-Ok-Ok.ensures.answers) says)

pub returns-in-Ok-Err-clause-made : goal.returns-in-Ok-Err-clause-made
returns-in-Ok-Err-clause-made g c =
    rw c.unread.ensures.reply
    (made_head (state g.S.Store) c.args.office.now _ _ c.in-Ok-Err.status _ _ (rw c.in-Ok-Err.field-0-is at c.in-Ok-Err.ensures.answers) c.refused_head.ensures.status c.refused_head.ensures.body)

pub returns-in-Ok-Err-clause-whole : goal.returns-in-Ok-Err-clause-whole
returns-in-Ok-Err-clause-whole g c = says_refused _ _ c.in-Ok-Err.status _ (rw c.in-Ok-Err.field-0-is at c.in-Ok-Err.ensures.answers) c.unread.ensures.unread

pub returns-in-Err-Memory-clause-made : goal.returns-in-Err-Memory-clause-made
returns-in-Err-Memory-clause-made g c =
    rw c.unread-in-Err-Memory.ensures.reply (made_stopped (state g.S.Store) c.args.office.now _ _ _ _ c.in-Err-Memory.ensures.stops c.no_memory.ensures.status c.no_memory.ensures.body)

pub returns-in-Err-Memory-clause-whole : goal.returns-in-Err-Memory-clause-whole
returns-in-Err-Memory-clause-whole g c = says_stopped _ _ _ c.in-Err-Memory.ensures.stops c.unread-in-Err-Memory.ensures.unread

pub returns-in-Err-Fault-clause-left : goal.returns-in-Err-Fault-clause-left
returns-in-Err-Fault-clause-left g c = left_stopped (state g.S.Store) c.args.office.now _ _ c.in-Err-Fault.ensures.stops
