use Rattle.std.proofs.lemmas.Result.{err_from_is_err_and}
use Rattle.sqlite.specs.Held.{state}
use Rattle.rbac_sets.proofs.Known.{Consumes-none}
use Rattle.role_wire.proofs.Requesting.{made_at_once, sent, sent_part}
use Rattle.role_wire.proofs.serving.serve_one.Goals as goal

pub returns-in_default-clause-served : goal.returns-in_default-clause-served
returns-in_default-clause-served g c =
    let shown = state g.S.Store in
    let told = rw c.unread.ensures.reply at c.in_ok-answered.ensures.served in
    sent shown c.args.office.now c.args.office.now _ _ _ _ c.no_memory.result.status c.in_ok-answered.answered.status _
    (made_at_once shown c.args.office.now _ _ _ (Consumes-none _) c.no_memory.ensures.status c.no_memory.ensures.body) told.0 told.1

pub returns-in_err-answered-clause-stopped : goal.returns-in_err-answered-clause-stopped
returns-in_err-answered-clause-stopped g c =
    let shown = state g.S.Store in
    let p = err_from_is_err_and c.from_residual.result c.from_residual.ensures.1 in
    let told = rw c.unread.ensures.reply at c.in_err-answered.ensures.part in
    rw (p.1, p.2) (
      told.0,
      sent_part shown _ c.args.office.now c.args.office.now _ _ _ _ c.no_memory.result.status _
          (made_at_once shown c.args.office.now _ _ _ (Consumes-none _) c.no_memory.ensures.status c.no_memory.ensures.body) told.1 told.2,
    )
