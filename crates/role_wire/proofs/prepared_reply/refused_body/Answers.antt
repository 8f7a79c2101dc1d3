use Rattle.std.proofs.Common.{sym, ◌∙◌}
use Rattle.role_wire.specs.Reply.{head_body}
use Rattle.role_wire.proofs.prepared_reply.refused_body.Goals as goal

pub returns-then-eq : goal.returns-then-eq
unfolding head_body
returns-then-eq c = rw (sym c.eq.ensures ∙ c.if-eq.true) c.unknown_function_text.ensures

pub returns-else-eq : goal.returns-else-eq
unfolding head_body
returns-else-eq c = rw (sym c.eq.ensures ∙ c.if-eq.false) c.bad_request_text.ensures
