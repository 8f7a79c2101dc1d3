use Rattle.std.proofs.Common.{inl}
use Rattle.role_json.specs.Answer.{text_of}
use Rattle.role_wire.proofs.serving.reply_to_verdict.Goals as goal

pub returns-in-Done-clause-made : goal.returns-in-Done-clause-made
unfolding text_of
returns-in-Done-clause-made c = inl (c.done.ensures.status, rw c.in-Done.is c.done.ensures.body)
