use Rattle.std.proofs.Common.{refl}
use Rattle.serde_json.proofs.OnLiterals.{serde_json_on_literals}
use Rattle.role_json.specs.Answer.{done_text, text_of}
use Rattle.role_wire.proofs.office_replay.answer_to_verdict.Goals as goal

pub returns-in-Done-clause-ok : goal.returns-in-Done-clause-ok
unfolding done_text text_of serde_json_on_literals
returns-in-Done-clause-ok c = rw c.in-Done.is refl
