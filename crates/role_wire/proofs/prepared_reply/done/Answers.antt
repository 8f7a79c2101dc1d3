use Rattle.std.proofs.Common.{refl}
use Rattle.serde_json.proofs.OnLiterals.{serde_json_on_literals}
use Rattle.role_json.specs.Answer.{done_text}
use Rattle.role_wire.proofs.prepared_reply.done.Goals as goal

pub returns-clause-body : goal.returns-clause-body
unfolding done_text serde_json_on_literals
returns-clause-body c = refl
