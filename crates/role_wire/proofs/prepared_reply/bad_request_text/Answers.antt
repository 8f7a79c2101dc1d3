use Rattle.std.specs.Fmt.{digits}
use Rattle.std.proofs.Common.{refl}
use Rattle.serde_json.proofs.OnLiterals.{serde_json_on_literals}
use Rattle.role_json.specs.Answer.{refusal_text, refusal_data}
use Rattle.role_wire.proofs.prepared_reply.bad_request_text.Goals as goal

pub returns : goal.returns
unfolding refusal_text refusal_data digits serde_json_on_literals
returns c = refl
