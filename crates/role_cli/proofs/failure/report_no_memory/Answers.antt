use Rattle.std.specs.Fmt.{digits}
use Rattle.json.specs.Print.{escape_byte}
use Rattle.role_json.specs.Answer.{refusal_data, refusal_text}
use Rattle.role_cli.proofs.failure.report_no_memory.Goals as goal

pub returns : goal.returns
unfolding refusal_text refusal_data escape_byte digits
returns g c = c.write.ensures
