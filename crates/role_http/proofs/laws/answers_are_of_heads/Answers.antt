use Rattle.role_http.proofs.Heads.{answers_are_of_heads}
use Rattle.role_http.proofs.laws.answers_are_of_heads.Goals as goal

pub returns : goal.returns
returns c = answers_are_of_heads
