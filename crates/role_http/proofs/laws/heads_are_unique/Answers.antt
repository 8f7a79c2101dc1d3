use Rattle.role_http.proofs.Heads.{heads_are_unique}
use Rattle.role_http.proofs.laws.heads_are_unique.Goals as goal

pub returns : goal.returns
returns c = heads_are_unique
