use Rattle.role_http.proofs.Heads.{refused_have_no_head}
use Rattle.role_http.proofs.laws.refused_have_no_head.Goals as goal

pub returns : goal.returns
returns c = refused_have_no_head
