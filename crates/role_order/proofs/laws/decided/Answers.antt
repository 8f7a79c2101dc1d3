use Rattle.role_order.proofs.Deciding.{geq-Decides}
use Rattle.role_order.proofs.laws.decided.Goals as goal

pub returns : goal.returns
returns c = geq-Decides
