use Rattle.role_wire.proofs.Requesting.{replies_once}
use Rattle.role_wire.proofs.laws.replies_once.Goals as goal

pub returns : goal.returns
returns c = replies_once
