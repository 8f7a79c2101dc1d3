use Rattle.admin_mgr.proofs.StateAfter.NamedLaws.{named_turns}
use Rattle.admin_mgr.proofs.laws.named_turns.Goals as goal

pub returns : goal.returns
returns c = named_turns
