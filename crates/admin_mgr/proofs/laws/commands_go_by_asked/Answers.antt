use Rattle.admin_mgr.proofs.Verdicts.AskedLaws.{commands_go_by_asked}
use Rattle.admin_mgr.proofs.laws.commands_go_by_asked.Goals as goal

pub returns : goal.returns
returns c = commands_go_by_asked
