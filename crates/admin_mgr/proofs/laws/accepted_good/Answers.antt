use Rattle.admin_mgr.proofs.StateAfter.AcceptedLaws.{good_after_accepted}
use Rattle.admin_mgr.proofs.laws.accepted_good.Goals as goal

pub returns : goal.returns
returns c = good_after_accepted
