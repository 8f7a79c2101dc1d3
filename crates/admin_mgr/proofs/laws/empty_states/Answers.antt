use Rattle.admin_mgr.proofs.StateAfter.EmptyLaws.{empty_is_good, empty_has_no_row}
use Rattle.admin_mgr.proofs.laws.empty_states.Goals as goal

pub returns-clause-good : goal.returns-clause-good
returns-clause-good c = empty_is_good

pub returns-clause-rows : goal.returns-clause-rows
returns-clause-rows c = empty_has_no_row
