use Rattle.admin_mgr.proofs.PlanRows.RowsAfterLaws.{rows_follow}
use Rattle.admin_mgr.proofs.laws.rows_follow.Goals as goal

pub returns : goal.returns
returns c = rows_follow
