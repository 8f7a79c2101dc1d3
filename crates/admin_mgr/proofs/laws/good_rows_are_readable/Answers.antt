use Rattle.admin_mgr.proofs.StoredRows.AcceptLaws.{readable_of_good}
use Rattle.admin_mgr.proofs.laws.good_rows_are_readable.Goals as goal

pub returns : goal.returns
returns c = readable_of_good
