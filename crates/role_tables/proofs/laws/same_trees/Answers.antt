use Rattle.role_tables.proofs.StoredRows.SameTrees.{same_trees_hold_same}
use Rattle.role_tables.proofs.laws.same_trees.Goals as goal

pub returns : goal.returns
returns c = same_trees_hold_same
