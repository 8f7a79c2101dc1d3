use Rattle.std.proofs.Common.{drop}
use Rattle.admin_mgr.proofs.Imports.ImportSteps.{Stands}
use Rattle.admin_mgr.proofs.planning.importing.import.Given as goal

-- what is done so far, and what the records from index i on add, make up the whole import
abbrev pub invariant-loop-i : goal.invariant-loop-i
invariant-loop-i l = Stands l.state.facts l.pairs.items (drop l.i l.pairs.items) l.i l.imported
