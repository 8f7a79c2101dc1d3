use Rattle.std.specs.Prelude.{IsTrue}
use Rattle.std.specs.List.{list_all}
use Rattle.rbac_sets.specs.Named.{is_named}
use Rattle.admin_mgr.proofs.StoredRows.RowSteps.{SoFar}
use Rattle.admin_mgr.proofs.relations.gathered.StoredSets.of_rows.Given as goal

abbrev pub invariant-loop-row : goal.invariant-loop-row
invariant-loop-row l = SoFar l.version l.fn.rows.items l.yielded l.row-iterator.rest.items l.made × IsTrue (list_all is_named l.yielded)
