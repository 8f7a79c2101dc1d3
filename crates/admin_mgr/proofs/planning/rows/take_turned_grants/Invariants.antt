use Rattle.std.proofs.Common.{map}
use Rattle.rbac_sets.specs.Sets.{Triple}
use Rattle.rbac_sets.specs.declared.row.Row.TheVariants.{GrantRow}
use Rattle.rbac_sets.specs.declared.row.Change.TheVariants.{Take}
use Rattle.chunked_sets.specs.Entries.{entries_left}
use Rattle.admin_mgr.proofs.PlanRows.ListLaws.{IsListedBut}
use Rattle.admin_mgr.proofs.planning.rows.take_turned_grants.Given as goal

abbrev pub invariant-loop-grant : goal.invariant-loop-grant
invariant-loop-grant l = IsListedBut (map (λ (x : Triple). Take (GrantRow x.1 x.2 x.0))) l.fn.changes.items l.grants (entries_left l.grant-iterator) l.changes.items
