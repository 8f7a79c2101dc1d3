use Rattle.std.proofs.Common.{map}
use Rattle.rbac_sets.specs.Sets.{Bytes}
use Rattle.rbac_sets.specs.declared.row.Row.TheVariants.{PairRow}
use Rattle.rbac_sets.specs.declared.row.Change.TheVariants.{Put}
use Rattle.admin_mgr.proofs.PlanRows.ListLaws.{IsListed}
use Rattle.admin_mgr.proofs.planning.rows.put_paired.Given as goal

abbrev pub invariant-loop-other : goal.invariant-loop-other
invariant-loop-other l = IsListed (map (λ (x : Bytes). Put (PairRow l.kind l.name x))) l.fn.changes.items l.others l.other-index l.changes.items
