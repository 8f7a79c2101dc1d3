use Rattle.std.proofs.Common.{map}
use Rattle.rbac_sets.specs.Sets.{Pair}
use Rattle.rbac_sets.specs.declared.row.Row.TheVariants.{PairRow}
use Rattle.rbac_sets.specs.declared.row.Change.TheVariants.{Put}
use Rattle.admin_mgr.proofs.PlanRows.ListLaws.{IsListed}
use Rattle.admin_mgr.proofs.planning.rows.put_pairs.Given as goal

abbrev pub invariant-loop-pair : goal.invariant-loop-pair
invariant-loop-pair l = IsListed (map (λ (x : Pair). Put (PairRow l.kind x.0 x.1))) l.fn.changes.items l.pairs l.pair-index l.changes.items
