use Rattle.std.proofs.Common.{map}
use Rattle.rbac_sets.specs.Sets.{Pair}
use Rattle.rbac_sets.specs.declared.row.Row.TheVariants.{PairRow}
use Rattle.rbac_sets.specs.declared.row.Change.TheVariants.{Take}
use Rattle.chunked_sets.specs.Entries.{entries_left}
use Rattle.admin_mgr.proofs.PlanRows.ListLaws.{IsListedBut}
use Rattle.admin_mgr.proofs.planning.rows.take_turned_pairs.Given as goal

abbrev pub invariant-loop-pair : goal.invariant-loop-pair
invariant-loop-pair l = IsListedBut (map (λ (x : Pair). Take (PairRow l.kind x.1 x.0))) l.fn.changes.items l.pairs (entries_left l.pair-iterator) l.changes.items
