use Rattle.std.proofs.Common.{drop}
use Rattle.admin_mgr.proofs.PlanRows.RoomLaws.{AreCounted}
use Rattle.admin_mgr.proofs.relations.changing.count_puts.Given as goal

abbrev pub invariant-loop-change : goal.invariant-loop-change
invariant-loop-change l = AreCounted l.counts l.change-index (drop l.change-index l.changes) l.changes
