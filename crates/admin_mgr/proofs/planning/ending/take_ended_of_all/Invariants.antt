use Rattle.std.specs.Prelude.{not, filter}
use Rattle.std.specs.List.{flat_map}
use Rattle.rbac_sets.specs.Sets.{Pair, members}
use Rattle.admin_mgr.specs.private.SessionContinuation.{stays}
use Rattle.admin_mgr.specs.private.PlanChanges.{session_rows}
use Rattle.chunked_sets.specs.Entries.{entries_left}
use Rattle.admin_mgr.proofs.PlanRows.ListLaws.{IsListedBut}
use Rattle.admin_mgr.proofs.planning.ending.take_ended_of_all.Given as goal

abbrev pub invariant-loop-session : goal.invariant-loop-session
invariant-loop-session l =
    IsListedBut (λ xs. flat_map (session_rows l.state.facts) (filter (λ (session : Pair). not (stays l.state.facts l.fn.loss session)) xs))
    l.fn.changes.items (members l.state.facts.sessions) (entries_left l.session-iterator) l.changes.items
