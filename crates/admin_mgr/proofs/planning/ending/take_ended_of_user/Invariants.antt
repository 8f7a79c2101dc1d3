use Rattle.std.proofs.Common.{map}
use Rattle.std.specs.Prelude.{not, filter}
use Rattle.std.specs.List.{flat_map}
use Rattle.rbac_sets.specs.Sets.{Pair, pair_cmp, image, members, same_name}
use Rattle.admin_mgr.specs.private.SessionContinuation.{stays}
use Rattle.admin_mgr.specs.private.PlanChanges.{session_rows}
use Rattle.chunked_sets.specs.Entries.{entries_left}
use Rattle.admin_mgr.proofs.PlanRows.ListLaws.{IsListedBut}
use Rattle.admin_mgr.proofs.planning.ending.take_ended_of_user.Given as goal

abbrev pub invariant-loop-pair : goal.invariant-loop-pair
invariant-loop-pair l =
    IsListedBut (λ xs. flat_map (session_rows l.state.facts) (filter (λ (session : Pair). not (stays l.state.facts l.fn.loss session)) (map (λ (pair : Pair). (pair.1, pair.0)) xs)))
    l.fn.changes.items (filter (λ (pair : Pair). same_name pair.0 l.user) (members (image {Q = pair_cmp} (λ (pair : Pair). (pair.1, pair.0)) l.state.facts.sessions)))
    (entries_left l.pair-iterator) l.changes.items
