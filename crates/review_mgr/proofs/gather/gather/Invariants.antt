use Rattle.std.proofs.Common.{◌≡◌, Bool, List, ◌++◌}
use Rattle.std.specs.Fn.{FnReturnsAt}
use Rattle.std.specs.List.Sorted.{IsStrictlySortedBy}
use Rattle.chunked_sets.specs.Entries.{entries_left}
use Rattle.review_mgr.proofs.Gathering.{Gathers}
use Rattle.review_mgr.proofs.gather.gather.Given as goal

-- the items are those that are done and those that are left
abbrev pub invariant-loop-item : goal.invariant-loop-item
invariant-loop-item g l =
    (done : List g.row.A.Denot) × (l.fn.items ≡ done ++ entries_left l.item-iterator) × IsStrictlySortedBy g.K.Ord.cmp l.entries.items
    × ((passes : g.row.A.Denot → Bool) → (gives : g.row.A.Denot → g.row.K.Denot)
    → ((x : g.row.A.Denot) → (b : Bool) → FnReturnsAt g.T.Fn l.fn.test x b → b ≡ passes x)
    → ((x : g.row.A.Denot) → (p : g.row.P.Denot) → FnReturnsAt g.F.Fn l.fn.part x p → g.P.Probe.entry p ≡ gives x)
    → Gathers g.K.Ord.cmp passes gives done l.entries.items)
