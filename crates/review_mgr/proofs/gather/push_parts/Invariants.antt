use Rattle.std.proofs.Common.{◌≡◌, List, ◌++◌, map}
use Rattle.std.specs.Fn.{FnReturnsAt}
use Rattle.chunked_sets.specs.Entries.{entries_left}
use Rattle.review_mgr.proofs.gather.push_parts.Given as goal

-- the items are those that are done and those that are left
abbrev pub invariant-loop-item : goal.invariant-loop-item
invariant-loop-item g l =
    (done : List g.row.A.Denot) × (l.fn.items ≡ done ++ entries_left l.item-iterator)
    × ((gives : g.row.A.Denot → g.row.K.Denot) → ((x : g.row.A.Denot) → (p : g.row.P.Denot) → FnReturnsAt g.F.Fn l.fn.part x p → g.P.Probe.entry p ≡ gives x)
    → l.entries.items ≡ l.fn.entries.items ++ map gives done)
