use Rattle.std.proofs.Common.{◌≡◌, List, ◌++◌, map}
use Rattle.rbac_sets.specs.Sets.{members}
use Rattle.rbac_sets.specs.SortedSet.{set_of}
use Rattle.chunked_sets.specs.Entries.{entries_left}
use Rattle.chunked_sets.proofs.two_way.turned_entries.Given as goal

-- the entries are those that are done and those that are left
abbrev pub invariant-loop-entry : goal.invariant-loop-entry
invariant-loop-entry g l =
    (done : List g.row.K.Denot) × (members (set_of g.K.Ord.cmp l.fn.entries) ≡ done ++ entries_left l.entry-iterator)
    × (l.turned.items ≡ map g.K.Turn.turned done)
