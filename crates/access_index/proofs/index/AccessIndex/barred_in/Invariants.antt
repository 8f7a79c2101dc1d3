use Rattle.std.proofs.Common.{◌≡◌, ℕ, take}
use Rattle.std.specs.List.{list_any}
use Rattle.bit_rows.specs.Rows.{has}
use Rattle.rbac_sets.specs.Sets.{members}
use Rattle.access_index.specs.Index.{Indexes}
use Rattle.access_index.proofs.LevelLaws.{violates}
use Rattle.access_index.proofs.index.AccessIndex.barred_in.Given as goal

abbrev pub invariant-loop-set : goal.invariant-loop-set
invariant-loop-set l = Indexes l.self l.state.facts × (l.self ≡ record l.initial.self { by_set = l.self.by_set })
    × ((n : ℕ) → has l.barred n ≡ list_any (violates l.initial.self l.state.facts n) (take l.set-index (members l.state.facts.dsd.cardinalities)))
