use Rattle.std.proofs.Common.{◌≡◌, None, take}
use Rattle.std.specs.List.{list_any}
use Rattle.rbac_sets.specs.declared.row.Change.{Change}
use Rattle.access_index.specs.private.Barring.{Forgets, can_bar_by, changed_row}
use Rattle.access_index.proofs.index.AccessIndex.forget_barred.Given as goal

abbrev pub invariant-loop-change : goal.invariant-loop-change
invariant-loop-change l = (l.self ≡ record l.initial.self { barred = None; by_set = l.self.by_set })
    × Forgets l.initial.self l.self (λ set. list_any (λ (change : Change). can_bar_by set (changed_row change)) (take l.change-index l.changes))
