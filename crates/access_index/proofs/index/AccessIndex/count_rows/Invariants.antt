use Rattle.std.proofs.Common.{◌≡◌}
use Rattle.std.specs.HashMap.{hasher_of}
use Rattle.access_index.specs.Index.{Keeps, Rows}
use Rattle.access_index.proofs.index.AccessIndex.count_rows.Given as goal

abbrev pub invariant-loop-row : goal.invariant-loop-row
invariant-loop-row l = ((rows : Rows) → Keeps l.initial.self rows → Keeps l.self rows) × (l.self ≡ record l.initial.self { authorized = l.self.authorized })
    × (hasher_of l.self.authorized ≡ hasher_of l.initial.self.authorized)
