use Rattle.std.proofs.Common.{◌≢◌, take}
use Rattle.rbac_sets.specs.Sets.{name_cmp}
use Rattle.rbac_sets.specs.SortedSet.{set_of}
use Rattle.role_order.specs.Order.{Leads}
use Rattle.role_order.specs.private.Numbered.{HasNamedEdge}
use Rattle.role_order.proofs.Gathering.{NamesSoFar}
use Rattle.role_order.proofs.numbered.Numbered.seniors.Given as goal

abbrev pub invariant-loop-name : goal.invariant-loop-name
invariant-loop-name l = NamesSoFar (λ x. (x ≢ l.r) × Leads (HasNamedEdge l.self) x l.r) (take l.name-index l.name-items) (set_of name_cmp l.names)
