use Rattle.std.proofs.Common.{take}
use Rattle.rbac_sets.specs.Sets.{name_cmp, pair_cmp, members}
use Rattle.rbac_sets.specs.SortedSet.{set_of}
use Rattle.role_order.specs.Order.{Leads}
use Rattle.role_order.specs.private.Numbered.{HasNamedEdge}
use Rattle.role_order.proofs.Gathering.{RowsSoFar}
use Rattle.role_order.proofs.building.missing_pairs.Given as goal

abbrev pub invariant-loop-a : goal.invariant-loop-a
invariant-loop-a l = RowsSoFar (λ x y. Leads (HasNamedEdge l.numbered) x y) (members (set_of name_cmp l.below)) (take l.a-index l.a-items) (set_of pair_cmp l.pairs)
