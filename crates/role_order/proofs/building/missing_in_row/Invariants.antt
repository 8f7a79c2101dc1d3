use Rattle.std.proofs.Common.{take}
use Rattle.rbac_sets.specs.Sets.{pair_cmp}
use Rattle.rbac_sets.specs.SortedSet.{set_of}
use Rattle.role_order.specs.Order.{HasPair, Leads}
use Rattle.role_order.specs.private.Numbered.{HasNamedEdge}
use Rattle.role_order.proofs.Gathering.{RowSoFar}
use Rattle.role_order.proofs.building.missing_in_row.Given as goal

abbrev pub invariant-loop-i : goal.invariant-loop-i
invariant-loop-i l = RowSoFar (HasPair (set_of pair_cmp l.fn.pairs)) (λ y. Leads (HasNamedEdge l.numbered) l.a y) l.a (take l.i l.below) (set_of pair_cmp l.pairs)
