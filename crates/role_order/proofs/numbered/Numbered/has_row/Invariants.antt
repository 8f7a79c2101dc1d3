use Rattle.std.proofs.Common.{◌≢◌, take}
use Rattle.std.specs.Prelude.{Contains}
use Rattle.rbac_sets.specs.Sets.{Cardinality, pair_cmp}
use Rattle.rbac_sets.specs.SortedSet.{set_of}
use Rattle.role_order.specs.Order.{HasPair, Leads}
use Rattle.role_order.specs.private.Numbered.{HasNamedEdge}
use Rattle.role_order.proofs.numbered.Numbered.has_row.Given as goal

abbrev pub invariant-loop-b : goal.invariant-loop-b
invariant-loop-b l = (e : Cardinality) → Contains (take l.b-index l.b-items) e → (l.a ≢ e.0) × Leads (HasNamedEdge l.self) l.a e.0 → HasPair (set_of pair_cmp l.pairs) l.a e.0
