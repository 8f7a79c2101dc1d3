use Rattle.std.proofs.Common.{◌≢◌, take}
use Rattle.std.specs.Prelude.{Contains}
use Rattle.rbac_sets.specs.Sets.{Bytes, Cardinality, pair_cmp}
use Rattle.rbac_sets.specs.SortedSet.{set_of}
use Rattle.role_order.specs.Order.{HasPair, Leads}
use Rattle.role_order.specs.private.Numbered.{HasNamedEdge}
use Rattle.role_order.proofs.numbered.Numbered.has_rows.Given as goal

abbrev pub invariant-loop-a : goal.invariant-loop-a
invariant-loop-a l = (e : Cardinality) → Contains (take l.a-index l.a-items) e → (b : Bytes) → (e.0 ≢ b) × Leads (HasNamedEdge l.self) e.0 b → HasPair (set_of pair_cmp l.pairs) e.0 b
