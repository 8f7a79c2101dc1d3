use Rattle.std.proofs.Common.{◌≢◌, take}
use Rattle.std.specs.Prelude.{Contains}
use Rattle.rbac_sets.specs.Sets.{Pair}
use Rattle.role_order.specs.Order.{Leads}
use Rattle.role_order.specs.private.Numbered.{HasNamedEdge}
use Rattle.role_order.proofs.numbered.Numbered.leads_all.Given as goal

abbrev pub invariant-loop-a : goal.invariant-loop-a
invariant-loop-a l = (p : Pair) → Contains (take l.a-index l.a-items) p → (p.0 ≢ p.1) × Leads (HasNamedEdge l.self) p.0 p.1
