use Rattle.role_order.specs.private.Numbered.{HasNamedEdge}
use Rattle.role_order.proofs.Closing.{NoWayBack}
use Rattle.role_order.proofs.Numbering.{AreFirstOf}
use Rattle.role_order.proofs.numbered.Numbered.of_edges.Given as goal

abbrev pub invariant-loop-asc : goal.invariant-loop-asc
invariant-loop-asc l = AreFirstOf l.numbered l.asc-items l.asc-index × NoWayBack (HasNamedEdge l.numbered)
