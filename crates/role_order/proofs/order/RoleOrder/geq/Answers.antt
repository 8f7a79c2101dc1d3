use Rattle.std.proofs.Common.{subst}
use Rattle.role_order.specs.Planned.{Order}
use Rattle.role_order.specs.private.Numbered.{AreEdgesOf}
use Rattle.role_order.proofs.Numbering.{AreEdgesOf-lead, AreEdgesOf-answer}
use Rattle.role_order.proofs.order.RoleOrder.geq.Goals as goal

pub returns-clause-reaches : goal.returns-clause-reaches
returns-clause-reaches c =
    let are = subst (λ (o : Order). AreEdgesOf c.self.inside.numbered o.edges) c.self.view_is c.self.invariant.2 in
    let lead = AreEdgesOf-lead c.self.inside.numbered c.args.self.now.edges are c.args.a.now c.args.b.now in
    (λ t. lead.0 (c.geq.ensures.0 t), λ l. c.geq.ensures.1 (lead.1 l))

pub returns-clause-test : goal.returns-clause-test
returns-clause-test c =
    let are = subst (λ (o : Order). AreEdgesOf c.self.inside.numbered o.edges) c.self.view_is c.self.invariant.2 in
    AreEdgesOf-answer c.self.inside.numbered c.args.self.now.edges are c.args.a.now c.args.b.now c.geq.result c.geq.ensures
