use Rattle.std.proofs.Common.{subst}
use Rattle.role_order.specs.Planned.{Order}
use Rattle.role_order.specs.private.Numbered.{AreEdgesOf}
use Rattle.role_order.proofs.Deciding.{juniors-same}
use Rattle.role_order.proofs.Numbering.{apart_are}
use Rattle.role_order.proofs.order.RoleOrder.juniors.Goals as goal

pub returns-clause-members : goal.returns-clause-members
returns-clause-members c =
    let are = subst (λ (o : Order). AreEdgesOf c.self.inside.numbered o.edges) c.self.view_is c.self.invariant.2 in
    λ q. apart_are c.self.inside.numbered c.args.self.now.edges are c.args.r.now q _ (c.in_ok-names.ensures.names q)

pub returns-clause-ok : goal.returns-clause-ok
returns-clause-ok c =
    let are = subst (λ (o : Order). AreEdgesOf c.self.inside.numbered o.edges) c.self.view_is c.self.invariant.2 in
    juniors-same c.args.self.now.edges c.args.r.now _ (λ q. apart_are c.self.inside.numbered c.args.self.now.edges are c.args.r.now q _ (c.in_ok-names.ensures.names q))
