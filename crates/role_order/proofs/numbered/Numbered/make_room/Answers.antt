use Rattle.std.proofs.Common.{sym, subst}
use Rattle.std.specs.Prelude.{Option, IfSome}
use Rattle.rbac_sets.specs.Sets.{Pairs, pair_cmp}
use Rattle.rbac_sets.specs.SortedSet.{set_of}
use Rattle.role_order.specs.NumberedEdges.{NumberedEdges}
use Rattle.role_order.specs.Order.{IsAcyclic}
use Rattle.role_order.specs.private.Numbered.{AreEdgesOf}
use Rattle.role_order.proofs.numbered.Numbered.make_room.Goals as goal

pub returns-clause-edges : goal.returns-clause-edges
returns-clause-edges c =
    let edges : Pairs = set_of pair_cmp c.args.edges.now in
    let before : AreEdgesOf c.unwrap-renewed.result edges =
    (subst (λ (o : Option NumberedEdges). IfSome o (λ n. AreEdgesOf n edges × IsAcyclic edges)) c.unwrap-renewed.ensures c.in_ok-of_edges.ensures.some).0 in
    let after : AreEdgesOf c.reserve.new.self edges = λ a b. (
      λ e. (before a b).0 ((c.in_ok-reserve.ensures.same a b).0 e),
      λ h. (c.in_ok-reserve.ensures.same a b).1 ((before a b).1 h),
    ) in
    subst (λ (e : NumberedEdges). AreEdgesOf e edges) (sym c.renewed-2.view_is) after
