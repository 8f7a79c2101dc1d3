use Rattle.std.proofs.Common.{◌∙◌, false, refl, sym, subst}
use Rattle.rbac_sets.specs.Sets.{Bytes, Names, Pairs, name_cmp, pair_cmp, remove}
use Rattle.rbac_sets.specs.SortedSet.{set_of}
use Rattle.role_order.specs.Order.{HasPair, IsAcyclic, IsGained}
use Rattle.role_order.specs.Planned.{IsOrderPlanOf, Order, Plan}
use Rattle.role_order.specs.private.Numbered.{AreEdgesOf}
use Rattle.role_order.proofs.Planning.{Fits-taken, judged_are}
use Rattle.role_order.proofs.Removing.{IsGained-missing}
use Rattle.role_order.proofs.Numbering.{AreEdgesOf-copied, AreEdgesOf-removed, missing_are}
use Rattle.role_order.proofs.order.RoleOrder.plan_remove.Goals as goal

pub returns-clause-planned : goal.returns-clause-planned
returns-clause-planned c =
    let edges : Pairs = c.args.self.now.edges in
    let asc : Bytes = c.args.asc.now in
    let desc : Bytes = c.args.desc.now in
    let left : Pairs = remove edges (asc, desc) in
    let above : Names = set_of name_cmp c.in_ok-above.above in
    let below : Names = set_of name_cmp c.in_ok-below.below in
    let takes : Pairs = set_of pair_cmp c.in_ok-takes.takes in
    let good : IsAcyclic edges = subst (λ (o : Order). IsAcyclic o.edges) c.self.view_is c.self.invariant.0 in
    let are : AreEdgesOf c.self.inside.numbered edges = subst (λ (o : Order). AreEdgesOf c.self.inside.numbered o.edges) c.self.view_is c.self.invariant.2 in
    let copied : AreEdgesOf c.in_ok-left.left edges = AreEdgesOf-copied c.self.inside.numbered c.in_ok-left.left edges are c.in_ok-left.ensures.edges in
    let remaining : AreEdgesOf c.remove.new.self left = AreEdgesOf-removed c.in_ok-left.left c.remove.new.self edges left asc desc copied c.remove.ensures.edges refl in
    let edge : HasPair edges asc desc = sym c.has_edge.ensures ∙ c.if-not-has_edge.false in
    let lost : IsGained left edges takes = IsGained-missing edges asc desc above below takes edge c.in_ok-above.ensures.members c.in_ok-below.ensures.members
    (missing_are c.remove.new.self left above below takes remaining c.in_ok-takes.ensures.pairs) in
    let plan : Plan = record {
      adds = false;
      asc = asc;
      desc = desc;
      puts = set_of pair_cmp c.new-puts.result;
      takes = takes;
      judged = c.in_ok-judged.judged;
    } in
    subst (IsOrderPlanOf edges false asc desc) (sym c.in_ok-plan.ensures.ok) (record {
      same_kind = refl;
      same_asc = refl;
      same_desc = refl;
      fits = Fits-taken edges asc desc plan refl refl refl c.new-puts.ensures good lost;
      judged = c.in_ok-judged.ensures.ok ∙ judged_are edges asc desc above below c.in_ok-above.ensures.ok c.in_ok-below.ensures.ok;
    })
