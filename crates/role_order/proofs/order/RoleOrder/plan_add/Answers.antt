use Rattle.std.proofs.Common.{◌∙◌, true, refl, sym, subst}
use Rattle.std.proofs.lemmas.Bool.{true≢false}
use Rattle.rbac_sets.specs.Sets.{pair_cmp, name_cmp}
use Rattle.rbac_sets.specs.SortedSet.{set_of}
use Rattle.role_order.specs.Order.{IsAcyclic}
use Rattle.role_order.specs.Planned.{IsOrderPlanOf, Order, Plan}
use Rattle.role_order.specs.private.Numbered.{AreEdgesOf}
use Rattle.role_order.proofs.Planning.{Fits-added, judged_are}
use Rattle.role_order.proofs.Numbering.{missing_are}
use Rattle.role_order.proofs.order.RoleOrder.plan_add.Goals as goal

pub returns-clause-planned : goal.returns-clause-planned
returns-clause-planned c =
    let good = subst (λ (o : Order). IsAcyclic o.edges) c.self.view_is c.self.invariant.0 in
    let are = subst (λ (o : Order). AreEdgesOf c.self.inside.numbered o.edges) c.self.view_is c.self.invariant.2 in
    let plan : Plan = record {
      adds = true;
      asc = c.args.asc.now;
      desc = c.args.desc.now;
      puts = set_of pair_cmp c.in_ok-puts.puts;
      takes = set_of pair_cmp c.new-takes.result;
      judged = c.in_ok-judged.judged;
    } in
    subst (IsOrderPlanOf c.args.self.now.edges true c.args.asc.now c.args.desc.now) (sym c.in_ok-plan.ensures.ok) (record {
      same_kind = refl;
      same_asc = refl;
      same_desc = refl;
      fits = Fits-added c.args.self.now.edges c.args.asc.now c.args.desc.now (set_of name_cmp c.in_ok-above.above) (set_of name_cmp c.in_ok-below.below) plan
          refl refl refl c.new-takes.ensures
          (λ h. true≢false (sym h ∙ sym c.has_edge.ensures ∙ c.if-has_edge.false)) good (λ l. let t = c.if-geq.ensures.reaches.1 l in cc)
          c.in_ok-above.ensures.members c.in_ok-below.ensures.members
          (missing_are c.self.inside.numbered c.args.self.now.edges (set_of name_cmp c.in_ok-above.above) (set_of name_cmp c.in_ok-below.below) (set_of pair_cmp c.in_ok-puts.puts) are c.in_ok-puts.ensures.pairs);
      judged = c.in_ok-judged.ensures.ok ∙ judged_are c.args.self.now.edges c.args.asc.now c.args.desc.now _ _ c.in_ok-above.ensures.ok c.in_ok-below.ensures.ok;
    })
