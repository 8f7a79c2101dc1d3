use Rattle.std.proofs.Common.{◌≢◌, refl}
use Rattle.rbac_sets.specs.Sets.{Pair}
use Rattle.rbac_sets.specs.NameOrder.{pair_total, pair_exact}
use Rattle.role_order.specs.Order.{Leads}
use Rattle.role_order.specs.private.Numbered.{HasNamedEdge}
use Rattle.role_order.proofs.Walks.{all_more, member_at, all_members}
use Rattle.role_order.proofs.numbered.Numbered.leads_all.Goals as goal

pub returns-then-not-leads : goal.returns-then-not-leads
returns-then-not-leads c = (
  λ t. cc,
  λ all.
      let way = all c.loop-a-item.result.0 c.loop-a-item.result.1
      (member_at pair_total pair_exact _ c.as_slice-a-items.result.now c.as_slice-a-items.ensures c.loop-a.a-index c.loop-a-item.result c.loop-a-test.true c.loop-a-item.is) in
      let t = c.if-not-leads.ensures.1 way in cc,
)

pub loop-a-preserved : goal.loop-a-preserved
loop-a-preserved c =
    all_more (λ (q : Pair). (q.0 ≢ q.1) × Leads (HasNamedEdge c.args.self.now) q.0 q.1) c.as_slice-a-items.result.now c.loop-a.a-index c.loop-a-item.result c.loop-a-test.true c.loop-a-item.is
    (c.if-not-leads.ensures.0 refl) c.loop-a.invariant

pub returns : goal.returns
returns c = (
  λ t x y h. all_members pair_total pair_exact _ c.as_slice-a-items.result.now c.as_slice-a-items.ensures (λ (q : Pair). (q.0 ≢ q.1) × Leads (HasNamedEdge c.args.self.now) q.0 q.1) c.loop-a.a-index c.loop-a-test.false c.loop-a.invariant (x, y) h,
  λ all. refl,
)
