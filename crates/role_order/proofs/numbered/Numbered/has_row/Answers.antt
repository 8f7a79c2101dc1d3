use Rattle.std.proofs.Common.{◌≢◌, refl, sym, subst, arith}
use Rattle.rbac_sets.specs.Sets.{Cardinality, pair_cmp, cardinality_cmp}
use Rattle.rbac_sets.specs.SortedSet.{set_of}
use Rattle.rbac_sets.specs.NameOrder.{cardinality_total, cardinality_exact}
use Rattle.role_order.specs.Order.{HasPair, Leads}
use Rattle.role_order.specs.NumberedEdges.{NumberedEdges}
use Rattle.role_order.specs.private.Numbered.{HasNumber, HasNamedEdge}
use Rattle.role_order.proofs.Walks.{all_more, member_at, all_members}
use Rattle.role_order.proofs.Numbering.{end_number}
use Rattle.role_order.proofs.numbered.Numbered.has_row.Goals as goal

pub loop-b-init : goal.loop-b-init
loop-b-init c = λ e h. absurd (omega (arith, h.1))

pub has_pair-requires-clause-to : goal.has_pair-requires-clause-to
has_pair-requires-clause-to c =
    let p : Cardinality = c.loop-b-item.result in
    subst (λ (e : NumberedEdges). HasNumber e.numbers p.0 p.1) c.self.view_is
    (member_at cardinality_total cardinality_exact (set_of cardinality_cmp c.self.inside.numbers) c.as_slice-b-items.result.now c.as_slice-b-items.ensures c.loop-b.b-index p c.loop-b-test.true c.loop-b-item.is)

pub loop-b-preserved : goal.loop-b-preserved
loop-b-preserved c =
    all_more (λ (e : Cardinality). (c.args.a.now ≢ e.0) × Leads (HasNamedEdge c.args.self.now) c.args.a.now e.0 → HasPair (set_of pair_cmp c.args.pairs.now) c.args.a.now e.0) c.as_slice-b-items.result.now
    c.loop-b.b-index c.loop-b-item.result c.loop-b-test.true c.loop-b-item.is (c.if-not-has_pair.ensures.0 refl) c.loop-b.invariant

pub returns : goal.returns
returns c = (
  λ t b way.
      let n = end_number c.args.self.now c.args.a.now b way in
      all_members cardinality_total cardinality_exact (set_of cardinality_cmp c.self.inside.numbers) c.as_slice-b-items.result.now c.as_slice-b-items.ensures
      (λ (e : Cardinality). (c.args.a.now ≢ e.0) × Leads (HasNamedEdge c.args.self.now) c.args.a.now e.0 → HasPair (set_of pair_cmp c.args.pairs.now) c.args.a.now e.0)
      c.loop-b.b-index c.loop-b-test.false c.loop-b.invariant (b, n.0) (subst (λ (e : NumberedEdges). HasNumber e.numbers b n.0) (sym c.self.view_is) n.1) way,
  λ all. refl,
)
