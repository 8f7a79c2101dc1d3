use Rattle.std.proofs.Common.{◌≢◌, refl, sym, subst, arith}
use Rattle.rbac_sets.specs.Sets.{Bytes, Cardinality, pair_cmp, cardinality_cmp}
use Rattle.rbac_sets.specs.SortedSet.{set_of}
use Rattle.rbac_sets.specs.NameOrder.{cardinality_total, cardinality_exact}
use Rattle.role_order.specs.Order.{HasPair, Leads}
use Rattle.role_order.specs.NumberedEdges.{NumberedEdges}
use Rattle.role_order.specs.private.Numbered.{HasNumber, HasNamedEdge}
use Rattle.role_order.proofs.Walks.{all_more, member_at, all_members}
use Rattle.role_order.proofs.Numbering.{begin_number}
use Rattle.role_order.proofs.numbered.Numbered.has_rows.Goals as goal

pub loop-a-init : goal.loop-a-init
loop-a-init c = λ e h. absurd (omega (arith, h.1))

pub has_row-requires : goal.has_row-requires
has_row-requires c =
    let p : Cardinality = c.loop-a-item.result in
    subst (λ (e : NumberedEdges). HasNumber e.numbers p.0 p.1) c.self.view_is
    (member_at cardinality_total cardinality_exact (set_of cardinality_cmp c.self.inside.numbers) c.as_slice-a-items.result.now c.as_slice-a-items.ensures c.loop-a.a-index p c.loop-a-test.true c.loop-a-item.is)

pub loop-a-preserved : goal.loop-a-preserved
loop-a-preserved c =
    all_more (λ (e : Cardinality). (b : Bytes) → (e.0 ≢ b) × Leads (HasNamedEdge c.args.self.now) e.0 b → HasPair (set_of pair_cmp c.args.pairs.now) e.0 b) c.as_slice-a-items.result.now
    c.loop-a.a-index c.loop-a-item.result c.loop-a-test.true c.loop-a-item.is (c.if-not-has_row.ensures.0 refl) c.loop-a.invariant

pub returns : goal.returns
returns c = (
  λ t a b way.
      let n = begin_number c.args.self.now a b way in
      all_members cardinality_total cardinality_exact (set_of cardinality_cmp c.self.inside.numbers) c.as_slice-a-items.result.now c.as_slice-a-items.ensures
      (λ (e : Cardinality). (b : Bytes) → (e.0 ≢ b) × Leads (HasNamedEdge c.args.self.now) e.0 b → HasPair (set_of pair_cmp c.args.pairs.now) e.0 b)
      c.loop-a.a-index c.loop-a-test.false c.loop-a.invariant (a, n.0) (subst (λ (e : NumberedEdges). HasNumber e.numbers a n.0) (sym c.self.view_is) n.1) b way,
  λ all. refl,
)
