use Rattle.std.proofs.Common.{◌≢◌, ◌↔◌, ℕ, sym, ap, ◌∙◌, subst}
use Rattle.std.specs.Prelude.{IsTrue}
use Rattle.rbac_sets.specs.Sets.{Cardinality, name_cmp, cardinality_cmp, insert}
use Rattle.rbac_sets.specs.SortedSet.{set_of}
use Rattle.rbac_sets.specs.NameOrder.{cardinality_total, cardinality_exact}
use Rattle.reach_bits.specs.Graph.{HasEdge}
use Rattle.reach_bits.specs.Graph.{Leads as NumbersLead}
use Rattle.role_order.specs.Order.{Leads}
use Rattle.role_order.specs.NumberedEdges.{NumberedEdges}
use Rattle.role_order.specs.private.Numbered.{HasNumber, HasNamedEdge, IsNumbering, AreNumbered}
use Rattle.role_order.proofs.Members.{none_in}
use Rattle.role_order.proofs.Walks.{member_at}
use Rattle.role_order.proofs.Gathering.{name_above, names_more, names_skip, names_none, names_done}
use Rattle.role_order.proofs.Numbering.{lead_apart, begin_number, end_number, number_within}
use Rattle.role_order.proofs.numbered.Numbered.juniors.Goals as goal
use Rattle.role_order.proofs.numbered.Numbered.juniors.Goals.{then-leads+in_ok-copy+in_ok-push, else-leads}

pub returns-in_default-clause-names : goal.returns-in_default-clause-names
returns-in_default-clause-names c = λ x. (
  λ h. absurd (none_in _ c.new-names.ensures x h),
  λ way.
      let ended = begin_number c.args.self.now c.args.r.now x way in
      absurd (subst (λ (e : NumberedEdges). (n : ℕ) → HasNumber e.numbers c.args.r.now n → ⊥) c.self.view_is c.in_default.ensures.none ended.0 ended.1),
)

pub loop-name-init : goal.loop-name-init
loop-name-init c = names_none (λ x. (c.args.r.now ≢ x) × Leads (HasNamedEdge c.args.self.now) c.args.r.now x) (set_of name_cmp c.new-names.result) c.new-names.ensures

pub leads-requires-clause-b : goal.leads-requires-clause-b
leads-requires-clause-b c =
    let p : Cardinality = c.loop-name-item.result in
    number_within (set_of cardinality_cmp c.self.inside.numbers) c.self.inside.reach c.self.invariant p.0 p.1
    (member_at cardinality_total cardinality_exact (set_of cardinality_cmp c.self.inside.numbers) c.as_slice-name-items.result.now c.as_slice-name-items.ensures c.loop-name.name-index p c.loop-name-test.true c.loop-name-item.is)

pub push-requires : goal.push-requires
push-requires c = λ x h.
    ap (name_cmp x) c.in_ok-copy.ensures.ok
    ∙ name_above (λ x. (c.args.r.now ≢ x) × Leads (HasNamedEdge c.args.self.now) c.args.r.now x) (set_of cardinality_cmp c.self.inside.numbers) c.self.invariant.0
    c.as_slice-name-items.result.now c.as_slice-name-items.ensures c.loop-name.name-index c.loop-name-item.result (set_of name_cmp c.loop-name.names) c.loop-name-test.true c.loop-name-item.is c.loop-name.invariant x h

pub loop-name-preserved : goal.loop-name-preserved
loop-name-preserved c =
    let p : Cardinality = c.loop-name-item.result in
    let edges : NumberedEdges = c.args.self.now in
    let good : IsNumbering edges.numbers = subst (λ (e : NumberedEdges). IsNumbering e.numbers) c.self.view_is c.self.invariant.0 in
    let named : AreNumbered edges.numbers edges.graph = subst (λ (e : NumberedEdges). AreNumbered e.numbers e.graph) c.self.view_is c.self.invariant.1 in
    let here : HasNumber edges.numbers p.0 p.1 = subst (λ (e : NumberedEdges). HasNumber e.numbers p.0 p.1) c.self.view_is
    (member_at cardinality_total cardinality_exact (set_of cardinality_cmp c.self.inside.numbers) c.as_slice-name-items.result.now c.as_slice-name-items.ensures c.loop-name.name-index p c.loop-name-test.true c.loop-name-item.is) in
    let there : HasNumber edges.numbers c.args.r.now c.in-Some.from = subst (λ (e : NumberedEdges). HasNumber e.numbers c.args.r.now c.in-Some.from) c.self.view_is c.in-Some.ensures.some in
    let leads = subst (λ (e : NumberedEdges). IsTrue c.leads.result ↔ NumbersLead (HasEdge e.graph) c.in-Some.from p.1) c.self.view_is c.leads.ensures.leads in
    let round = subst (λ (e : NumberedEdges). (n : ℕ) → NumbersLead (HasEdge e.graph) n n → ⊥) c.self.view_is c.leads.ensures.acyclic in
    let both = lead_apart edges good named round c.args.r.now p.0 c.in-Some.from p.1 there here in
    elim c.if-leads.branch [
      | then-leads+in_ok-copy+in_ok-push w ↦ rw w.names-is
          (names_more (λ x. (c.args.r.now ≢ x) × Leads (HasNamedEdge c.args.self.now) c.args.r.now x) (set_of cardinality_cmp c.self.inside.numbers) c.self.invariant.0
          c.as_slice-name-items.result.now c.as_slice-name-items.ensures c.loop-name.name-index c.loop-name-item.result (set_of name_cmp c.loop-name.names) c.loop-name-test.true c.loop-name-item.is c.loop-name.invariant _
          (w.in_ok-push.ensures.ok ∙ ap (insert (set_of name_cmp c.loop-name.names)) w.in_ok-copy.ensures.ok) (both.0 (leads.0 w.if-leads.true)))
      | else-leads w ↦ rw w.names-is
          (names_skip (λ x. (c.args.r.now ≢ x) × Leads (HasNamedEdge c.args.self.now) c.args.r.now x) (set_of cardinality_cmp c.self.inside.numbers) c.self.invariant.0
          c.as_slice-name-items.result.now c.as_slice-name-items.ensures c.loop-name.name-index c.loop-name-item.result (set_of name_cmp c.loop-name.names) c.loop-name-test.true c.loop-name-item.is c.loop-name.invariant
          (λ way. let t = leads.1 (both.1 way) in cc))
    ]

pub returns-clause-names : goal.returns-clause-names
returns-clause-names c =
    names_done (λ x. (c.args.r.now ≢ x) × Leads (HasNamedEdge c.args.self.now) c.args.r.now x) (set_of cardinality_cmp c.self.inside.numbers) c.as_slice-name-items.result.now c.loop-name.name-index (set_of name_cmp c.loop-name.names) c.as_slice-name-items.ensures
    c.loop-name-test.false c.loop-name.invariant
    (λ x way.
    let n = end_number c.args.self.now c.args.r.now x way in
    (n.0, subst (λ (e : NumberedEdges). HasNumber e.numbers x n.0) (sym c.self.view_is) n.1))
