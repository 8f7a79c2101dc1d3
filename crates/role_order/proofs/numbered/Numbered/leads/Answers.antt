use Rattle.std.proofs.Common.{◌↔◌, ℕ, sym, subst}
use Rattle.std.specs.Prelude.{IsTrue}
use Rattle.std.proofs.lemmas.Bool.{true≢false}
use Rattle.reach_bits.specs.Graph.{HasEdge}
use Rattle.reach_bits.specs.Graph.{Leads as NumbersLead}
use Rattle.role_order.specs.NumberedEdges.{NumberedEdges}
use Rattle.role_order.specs.private.Numbered.{HasNumber, IsNumbering, AreNumbered}
use Rattle.role_order.proofs.Numbering.{lead_apart, end_number}
use Rattle.role_order.proofs.numbered.Numbered.leads.Goals as goal

pub returns-in_default-number : goal.returns-in_default-number
returns-in_default-number c = (
  λ t. absurd (true≢false (sym t)),
  λ way.
      let ended = end_number c.args.self.now c.args.a.now c.args.b.now way in
      absurd (subst (λ (e : NumberedEdges). (n : ℕ) → HasNumber e.numbers c.args.b.now n → ⊥) c.self.view_is c.in_default-number.ensures.none ended.0 ended.1),
)

pub returns : goal.returns
returns c =
    let edges : NumberedEdges = c.args.self.now in
    let good : IsNumbering edges.numbers = subst (λ (e : NumberedEdges). IsNumbering e.numbers) c.self.view_is c.self.invariant.0 in
    let named : AreNumbered edges.numbers edges.graph = subst (λ (e : NumberedEdges). AreNumbered e.numbers e.graph) c.self.view_is c.self.invariant.1 in
    let from : HasNumber edges.numbers c.args.a.now c.in-Some.from = subst (λ (e : NumberedEdges). HasNumber e.numbers c.args.a.now c.in-Some.from) c.self.view_is c.in-Some.ensures.some in
    let to : HasNumber edges.numbers c.args.b.now c.in-Some-number.to = subst (λ (e : NumberedEdges). HasNumber e.numbers c.args.b.now c.in-Some-number.to) c.self.view_is c.in-Some-number.ensures.some in
    let leads = subst (λ (e : NumberedEdges). IsTrue c.leads.result ↔ NumbersLead (HasEdge e.graph) c.in-Some.from c.in-Some-number.to) c.self.view_is c.leads.ensures.leads in
    let round = subst (λ (e : NumberedEdges). (x : ℕ) → NumbersLead (HasEdge e.graph) x x → ⊥) c.self.view_is c.leads.ensures.acyclic in
    let both = lead_apart edges good named round c.args.a.now c.args.b.now c.in-Some.from c.in-Some-number.to from to in
    (λ t. both.0 (leads.0 t), λ way. leads.1 (both.1 way))
