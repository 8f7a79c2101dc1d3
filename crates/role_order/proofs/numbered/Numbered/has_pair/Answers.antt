use Rattle.std.proofs.Common.{◌↔◌, ℕ, refl, sym, ◌∙◌, subst}
use Rattle.std.specs.Prelude.{IsTrue}
use Rattle.std.proofs.lemmas.Bool.{true≢false}
use Rattle.reach_bits.specs.Graph.{HasEdge}
use Rattle.reach_bits.specs.Graph.{Leads as NumbersLead}
use Rattle.role_order.specs.NumberedEdges.{NumberedEdges}
use Rattle.role_order.specs.private.Numbered.{IsNumbering, AreNumbered}
use Rattle.role_order.proofs.Numbering.{lead_apart}
use Rattle.role_order.proofs.numbered.Numbered.has_pair.Goals as goal

pub returns-then-not-leads : goal.returns-then-not-leads
returns-then-not-leads c =
    let edges : NumberedEdges = c.args.self.now in
    let good : IsNumbering edges.numbers = subst (λ (e : NumberedEdges). IsNumbering e.numbers) c.self.view_is c.self.invariant.0 in
    let named : AreNumbered edges.numbers edges.graph = subst (λ (e : NumberedEdges). AreNumbered e.numbers e.graph) c.self.view_is c.self.invariant.1 in
    let leads = subst (λ (e : NumberedEdges). IsTrue c.leads.result ↔ NumbersLead (HasEdge e.graph) c.args.from c.args.to) c.self.view_is c.leads.ensures.leads in
    let round = subst (λ (e : NumberedEdges). (x : ℕ) → NumbersLead (HasEdge e.graph) x x → ⊥) c.self.view_is c.leads.ensures.acyclic in
    let both = lead_apart edges good named round c.args.a.now c.args.b.now c.args.from c.args.to c.requires.from c.requires.to in
    (λ t way. absurd (true≢false (sym (leads.1 (both.1 way)) ∙ c.if-not-leads.true)), λ all. refl)

pub returns : goal.returns
returns c =
    let edges : NumberedEdges = c.args.self.now in
    let good : IsNumbering edges.numbers = subst (λ (e : NumberedEdges). IsNumbering e.numbers) c.self.view_is c.self.invariant.0 in
    let named : AreNumbered edges.numbers edges.graph = subst (λ (e : NumberedEdges). AreNumbered e.numbers e.graph) c.self.view_is c.self.invariant.1 in
    let leads = subst (λ (e : NumberedEdges). IsTrue c.leads.result ↔ NumbersLead (HasEdge e.graph) c.args.from c.args.to) c.self.view_is c.leads.ensures.leads in
    let round = subst (λ (e : NumberedEdges). (x : ℕ) → NumbersLead (HasEdge e.graph) x x → ⊥) c.self.view_is c.leads.ensures.acyclic in
    let both = lead_apart edges good named round c.args.a.now c.args.b.now c.args.from c.args.to c.requires.from c.requires.to in
    (λ t way. sym c.contains.ensures ∙ t, λ all. c.contains.ensures ∙ all (both.0 (leads.0 c.if-not-leads.false)))
