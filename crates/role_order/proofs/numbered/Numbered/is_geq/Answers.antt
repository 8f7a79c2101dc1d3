use Rattle.std.proofs.Common.{◌≡◌, ◌↔◌, ℕ, inl, inr, nat_eq, rules, sym, ◌∙◌, subst}
use Rattle.std.specs.Prelude.{IsTrue}
use Rattle.std.proofs.lemmas.Bool.{true≢false}
use Rattle.rbac_sets.specs.Sets.{Bytes, cardinality_cmp}
use Rattle.rbac_sets.specs.SortedSet.{set_of}
use Rattle.reach_bits.specs.Graph.{HasEdge}
use Rattle.reach_bits.specs.Graph.{Leads as NumbersLead}
use Rattle.role_order.specs.NumberedEdges.{NumberedEdges}
use Rattle.role_order.specs.private.Numbered.{HasNumber, IsNumbering, AreNumbered}
use Rattle.role_order.proofs.Leading.{Leads-from_eq}
use Rattle.role_order.proofs.Numbering.{numbers_lead, names_lead, number_of-some, number_within, lead_same, lead_none}
use Rattle.role_order.proofs.numbered.Numbered.is_geq.Goals as goal

equal : (n m : ℕ) → n ≡ m → IsTrue (nat_eq n m)
equal n m same = search (rules, same)

pub returns-in_default : goal.returns-in_default
returns-in_default c =
    let same = lead_same c.args.self.now c.args.a.now c.args.b.now (sym c.requires.from ∙ c.in_default.is) in
    (λ t. same.0 (c.is_same.ensures.equal.0 t), λ l. c.is_same.ensures.equal.1 (same.1 l))

pub returns-in_default-to : goal.returns-in_default-to
returns-in_default-to c = (
  λ t. absurd (true≢false (sym t)),
  λ l. absurd (lead_none c.args.self.now c.args.a.now c.args.b.now c.in-Some.from (sym c.requires.from ∙ c.in-Some.is) (sym c.requires.to ∙ c.in_default-to.is) l),
)

pub leads-requires-clause-a : goal.leads-requires-clause-a
leads-requires-clause-a c =
    let from : HasNumber c.args.self.now.numbers c.args.a.now c.in-Some.from = number_of-some c.args.self.now.numbers c.args.a.now c.in-Some.from (sym c.requires.from ∙ c.in-Some.is) in
    number_within (set_of cardinality_cmp c.self.inside.numbers) c.self.inside.reach c.self.invariant c.args.a.now c.in-Some.from
    (subst (λ (e : NumberedEdges). HasNumber e.numbers c.args.a.now c.in-Some.from) (sym c.self.view_is) from)

pub leads-requires-clause-b : goal.leads-requires-clause-b
leads-requires-clause-b c =
    let to : HasNumber c.args.self.now.numbers c.args.b.now c.in-Some-to.to = number_of-some c.args.self.now.numbers c.args.b.now c.in-Some-to.to (sym c.requires.to ∙ c.in-Some-to.is) in
    number_within (set_of cardinality_cmp c.self.inside.numbers) c.self.inside.reach c.self.invariant c.args.b.now c.in-Some-to.to
    (subst (λ (e : NumberedEdges). HasNumber e.numbers c.args.b.now c.in-Some-to.to) (sym c.self.view_is) to)

pub returns-then-from-to : goal.returns-then-from-to
returns-then-from-to c =
    let edges : NumberedEdges = c.args.self.now in
    let good : IsNumbering edges.numbers = subst (λ (e : NumberedEdges). IsNumbering e.numbers) c.self.view_is c.self.invariant.0 in
    let from : HasNumber edges.numbers c.args.a.now c.in-Some.from = number_of-some edges.numbers c.args.a.now c.in-Some.from (sym c.requires.from ∙ c.in-Some.is) in
    let to : HasNumber edges.numbers c.args.b.now c.in-Some-to.to = number_of-some edges.numbers c.args.b.now c.in-Some-to.to (sym c.requires.to ∙ c.in-Some-to.is) in (
      λ t. Leads-from_eq (good.apart c.args.a.now c.args.b.now c.in-Some-to.to (subst (λ (n : ℕ). HasNumber edges.numbers c.args.a.now n) c.if-from-to.true from) to),
      λ l. equal c.in-Some.from c.in-Some-to.to c.if-from-to.true,
    )

pub returns-else-from-to : goal.returns-else-from-to
returns-else-from-to c =
    let edges : NumberedEdges = c.args.self.now in
    let good : IsNumbering edges.numbers = subst (λ (e : NumberedEdges). IsNumbering e.numbers) c.self.view_is c.self.invariant.0 in
    let named : AreNumbered edges.numbers edges.graph = subst (λ (e : NumberedEdges). AreNumbered e.numbers e.graph) c.self.view_is c.self.invariant.1 in
    let from : HasNumber edges.numbers c.args.a.now c.in-Some.from = number_of-some edges.numbers c.args.a.now c.in-Some.from (sym c.requires.from ∙ c.in-Some.is) in
    let to : HasNumber edges.numbers c.args.b.now c.in-Some-to.to = number_of-some edges.numbers c.args.b.now c.in-Some-to.to (sym c.requires.to ∙ c.in-Some-to.is) in
    let leads = subst (λ (e : NumberedEdges). IsTrue c.leads.result ↔ NumbersLead (HasEdge e.graph) c.in-Some.from c.in-Some-to.to) c.self.view_is c.leads.ensures.leads in (
      λ t. names_lead edges good named (leads.0 t) c.args.a.now c.args.b.now from to,
      λ l. elim (numbers_lead edges good l c.in-Some.from c.in-Some-to.to from to) [
        | inl same ↦ absurd (c.if-from-to.false (good.one c.args.a.now c.in-Some.from c.in-Some-to.to from (subst (λ (x : Bytes). HasNumber edges.numbers x c.in-Some-to.to) (sym same) to)))
        | inr numbers ↦ leads.1 numbers
      ],
    )
