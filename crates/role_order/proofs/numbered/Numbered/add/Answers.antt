use Rattle.std.proofs.Common.{inl, inr, sym, subst}
use Rattle.rbac_sets.specs.Sets.{cardinality_cmp}
use Rattle.rbac_sets.specs.SortedSet.{set_of}
use Rattle.reach_bits.specs.Graph.{HasEdge}
use Rattle.reach_bits.specs.Graph.{Leads as NumbersLead}
use Rattle.role_order.specs.NumberedEdges.{NumberedEdges}
use Rattle.role_order.specs.private.Numbered.{HasNumber, HasNamedEdge, IsNumbering, AreNumbered}
use Rattle.role_order.proofs.Leading.{Leads-mono}
use Rattle.role_order.proofs.Numbering.{names_lead, named_added}
use Rattle.role_order.proofs.numbered.Numbered.add.Goals as goal

pub add-requires-clause-acyclic : goal.add-requires-clause-acyclic
add-requires-clause-acyclic c =
    let edges : NumberedEdges = c.give_number-to.new.self in
    let good : IsNumbering edges.numbers = subst (λ (e : NumberedEdges). IsNumbering e.numbers) c.self.view_is c.self.invariant.0 in
    let named : AreNumbered edges.numbers edges.graph = subst (λ (e : NumberedEdges). AreNumbered e.numbers e.graph) c.self.view_is c.self.invariant.1 in
    let from = c.give_number-to.ensures.others c.args.asc c.give_number-from.result c.give_number-from.ensures.number in
    let none = λ (way : NumbersLead (HasEdge edges.graph) c.give_number-to.result c.give_number-from.result).
    c.requires.acyclic (Leads-mono (HasNamedEdge edges) (HasNamedEdge c.args.self.now) (λ a b e. (c.give_number-from.ensures.same a b).0 ((c.give_number-to.ensures.same a b).0 e))
    (names_lead edges good named way c.args.desc c.args.asc c.give_number-to.ensures.number from)) in
    subst (λ (e : NumberedEdges). NumbersLead (HasEdge e.graph) c.give_number-to.result c.give_number-from.result → ⊥) (sym c.self.view_is) none

pub returns : goal.returns
returns c = λ a b.
    let from = subst (λ (e : NumberedEdges). HasNumber e.numbers c.args.asc c.give_number-from.result) (sym c.self.view_is)
    (c.give_number-to.ensures.others c.args.asc c.give_number-from.result c.give_number-from.ensures.number) in
    let to = subst (λ (e : NumberedEdges). HasNumber e.numbers c.args.desc c.give_number-to.result) (sym c.self.view_is) c.give_number-to.ensures.number in
    let added = named_added (set_of cardinality_cmp c.self.inside.numbers) c.self.inside.reach c.add.new.self c.args.asc c.args.desc c.give_number-from.result c.give_number-to.result
    c.self.invariant.0 from to c.add.ensures.edges a b in
    let last = c.give_number-to.ensures.same a b in
    let first = c.give_number-from.ensures.same a b in (
      λ e. elim (added.0 e) [ inl old ↦ inl (first.0 (last.0 (subst (λ (n : NumberedEdges). HasNamedEdge n a b) c.self.view_is old))) | inr new ↦ inr new ],
      λ s. added.1 (elim s [ inl old ↦ inl (subst (λ (n : NumberedEdges). HasNamedEdge n a b) (sym c.self.view_is) (last.1 (first.1 old))) | inr new ↦ inr new ]),
    )
