use Rattle.std.proofs.Common.{◌≡◌, ◌↔◌, ◌∙◌, ◌<◌, List, [], length, get_or, sym, ap, subst}
use Rattle.std.specs.Prelude.{IsTrue}
use Rattle.std.proofs.lemmas.List.{get_or_default}
use Rattle.rbac_sets.specs.Sets.{Bytes, pair_cmp}
use Rattle.rbac_sets.specs.SortedSet.{set_of}
use Rattle.role_order.specs.Order.{Leads, geq}
use Rattle.role_order.specs.Places.{Places}
use Rattle.role_order.specs.NumberedEdges.{NumberedEdges}
use Rattle.role_order.specs.private.Numbered.{HasNamedEdge, number_of}
use Rattle.role_order.proofs.Numbering.{number_at, AreEdgesOf-answer}
use Rattle.role_order.proofs.places.OrderOfNames.geq.Goals as goal

pub is_geq-requires-clause-from : goal.is_geq-requires-clause-from
is_geq-requires-clause-from c =
    let names : List Bytes = c.self.inside.names.now in
    let edges : NumberedEdges = c.self.inside.numbered.now in
    let a_in : c.args.a < length names = subst (λ (p : Places). c.args.a < length p.names) (sym c.self.view_is) c.requires.a in
    let first = get_or_default names c.args.a c.index-self-a.result [] a_in in
    sym (number_at edges.numbers names c.self.inside.numbers.items c.args.a c.index.result.now c.self.invariant.1 a_in c.index.ensures) ∙ ap (number_of edges.numbers) (sym first)

pub is_geq-requires-clause-to : goal.is_geq-requires-clause-to
is_geq-requires-clause-to c =
    let names : List Bytes = c.self.inside.names.now in
    let edges : NumberedEdges = c.self.inside.numbered.now in
    let b_in : c.args.b < length names = subst (λ (p : Places). c.args.b < length p.names) (sym c.self.view_is) c.requires.b in
    let second = get_or_default names c.args.b c.index-self-b.result [] b_in in
    sym (number_at edges.numbers names c.self.inside.numbers.items c.args.b c.index-2.result.now c.self.invariant.1 b_in c.index-2.ensures) ∙ ap (number_of edges.numbers) (sym second)

pub returns : goal.returns
returns c =
    let names : List Bytes = c.self.inside.names.now in
    let edges : NumberedEdges = c.self.inside.numbered.now in
    let a_in : c.args.a < length names = subst (λ (p : Places). c.args.a < length p.names) (sym c.self.view_is) c.requires.a in
    let b_in : c.args.b < length names = subst (λ (p : Places). c.args.b < length p.names) (sym c.self.view_is) c.requires.b in
    let first = get_or_default names c.args.a c.index-self-a.result [] a_in in
    let second = get_or_default names c.args.b c.index-self-b.result [] b_in in
    let told : IsTrue c.is_geq.result ↔ Leads (HasNamedEdge edges) (get_or names c.args.a []) (get_or names c.args.b []) =
    subst (λ (x : Bytes). IsTrue c.is_geq.result ↔ Leads (HasNamedEdge edges) x (get_or names c.args.b [])) first
    (subst (λ (y : Bytes). IsTrue c.is_geq.result ↔ Leads (HasNamedEdge edges) (get_or names c.args.a c.index-self-a.result) y) second c.is_geq.ensures) in
    subst (λ (p : Places). c.is_geq.result ≡ geq p.edges (get_or p.names c.args.a []) (get_or p.names c.args.b [])) c.self.view_is
    (AreEdgesOf-answer edges (set_of pair_cmp c.self.inside.edges.now) c.self.invariant.0 (get_or names c.args.a []) (get_or names c.args.b []) c.is_geq.result told)
