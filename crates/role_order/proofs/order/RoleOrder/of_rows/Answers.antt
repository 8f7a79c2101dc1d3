use Rattle.std.proofs.Common.{◌≡◌, sym, ◌∙◌, subst, ap}
use Rattle.std.specs.Prelude.{Option, IfSome}
use Rattle.std.proofs.lemmas.Bool.{true≢false}
use Rattle.rbac_sets.specs.Sets.{Pairs, pair_cmp, from_list}
use Rattle.rbac_sets.specs.SortedSet.{set_of}
use Rattle.rbac_sets.specs.NameOrder.{pair_total, pair_exact}
use Rattle.rbac_sets.proofs.SetLaws.{from_members}
use Rattle.role_order.specs.NumberedEdges.{NumberedEdges}
use Rattle.role_order.specs.Order.{IsAcyclic, IsClosure}
use Rattle.role_order.specs.private.Numbered.{AreEdgesOf}
use Rattle.role_order.proofs.Numbering.{AreEdgesOf-closure}
use Rattle.role_order.proofs.order.RoleOrder.of_rows.Goals as goal

pub returns-then-not-has_closure-clause-differ : goal.returns-then-not-has_closure-clause-differ
returns-then-not-has_closure-clause-differ c = λ _.
    let edges : Pairs = set_of pair_cmp c.args.edges in
    let found : AreEdgesOf c.in-Some.numbered edges × IsAcyclic edges =
    subst (λ (o : Option NumberedEdges). IfSome o (λ n. AreEdgesOf n edges × IsAcyclic edges)) c.in-Some.is c.in_ok-numbered.ensures.some in
    (found.1, λ closed. true≢false (sym (c.has_closure.ensures.1 ((AreEdgesOf-closure c.in-Some.numbered edges (set_of pair_cmp c.args.pairs) found.0).1 closed)) ∙ c.if-not-has_closure.true))

pub invariant_of-result : goal.invariant_of-result
invariant_of-result c =
    let edges : Pairs = set_of pair_cmp c.args.edges in
    let pairs : Pairs = set_of pair_cmp c.args.pairs in
    let chunked : Pairs = set_of pair_cmp c.in_ok-pairs.pairs in
    let found : AreEdgesOf c.in-Some.numbered edges × IsAcyclic edges =
    subst (λ (o : Option NumberedEdges). IfSome o (λ n. AreEdgesOf n edges × IsAcyclic edges)) c.in-Some.is c.in_ok-numbered.ensures.some in
    let closed : IsClosure edges pairs = (AreEdgesOf-closure c.in-Some.numbered edges pairs found.0).0 (c.has_closure.ensures.0 c.if-not-has_closure.false) in
    let same : chunked ≡ pairs = sym (from_members pair_total pair_exact chunked) ∙ ap from_list (c.in_ok-pairs.ensures.ok ∙ c.into_entries.ensures.entries) ∙ from_members pair_total pair_exact pairs in
    (found.1, subst (IsClosure edges) (sym same) closed, found.0)

pub returns-clause-closed : goal.returns-clause-closed
returns-clause-closed c =
    let edges : Pairs = set_of pair_cmp c.args.edges in
    let found : AreEdgesOf c.in-Some.numbered edges × IsAcyclic edges =
    subst (λ (o : Option NumberedEdges). IfSome o (λ n. AreEdgesOf n edges × IsAcyclic edges)) c.in-Some.is c.in_ok-numbered.ensures.some in
    (AreEdgesOf-closure c.in-Some.numbered edges (set_of pair_cmp c.args.pairs) found.0).0 (c.has_closure.ensures.0 c.if-not-has_closure.false)
