use Rattle.std.proofs.Common.{◌≡◌, ◌↔◌, ◌⊎◌, inl, inr, sym, ◌∙◌, subst, arith}
use Rattle.std.proofs.lemmas.Bool.{true≢false}
use Rattle.rbac_sets.specs.Sets.{Bytes, Pair, Pairs, pair_cmp}
use Rattle.rbac_sets.specs.SortedSet.{set_of}
use Rattle.rbac_sets.specs.NameOrder.{pair_total, pair_exact}
use Rattle.role_order.specs.Order.{Leads}
use Rattle.role_order.specs.private.Numbered.{HasNamedEdge, AreEdgesOf}
use Rattle.role_order.proofs.Leading.{Leads-from_eq, Leads-mono}
use Rattle.role_order.proofs.Closing.{NoWayBack-added}
use Rattle.role_order.proofs.Walks.{member_at, passed_all, taken_member}
use Rattle.role_order.proofs.Numbering.{first_more, no_numbered_way_back, AreEdgesOf-acyclic}
use Rattle.role_order.proofs.numbered.Numbered.of_edges.Goals as goal

pub loop-asc-init : goal.loop-asc-init
loop-asc-init c = ((λ a b. (λ e. absurd (c.new-numbered.ensures a b e), λ h. absurd (omega (arith, h.1)))), λ a b e way. c.new-numbered.ensures a b e)

pub returns-then-geq-clause-none : goal.returns-then-geq-clause-none
returns-then-geq-clause-none c =
    let p : Pair = c.loop-asc-item.result in
    let edges : Pairs = set_of pair_cmp c.args.edges.now in
    let edge = member_at pair_total pair_exact _ c.as_slice-asc-items.result.now c.as_slice-asc-items.ensures c.loop-asc.asc-index p c.loop-asc-test.true c.loop-asc-item.is in
    λ good. no_numbered_way_back c.loop-asc.numbered edges
    (λ a b e. taken_member pair_total pair_exact edges c.as_slice-asc-items.result.now c.as_slice-asc-items.ensures c.loop-asc.asc-index (a, b) ((c.loop-asc.invariant.0 a b).0 e))
    good p.0 p.1 edge (c.geq.ensures.0 c.if-geq.true)

pub add-requires-clause-apart : goal.add-requires-clause-apart
add-requires-clause-apart c = λ same.
    true≢false (sym (c.geq.ensures.1 (Leads-from_eq (sym (sym c.in_ok-copy.ensures.ok ∙ same ∙ c.in_ok-copy-2.ensures.ok)))) ∙ c.if-geq.false)

pub add-requires-clause-acyclic : goal.add-requires-clause-acyclic
add-requires-clause-acyclic c = λ way.
    let p : Pair = c.loop-asc-item.result in
    let back : Leads (HasNamedEdge c.reserve.new.self) p.1 p.0 = subst (λ (x : Bytes). Leads (HasNamedEdge c.reserve.new.self) x p.0) c.in_ok-copy-2.ensures.ok
    (subst (λ (x : Bytes). Leads (HasNamedEdge c.reserve.new.self) c.in_ok-copy-2.field-0 x) c.in_ok-copy.ensures.ok way) in
    true≢false (sym (c.geq.ensures.1 (Leads-mono (HasNamedEdge c.reserve.new.self) (HasNamedEdge c.loop-asc.numbered) (λ a b e. (c.in_ok-reserve.ensures.same a b).0 e) back)) ∙ c.if-geq.false)

pub loop-asc-preserved : goal.loop-asc-preserved
loop-asc-preserved c =
    let p : Pair = c.loop-asc-item.result in
    let added : ((a b : Bytes) → HasNamedEdge c.add.new.self a b ↔ (HasNamedEdge c.loop-asc.numbered a b ⊎ ((a ≡ p.0) × (b ≡ p.1)))) = λ a b. (
      λ e. elim ((c.add.ensures a b).0 e) [
        | inl old ↦ inl ((c.in_ok-reserve.ensures.same a b).0 old)
        | inr at ↦ inr (at.0 ∙ c.in_ok-copy.ensures.ok, at.1 ∙ c.in_ok-copy-2.ensures.ok)
      ],
      λ s. (c.add.ensures a b).1 (elim s [
        | inl old ↦ inl ((c.in_ok-reserve.ensures.same a b).1 old)
        | inr at ↦ inr (at.0 ∙ sym c.in_ok-copy.ensures.ok, at.1 ∙ sym c.in_ok-copy-2.ensures.ok)
      ]),
    ) in (
      first_more c.loop-asc.numbered c.add.new.self c.as_slice-asc-items.result.now c.loop-asc.asc-index p c.loop-asc-test.true c.loop-asc-item.is c.loop-asc.invariant.0 added,
      NoWayBack-added (HasNamedEdge c.loop-asc.numbered) (HasNamedEdge c.add.new.self) p.0 p.1 (λ a b e. (added a b).0 e) (λ way. true≢false (sym (c.geq.ensures.1 way) ∙ c.if-geq.false))
          c.loop-asc.invariant.1,
    )

pub returns-clause-some : goal.returns-clause-some
returns-clause-some c =
    let edges : Pairs = set_of pair_cmp c.args.edges.now in
    let are : AreEdgesOf c.loop-asc.numbered edges = λ a b.
    (let all = passed_all pair_total pair_exact _ c.as_slice-asc-items.result.now c.as_slice-asc-items.ensures c.loop-asc.asc-index c.loop-asc-test.false (a, b) in
    (λ e. all.0 ((c.loop-asc.invariant.0 a b).0 e), λ h. (c.loop-asc.invariant.0 a b).1 (all.1 h))) in
    (are, AreEdgesOf-acyclic c.loop-asc.numbered edges are c.loop-asc.invariant.1)
