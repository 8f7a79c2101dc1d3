use Rattle.std.proofs.Common.{◌≡◌, ◌↔◌, ◌⊎◌, List, sym, subst, arith}
use Rattle.std.specs.Prelude.{Contains}
use Rattle.std.specs.List.Sorted.{IsStrictlySortedBy}
use Rattle.rbac_sets.specs.Sets.{Bytes, name_cmp, pair_cmp, members}
use Rattle.rbac_sets.specs.SortedSet.{set_of}
use Rattle.rbac_sets.specs.NameOrder.{name_total, name_exact}
use Rattle.rbac_sets.proofs.Members.{members-rise}
use Rattle.role_order.specs.Order.{HasPair, Leads}
use Rattle.role_order.specs.private.Numbered.{HasNamedEdge}
use Rattle.role_order.proofs.Members.{none_in, passed_below, Contains-members}
use Rattle.role_order.proofs.Walks.{passed_all}
use Rattle.role_order.proofs.Gathering.{rows_more}
use Rattle.role_order.proofs.building.missing_pairs.Goals as goal

pub loop-a-init : goal.loop-a-init
loop-a-init c = λ x y. (λ h. absurd (none_in _ c.new-pairs.ensures (x, y) h), λ h. absurd (omega (arith, h.0.1)))

pub missing_in_row-requires-clause-first : goal.missing_in_row-requires-clause-first
missing_in_row-requires-clause-first c = λ p h.
    let rise : IsStrictlySortedBy name_cmp c.as_slice-a-items.result.now = subst (IsStrictlySortedBy name_cmp) (sym c.as_slice-a-items.ensures) (members-rise name_cmp _) in
    passed_below name_cmp c.as_slice-a-items.result.now c.loop-a.a-index c.a-item.result p.0 rise c.loop-a-test.true c.a-item.is ((c.loop-a.invariant p.0 p.1).0 h).0

pub missing_in_row-requires-clause-rising : goal.missing_in_row-requires-clause-rising
missing_in_row-requires-clause-rising c = subst (IsStrictlySortedBy name_cmp) (sym c.as_slice-in-loop-a.ensures) (members-rise name_cmp _)

pub loop-a-preserved : goal.loop-a-preserved
loop-a-preserved c =
    rows_more (λ x y. Leads (HasNamedEdge c.args.numbered.now) x y) (members (set_of name_cmp c.args.below.now)) c.as_slice-a-items.result.now c.loop-a.a-index c.a-item.result _ _ c.loop-a-test.true c.a-item.is
    c.loop-a.invariant
    (λ x y. subst (λ (ys : List Bytes). HasPair (set_of pair_cmp c.missing_in_row.new.pairs) x y
    ↔ (HasPair (set_of pair_cmp c.loop-a.pairs) x y ⊎ ((x ≡ c.a-item.result) × (Contains ys y × (Leads (HasNamedEdge c.args.numbered.now) c.a-item.result y → ⊥)))))
    c.as_slice-in-loop-a.ensures (c.in_ok-missing_in_row.ensures.pairs x y))

pub returns-clause-pairs : goal.returns-clause-pairs
returns-clause-pairs c = λ x y.
    let ups = passed_all name_total name_exact _ c.as_slice-a-items.result.now c.as_slice-a-items.ensures c.loop-a.a-index c.loop-a-test.false x in
    let downs = Contains-members name_total name_exact (set_of name_cmp c.args.below.now) y in
    let inv = c.loop-a.invariant x y in
    (λ h. (let k = inv.0 h in (ups.0 k.0, (downs.0 k.1.0, k.1.1))), λ h. inv.1 (ups.1 h.0, (downs.1 h.1.0, h.1.1)))
