use Rattle.std.proofs.Common.{inl, inr, List, sym, ◌∙◌, subst, arith}
use Rattle.std.specs.Prelude.{Contains}
use Rattle.std.proofs.lemmas.List.{take_all}
use Rattle.rbac_sets.specs.Sets.{Bytes, pair_cmp, insert}
use Rattle.rbac_sets.specs.SortedSet.{set_of}
use Rattle.role_order.specs.Order.{HasPair, Leads}
use Rattle.role_order.specs.private.Numbered.{HasNamedEdge}
use Rattle.role_order.proofs.Gathering.{row_above, row_more, row_skip}
use Rattle.role_order.proofs.building.missing_in_row.Goals as goal
use Rattle.role_order.proofs.building.missing_in_row.Goals.{then-not-is_geq+in_ok-copy+in_ok-copy-2+in_ok-push, else-not-is_geq}

pub loop-i-init : goal.loop-i-init
loop-i-init c = λ x y. (λ h. inl h, λ s. elim s [ inl o ↦ o | inr k ↦ absurd (omega (arith, k.1.0.1)) ])

pub push-requires : goal.push-requires
push-requires c = λ p h.
    (λ i. pair_cmp p (c.in_ok-copy.ensures.ok i, c.in_ok-copy-2.ensures.ok i))
    ∙ row_above (HasPair (set_of pair_cmp c.args.pairs.now)) (λ y. Leads (HasNamedEdge c.args.numbered.now) c.args.a.now y) c.args.a.now c.args.below.now c.loop-i.i c.index-below-i.result
    (set_of pair_cmp c.loop-i.pairs) c.loop-i-test.true c.index-below-i.is c.loop-i.invariant c.requires.rising (λ x y o. c.requires.first (x, y) o) p h

pub loop-i-preserved : goal.loop-i-preserved
loop-i-preserved c =
    elim c.if-not-is_geq.branch [
      | then-not-is_geq+in_ok-copy+in_ok-copy-2+in_ok-push w ↦ rw w.pairs-is
          (row_more (HasPair (set_of pair_cmp c.args.pairs.now)) (λ y. Leads (HasNamedEdge c.args.numbered.now) c.args.a.now y) c.args.a.now c.args.below.now c.loop-i.i c.index-below-i.result
          (set_of pair_cmp c.loop-i.pairs) c.loop-i-test.true c.index-below-i.is c.loop-i.invariant _
          (w.in_ok-push.ensures.ok ∙ (λ i. insert (set_of pair_cmp c.loop-i.pairs) (w.in_ok-copy.ensures.ok i, w.in_ok-copy-2.ensures.ok i)))
          (λ way. let t = c.is_geq.ensures.1 way in let f = w.if-not-is_geq.true in cc))
      | else-not-is_geq w ↦ rw w.pairs-is
          (row_skip (HasPair (set_of pair_cmp c.args.pairs.now)) (λ y. Leads (HasNamedEdge c.args.numbered.now) c.args.a.now y) c.args.a.now c.args.below.now c.loop-i.i c.index-below-i.result
          (set_of pair_cmp c.loop-i.pairs) c.loop-i-test.true c.index-below-i.is c.loop-i.invariant
          (c.is_geq.ensures.0 w.if-not-is_geq.false))
    ]

pub returns-clause-pairs : goal.returns-clause-pairs
returns-clause-pairs c = λ x y.
    let all = take_all c.loop-i.i c.args.below.now c.loop-i-test.false in
    let inv = c.loop-i.invariant x y in (
      λ h. elim (inv.0 h) [ inl o ↦ inl o | inr k ↦ inr (k.0, (subst (λ (ys : List Bytes). Contains ys y) all k.1.0, k.1.1)) ],
      λ s. inv.1 (elim s [ inl o ↦ inl o | inr k ↦ inr (k.0, (subst (λ (ys : List Bytes). Contains ys y) (sym all) k.1.0, k.1.1)) ]),
    )
