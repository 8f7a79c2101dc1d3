-- Which pairs an order loses when an edge is removed.
use Rattle.std.proofs.Common.{◌↔◌, inl, inr, sym, subst}
use Rattle.std.specs.Prelude.{IsTrue}
use Rattle.rbac_sets.specs.Sets.{Bytes, Names, Pairs, contains, remove}
use Rattle.role_order.specs.Order.{HasPair, step, Geq, IsGained}
use Rattle.role_order.specs.Laws.{CrossesAt}
use Rattle.role_order.proofs.Members.{AddsPair, TakesPair, TakesPair-remove, same_or_other}
use Rattle.role_order.proofs.Leading.{Leads-trans, Leads-mono}
use Rattle.role_order.proofs.Closing.{crosses}

-- the remaining edges and the removed one are the old edges
AddsPair-back : (old left : Pairs) (asc desc : Bytes) → HasPair old asc desc → TakesPair old left asc desc → AddsPair left old asc desc
AddsPair-back old left asc desc edge takes x y = (
  λ h. elim (same_or_other x asc) [
    | inr n ↦ inl ((takes x y).1 (h, λ e. n e.0))
    | inl e ↦ elim (same_or_other y desc) [
      | inr n ↦ inl ((takes x y).1 (h, λ e. n e.1))
      | inl f ↦ inr (e, f)
    ]
  ],
  λ s. elim s [
    | inl h ↦ ((takes x y).0 h).0
    | inr e ↦ subst (λ (z : Bytes). HasPair old z y) (sym e.0) (subst (λ (z : Bytes). HasPair old asc z) (sym e.1) edge)
  ],
)

-- those of each of above, the edge's start and what leads to it, and each of below, its end and what that leads to, between which the
-- remaining edges don't lead
pub IsGained-missing :
    (edges : Pairs) (asc desc : Bytes) (above below : Names) (takes : Pairs)
    → HasPair edges asc desc
    → ((p : Bytes) → IsTrue (contains above p) ↔ Geq edges p asc) → ((q : Bytes) → IsTrue (contains below q) ↔ Geq edges desc q)
    → ((x y : Bytes) → HasPair takes x y ↔ (IsTrue (contains above x) × (IsTrue (contains below y) × (Geq (remove edges (asc, desc)) x y → ⊥))))
    → IsGained (remove edges (asc, desc)) edges takes
IsGained-missing edges asc desc above below takes edge ups downs rest a b =
    let left : Pairs = remove edges (asc, desc) in
    let goes : TakesPair edges left asc desc = TakesPair-remove edges asc desc in
    let order : CrossesAt left edges asc desc = crosses left edges asc desc (AddsPair-back edges left asc desc edge goes) in (
      λ h. let k = (rest a b).0 h in (Leads-trans ((ups a).0 k.0) (step edge ((downs b).0 k.1.0)), k.1.1),
      λ h. elim ((order a b).0 h.0) [
        | inl l ↦ absurd (h.1 l)
        | inr ls ↦ (rest a b).1 (
          (ups a).1 (Leads-mono (HasPair left) (HasPair edges) (λ x y e. ((goes x y).0 e).0) ls.0),
          ((downs b).1 (Leads-mono (HasPair left) (HasPair edges) (λ x y e. ((goes x y).0 e).0) ls.1), h.1),
        )
      ],
    )
