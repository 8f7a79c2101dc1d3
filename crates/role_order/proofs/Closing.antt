-- Edges without a cycle, their closure, and how one more edge changes them.
use Rattle.std.proofs.Common.{◌≡◌, ◌⊎◌, inl, inr, List, [], ◌∷◌, refl, sym, ◌∙◌, subst}
use Rattle.rbac_sets.specs.Sets.{Bytes, Pairs, empty, insert}
use Rattle.role_order.specs.Order.{HasPair, Leads, here, step, Geq, IsAcyclic, IsClosure}
use Rattle.role_order.specs.Laws.{CrossesAt, AddedEdgeCrosses, IsChain, ChainsLead}
use Rattle.role_order.proofs.Members.{AddsPair, AddsPair-insert, HasPair-none}
use Rattle.role_order.proofs.Leading.{Leads-from_eq, Leads-trans, Leads-once, Leads-mono, Leads-added, first_step}

-- no edge leads back
pub no_way_back : (edges : Pairs) → IsAcyclic edges → (a b : Bytes) → HasPair edges a b → Geq edges b a → ⊥
no_way_back edges good a b e back =
    let same : a ≡ b = good.antisymmetric a b (Leads-once e) back in
    good.no_loop a (subst (λ (z : Bytes). HasPair edges a z) (sym same) e)

-- no step leads back, which is to have no cycle
abbrev pub NoWayBack : (Bytes → Bytes → Type 0) → Type 0
NoWayBack E = (a b : Bytes) → E a b → Leads E b a → ⊥

pub IsAcyclic-from_steps : (edges : Pairs) → NoWayBack (HasPair edges) → IsAcyclic edges
IsAcyclic-from_steps edges none = record {
  no_loop = λ a h. none a a h here;
  antisymmetric = λ a b l k. elim (first_step (HasPair edges) l) [ inl same ↦ same | inr s ↦ absurd (none a s.0 s.1 (Leads-trans s.2 k)) ];
}

-- one more step makes no way back if none leads from its end to its start
pub NoWayBack-added : (E F : Bytes → Bytes → Type 0) (x y : Bytes) → ((a b : Bytes) → F a b → E a b ⊎ ((a ≡ x) × (b ≡ y))) → (Leads E y x → ⊥) → NoWayBack E → NoWayBack F
NoWayBack-added E F x y only none old a b f way = elim (Leads-added E F x y only way) [
  | inl l ↦ elim (only a b f) [
    | inl e ↦ old a b e l
    | inr at ↦ none (subst (λ (z : Bytes). Leads E z x) at.1 (subst (λ (z : Bytes). Leads E b z) at.0 l))
  ]
  | inr ls ↦ elim (only a b f) [
    | inl e ↦ none (Leads-trans ls.1 (step e ls.0))
    | inr at ↦ none (subst (λ (z : Bytes). Leads E z x) at.1 ls.0)
  ]
]

-- without edges nothing leads anywhere
pub Geq-none : (a b : Bytes) → Geq empty a b → a ≡ b
Geq-none a b here = refl
Geq-none a b (step {b = m} e k) = absurd (HasPair-none a m e)

pub IsAcyclic-none : IsAcyclic empty
IsAcyclic-none = record {
  no_loop = λ a h. HasPair-none a a h;
  antisymmetric = λ a b l k. Geq-none a b l;
}

pub IsClosure-none : IsClosure empty empty
IsClosure-none a b = (λ h. absurd (HasPair-none a b h), λ h. absurd (h.0 (Geq-none a b h.1)))

pub crosses : (old new : Pairs) (asc desc : Bytes) → AddsPair old new asc desc → CrossesAt old new asc desc
crosses old new asc desc adds a b = (
  λ l. Leads-added (HasPair old) (HasPair new) asc desc (λ x y. (adds x y).0) l,
  λ s. elim s [
    | inl l ↦ kept l
    | inr ls ↦ Leads-trans (kept ls.0) (step ((adds asc desc).1 (inr (refl, refl))) (kept ls.1))
  ],
) where
  kept : {x y : Bytes} → Geq old x y → Geq new x y
  kept l = Leads-mono (HasPair old) (HasPair new) (λ x y h. (adds x y).1 (inl h)) l

pub IsAcyclic-added : (old new : Pairs) (asc desc : Bytes) → IsAcyclic old → (Geq old desc asc → ⊥) → AddsPair old new asc desc → IsAcyclic new
IsAcyclic-added old new asc desc good no_back adds = record {
  no_loop = λ a h. elim ((adds a a).0 h) [ inl o ↦ good.no_loop a o | inr e ↦ no_back (Leads-from_eq (sym e.1 ∙ e.0)) ];
  antisymmetric = λ a b l k. elim ((crosses old new asc desc adds a b).0 l) [
    | inl l' ↦ elim ((crosses old new asc desc adds b a).0 k) [
      | inl k' ↦ good.antisymmetric a b l' k'
      | inr k' ↦ absurd (no_back (Leads-trans k'.1 (Leads-trans l' k'.0)))
    ]
    | inr l' ↦ elim ((crosses old new asc desc adds b a).0 k) [
      | inl k' ↦ absurd (no_back (Leads-trans l'.1 (Leads-trans k' l'.0)))
      | inr k' ↦ absurd (no_back (Leads-trans l'.1 k'.0))
    ]
  ];
}

pub added_edge : AddedEdgeCrosses
added_edge edges asc desc good no_back = (
  crosses edges (insert edges (asc, desc)) asc desc (AddsPair-insert edges asc desc),
  IsAcyclic-added edges (insert edges (asc, desc)) asc desc good no_back (AddsPair-insert edges asc desc),
)

pub IsAcyclic-subset : (edges more : Pairs) → ((a b : Bytes) → HasPair edges a b → HasPair more a b) → IsAcyclic more → IsAcyclic edges
IsAcyclic-subset edges more sub good = record {
  no_loop = λ a h. good.no_loop a (sub a a h);
  antisymmetric = λ a b l k. good.antisymmetric a b (Leads-mono (HasPair edges) (HasPair more) sub l) (Leads-mono (HasPair edges) (HasPair more) sub k);
}

-- ---- chains of names, and the order

chain_of : (edges : Pairs) {a b : Bytes} → Geq edges a b → (names : List Bytes) × IsChain edges a names b
chain_of edges here = ([], refl)
chain_of edges (step {b = m} e k) = let rest = chain_of edges k in (m ∷ rest.0, (e, rest.1))

along_chain : (edges : Pairs) (a : Bytes) (names : List Bytes) (b : Bytes) → IsChain edges a names b → Geq edges a b
along_chain edges a [] b e = Leads-from_eq e
along_chain edges a (m ∷ names) b c = step c.0 (along_chain edges m names b c.1)

pub chains_lead : ChainsLead
chains_lead edges a b = (λ l. chain_of edges l, λ c. along_chain edges a c.0 b c.1)

pub good_none : (edges pairs : Pairs) → edges ≡ empty → pairs ≡ empty → IsAcyclic edges × IsClosure edges pairs
good_none edges pairs none nothing = (
  subst IsAcyclic (sym none) IsAcyclic-none,
  subst (λ (s : Pairs). IsClosure s pairs) (sym none) (subst (λ (t : Pairs). IsClosure empty t) (sym nothing) IsClosure-none),
)
