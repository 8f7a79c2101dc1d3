-- Laws of every hierarchy.
use Rattle.std.specs.Prelude.{◌≡◌, ◌↔◌, ◌⊎◌, List, [], ◌∷◌}
use Rattle.std.specs.Bool.{Decides}
use Rattle.rbac_sets.specs.Sets.{Bytes, Pairs, insert}
use Rattle.role_order.specs.Order.{HasPair, Geq, geq, IsAcyclic}

-- the order with the new edges is the old one with each pair of asc or a senior of it and desc or a junior of it
abbrev pub CrossesAt : Pairs → Pairs → Bytes → Bytes → Type 0
CrossesAt old new asc desc = (r q : Bytes) → Geq new r q ↔ (Geq old r q ⊎ (Geq old r asc × Geq old desc q))

-- if the edges have no cycle and desc is not asc or senior to it, an edge from asc to desc adds these pairs and makes no cycle
abbrev pub AddedEdgeCrosses : Type 0
AddedEdgeCrosses =
    (edges : Pairs) (asc desc : Bytes)
    → IsAcyclic edges → (Geq edges desc asc → ⊥)
    → CrossesAt edges (insert edges (asc, desc)) asc desc × IsAcyclic (insert edges (asc, desc))

-- edges lead from a to the first of the names and from each to the next, and the last is b
abbrev pub IsChain : Pairs → Bytes → List Bytes → Bytes → Type 0
IsChain edges a [] b = a ≡ b
IsChain edges a (m ∷ names) b = HasPair edges a m × IsChain edges m names b

-- a >= b exactly if a begins a nonempty list of names that ends in b, in which each pair of neighbours is an edge
abbrev pub ChainsLead : Type 0
ChainsLead = (edges : Pairs) (a b : Bytes) → Geq edges a b ↔ ((names : List Bytes) × IsChain edges a names b)

-- the test of a >= b is right for any edges
abbrev pub TestDecides : Type 0
TestDecides = (edges : Pairs) (a b : Bytes) → Decides (geq edges a b) (Geq edges a b)
