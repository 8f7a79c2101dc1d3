-- Edges by the numbers of their names.
use Rattle.std.specs.Prelude.{◌≡◌, ◌↔◌, ◌<◌, ℕ, Option, IsTrue, find}
use Rattle.std.specs.Option.{option_map}
use Rattle.rbac_sets.specs.Sets.{Bytes, Cardinality, Cardinalities, Pairs, contains, len, members, same_name}
use Rattle.reach_bits.specs.Graph.{Graph, HasEdge}
use Rattle.role_order.specs.NumberedEdges.{NumberedEdges}
use Rattle.role_order.specs.Order.{HasPair}

-- the name has this number
abbrev pub HasNumber : Cardinalities → Bytes → ℕ → Type 0
HasNumber numbers name n = IsTrue (contains numbers (name, n))

-- the number of a name, if it has one
abbrev pub number_of : Cardinalities → Bytes → Option ℕ
number_of numbers name = option_map (λ (entry : Cardinality). entry.1) (find (λ (entry : Cardinality). same_name entry.0 name) (members numbers))

-- a name has one number, and no other name has it; the numbers are below their count
pub record IsNumbering (numbers : Cardinalities) : Type 0 where
  pub one : (a : Bytes) (i j : ℕ) → HasNumber numbers a i → HasNumber numbers a j → i ≡ j
  pub apart : (a b : Bytes) (i : ℕ) → HasNumber numbers a i → HasNumber numbers b i → a ≡ b
  pub below : (a : Bytes) (i : ℕ) → HasNumber numbers a i → i < len numbers

-- each edge is one between numbers of names
abbrev pub AreNumbered : Cardinalities → Graph → Type 0
AreNumbered numbers graph = (i j : ℕ) → HasEdge graph i j → (a b : Bytes) × HasNumber numbers a i × HasNumber numbers b j

-- an edge leads from the number of a to the number of b
abbrev pub HasNamedEdge : NumberedEdges → Bytes → Bytes → Type 0
HasNamedEdge edges a b = (i j : ℕ) × HasNumber edges.numbers a i × HasNumber edges.numbers b j × HasEdge edges.graph i j

-- they are the edges of the set
abbrev pub AreEdgesOf : NumberedEdges → Pairs → Type 0
AreEdgesOf numbered edges = (a b : Bytes) → HasNamedEdge numbered a b ↔ HasPair edges a b
