-- The role hierarchy. An edge (r, q) says that r is an immediate ascendant of q; r inherits what q has.
use Rattle.std.specs.Prelude.{◌≡◌, ◌≢◌, ◌↔◌, ◌&&◌, ◌||◌, IsTrue, Bool, not, List, [], ◌∷◌}
use Rattle.rbac_sets.specs.Sets.{Bytes, Pair, Names, Pairs, contains, members, image, retain, same_name}

-- the pair of a and b is in the set
abbrev pub HasPair : Pairs → Bytes → Bytes → Type 0
HasPair pairs a b = IsTrue (contains pairs (a, b))

-- any number of steps of E leads from the first name to the second
pub data Leads (E : Bytes → Bytes → Type 0) : Bytes → Bytes → Type 0 where
  here : {a : Bytes} → Leads E a a
  step : {a b c : Bytes} → E a b → Leads E b c → Leads E a c

-- a >= b: a is b, or edges lead from a to b
abbrev pub Geq : Pairs → Bytes → Bytes → Type 0
Geq edges a b = Leads (HasPair edges) a b

-- whether a is b, or the edges of the list lead from a to b: without the first edge, or through it
abbrev pub geq_along : List Pair → Bytes → Bytes → Bool
geq_along [] a b = same_name a b
geq_along (edge ∷ edges) a b = geq_along edges a b || (geq_along edges a edge.0 && geq_along edges edge.1 b)

-- the test of a >= b
unfoldable pub geq : Pairs → Bytes → Bytes → Bool
geq edges a b = geq_along (members edges) a b

-- no edge leads from a role to itself, and no two roles are senior to each other
pub record IsAcyclic (edges : Pairs) : Type 0 where
  pub no_loop : (a : Bytes) → HasPair edges a a → ⊥
  pub antisymmetric : (a b : Bytes) → Geq edges a b → Geq edges b a → a ≡ b

-- the pairs are those of two different roles of which the first is senior to the second
abbrev pub IsClosure : Pairs → Pairs → Type 0
IsClosure edges pairs = (a b : Bytes) → HasPair pairs a b ↔ ((a ≢ b) × Geq edges a b)

-- the pairs are those between which the new edges lead and the old ones don't
abbrev pub IsGained : Pairs → Pairs → Pairs → Type 0
IsGained old new pairs = (a b : Bytes) → HasPair pairs a b ↔ (Geq new a b × (Geq old a b → ⊥))

-- the seniors of r, without r: each begins an edge
unfoldable pub seniors : Pairs → Bytes → Names
seniors edges r = retain (image (λ (edge : Pair). edge.0) edges) (λ name. geq edges name r && not (same_name name r))

-- the juniors of r, without r: each ends an edge
unfoldable pub juniors : Pairs → Bytes → Names
juniors edges r = retain (image (λ (edge : Pair). edge.1) edges) (λ name. geq edges r name && not (same_name r name))
