-- The closure of a graph as it is kept.
use Rattle.std.specs.Prelude.{◌≡◌, ◌↔◌, ◌*◌, ◌<◌, ◌≤◌, ℕ, List, [], length, get_or}
use Rattle.reach_bits.specs.Graph.{Graph, HasEdge, Leads}

-- a row of this many words for each number that these can have
pub record AreWide (words : ℕ) (rows : Graph) : Type 0 where
  pub count : length rows ≡ 64 * words
  pub width : (n : ℕ) → n < length rows → length (get_or rows n []) ≡ words

-- the row of a number has what its edges lead to
abbrev pub IsRight : Graph → Graph → ℕ → Type 0
IsRight edges closure a = (b : ℕ) → HasEdge closure a b ↔ Leads (HasEdge edges) a b

-- each row has what the edges lead to, which is never its own number
pub record HasClosure (edges closure : Graph) : Type 0 where
  pub right : (a : ℕ) → IsRight edges closure a
  pub acyclic : (a : ℕ) → HasEdge closure a a → ⊥

-- what is kept of a graph: its edges with their closure, and two more rows and a list for changes
pub record IsReach (edges closure : Graph) (pending made : List ℕ) (back : ℕ) : Type 0 where
  pub edges_wide : AreWide (length pending) edges
  pub closure_wide : AreWide (length pending) closure
  pub closed : HasClosure edges closure
  pub made_words : length made ≡ length pending
  pub back_count : back ≡ length edges
  pub most : length pending ≤ 128
