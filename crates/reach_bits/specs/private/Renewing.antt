-- The rows of a closure while they are made anew.
use Rattle.std.specs.Prelude.{◌≡◌, ◌⊎◌, ℕ, List, IsTrue, false}
use Rattle.bit_rows.specs.Rows.{has_bit}
use Rattle.reach_bits.specs.private.Closing.{IsRight}
use Rattle.reach_bits.specs.Graph.{Graph, HasEdge}

-- one of the edges leads to the number, or to one whose row has it
abbrev pub IsOver : List ℕ → Graph → ℕ → Type 0
IsOver edges closure b = (k : ℕ) × IsTrue (has_bit edges k) × ((b ≡ k) ⊎ HasEdge closure k b)

-- the rows of the pending numbers are to be made anew, and the other ones are right; each of the pending rows has at least what its
-- number's edges lead to at once, and more than the pending rows of its numbers
pub record IsPartlyRight (edges closure : Graph) (pending : List ℕ) : Type 0 where
  pub right : (a : ℕ) → has_bit pending a ≡ false → IsRight edges closure a
  pub covers : (a k : ℕ) → IsTrue (has_bit pending a) → HasEdge edges a k → HasEdge closure a k
  pub falls : (a k b : ℕ) → IsTrue (has_bit pending a) → IsTrue (has_bit pending k) → HasEdge closure a k → HasEdge closure k b → HasEdge closure a b
  pub acyclic : (a : ℕ) → IsTrue (has_bit pending a) → HasEdge closure a a → ⊥
