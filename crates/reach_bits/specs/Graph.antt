-- Directed graphs over numbers, and what their edges lead to.
use Rattle.std.specs.Prelude.{ℕ, Bool, List, [], IsTrue, length, get_or}
use Rattle.bit_rows.specs.Rows.{has_bit}

-- for each number the set of those that edges lead to from it, as words of 64 bits
abbrev pub Graph : Type 0
Graph = List (List ℕ)

-- the numbers below this one can have edges
abbrev pub room : Graph → ℕ
room graph = length graph

-- whether an edge leads from a to b
abbrev pub has_edge : Graph → ℕ → ℕ → Bool
has_edge graph a b = has_bit (get_or graph a []) b

abbrev pub HasEdge : Graph → ℕ → ℕ → Type 0
HasEdge graph a b = IsTrue (has_edge graph a b)

-- one step of E or more lead from the first number to the second
pub data Leads (E : ℕ → ℕ → Type 0) : ℕ → ℕ → Type 0 where
  once : {a b : ℕ} → E a b → Leads E a b
  step : {a b c : ℕ} → E a b → Leads E b c → Leads E a c
