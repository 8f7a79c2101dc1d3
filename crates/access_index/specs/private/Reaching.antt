-- Numbers that reach one another.
use Rattle.std.specs.Prelude.{◌≡◌, ◌⊎◌, ℕ, Bool, IsTrue, List}
use Rattle.bit_rows.specs.declared.row.BitRow.{BitRow}
use Rattle.access_index.specs.Index.{is_below}

-- some granted number is an active one, or in the row of an active one
abbrev pub Reaches : List BitRow → (active granted : ℕ → Bool) → Type 0
Reaches rows active granted = (i : ℕ) × (j : ℕ) × IsTrue (active i) × ((i ≡ j) ⊎ IsTrue (is_below rows i j)) × IsTrue (granted j)
