-- The rows from which a call copies.
use Rattle.std.specs.Prelude.{◌≡◌, ℕ, List, Option, slice_get}
use Rattle.role_lines.specs.StoredRow.{Parts}

-- this is the row at a place of these rows, or there is none
abbrev pub is_row_of : List Parts → ℕ → Option Parts → Type 0
is_row_of rows place row = row ≡ slice_get rows place
