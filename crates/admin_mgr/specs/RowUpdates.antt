-- A state with other edges, and the room that a list of changes needs.
use Rattle.std.specs.Prelude.{ℕ, ◌+◌, ◌≤◌, Bool, if◌then◌else◌, List, [], ◌∷◌, Option, None}
use Rattle.rbac_sets.specs.Sets.{Pairs}
use Rattle.rbac_sets.specs.declared.row.Change.{Change}
use Rattle.rbac_sets.specs.declared.row.Change.TheVariants.{Put, Take}
use Rattle.rbac_sets.specs.declared.table.Table.{Table}
use Rattle.rbac_sets.specs.Table.{table_of, is_number}
use Rattle.admin_mgr.specs.RbacState.{RbacState}

-- the same sets and relations with other edges
abbrev pub with_edges : RbacState → Pairs → RbacState
with_edges S edges = record S { edges = edges }

-- ---- room

-- the table into which the change puts a row, if it puts one
abbrev pub table_put : Change → Option Table
table_put (Put row) = table_of row
table_put (Take row) = None

-- the change puts a row into the table of this number
abbrev pub puts_at : ℕ → Change → Bool
puts_at number change = is_number number (table_put change)

-- how many of the changes put a row into the table of this number
abbrev pub puts_of : ℕ → List Change → ℕ
puts_of number [] = 0
puts_of number (change ∷ changes) = (if puts_at number change then 1 else 0) + puts_of number changes

-- each table, given as its number and its room, has room for the rows that the changes put into it
abbrev pub HasRoom : List (ℕ × ℕ) → List Change → Type 0
HasRoom [] changes = Unit {0}
HasRoom (table ∷ tables) changes = (puts_of table.0 changes ≤ table.1) × HasRoom tables changes
