-- Rows whose names are valid. Those of a row in the program always are, but a list of bytes need not be a valid name.
use Rattle.std.specs.Prelude.{Bool, ◌&&◌, List}
use Rattle.std.specs.List.{list_all}
use Rattle.rbac_sets.specs.Name.{is_name}
use Rattle.rbac_sets.specs.declared.row.Row.{Row}
use Rattle.rbac_sets.specs.declared.row.Row.TheVariants.{NameRow, PairRow, GrantRow, SetRow, LockedRow}
use Rattle.rbac_sets.specs.declared.row.Change.{Change}
use Rattle.rbac_sets.specs.declared.row.Change.TheVariants.{Put, Take}

-- each name of the row is valid
abbrev pub is_named : Row → Bool
is_named (NameRow kind a) = is_name a
is_named (PairRow kind a b) = is_name a && is_name b
is_named (GrantRow a b c) = is_name a && is_name b && is_name c
is_named (SetRow kind a n) = is_name a
is_named (LockedRow a) = is_name a

-- the row that a change inserts or deletes
abbrev pub row_of : Change → Row
row_of (Put row) = row
row_of (Take row) = row

-- each name of the changes' rows is valid
abbrev pub are_named : List Change → Bool
are_named changes = list_all (λ change. is_named (row_of change)) changes
