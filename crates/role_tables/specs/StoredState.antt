-- The rows of a state as the tables hold them.
use Rattle.std.specs.Prelude.{◌==◌, ℕ, Bool, List, [], ◌∷◌, ◌++◌, codes, map, filter}
use Rattle.rbac_sets.specs.declared.row.Row.{Row}
use Rattle.rbac_sets.specs.declared.row.Row.TheVariants.{NameRow, PairRow, GrantRow, SetRow, LockedRow}
use Rattle.sqlite.specs.Order as sql
use Rattle.sqlite.specs.Effect.{Database}
use Rattle.admin_mgr.specs.RbacState.{RbacState}
use Rattle.admin_mgr.specs.RowChecks.{AreRowsOf}
use Rattle.role_tables.specs.OfficeTables.{StoredTable, Meta, Rows, code, OfficeRow, meta_row, name_row, pair_row, grant_row, set_row, locked_row, table_of, cells, is_wanted, HoldsTables}

-- the row as a table has it
abbrev pub stored : Row → OfficeRow
stored (NameRow kind a) = name_row kind a
stored (PairRow kind a b) = pair_row kind a b
stored (GrantRow object operation role) = grant_row object operation role
stored (SetRow kind name n) = set_row kind name n
stored (LockedRow user) = locked_row user

-- the row belongs to this table
abbrev pub is_of : StoredTable → Row → Bool
is_of table row = code table == code (table_of (stored row))

-- the values of the row's columns
abbrev pub cells_of : Row → sql.Row
cells_of row = cells (stored row)

-- the one row of meta_row
abbrev pub meta_of : ℕ → StoredTable → List sql.Row
meta_of version Meta = cells (meta_row (codes "rbac") version) ∷ []
meta_of version _ = []

-- what each table has of an office of this version with these rows
abbrev pub stored_rows : ℕ → List Row → Rows
stored_rows version rows table = meta_of version table ++ map cells_of (filter (is_of table) rows)

-- The tables of the state's version are exactly as `made` says (OfficeTables.antt), and hold the rows of the state, each once,
-- and the one row of its version. No foreign key of another table names one of them, which `HoldsRows` requires of each table.
pub record HoldsState (db : Database) (S : RbacState) : Type 0 where
  pub rows : List Row
  pub rows_are : AreRowsOf S rows
  pub tables : HoldsTables (is_wanted S.version) db (stored_rows S.version rows)
