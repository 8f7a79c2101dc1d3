-- A list of a state's rows, and the list after changes. Rows that are stored outside of the state follow it in this way.
use Rattle.std.specs.Prelude.{not, List, ◌∷◌, filter, fold}
use Rattle.rbac_sets.specs.declared.row.Row.{Row}
use Rattle.rbac_sets.specs.declared.row.Change.{Change}
use Rattle.rbac_sets.specs.declared.row.Change.TheVariants.{Put, Take}
use Rattle.admin_mgr.specs.RbacState.{RbacState}
use Rattle.admin_mgr.specs.Changes.{same_row, Turns}
use Rattle.admin_mgr.specs.RowChecks.{AreRowsOf}

-- the rows after one change
abbrev pub rows_by : List Row → Change → List Row
rows_by rows (Put row) = row ∷ rows
rows_by rows (Take row) = filter (λ other. not (same_row row other)) rows

-- the rows after the changes, one after the other
abbrev pub rows_after : List Row → List Change → List Row
rows_after rows changes = fold rows_by rows changes

-- changes that turn one state into another also turn a list of the rows of the one, each once, into such a list of the other
abbrev pub RowsFollow : Type 0
RowsFollow = (S T : RbacState) (changes : List Change) (rows : List Row) → Turns S changes T → AreRowsOf S rows → AreRowsOf T (rows_after rows changes)
