-- States whose names are valid. The definitions are over any bytes; in a state that the program holds, each name is valid.
use Rattle.std.specs.Prelude.{IsTrue, List}
use Rattle.rbac_sets.specs.Named.{is_named, are_named}
use Rattle.rbac_sets.specs.declared.row.Row.{Row}
use Rattle.rbac_sets.specs.declared.row.Change.{Change}
use Rattle.admin_mgr.specs.RbacState.{RbacState}
use Rattle.admin_mgr.specs.Rows.{has_row}
use Rattle.admin_mgr.specs.Changes.{Turns}

-- each name in the rows of the state is valid
abbrev pub AreNamed : RbacState → Type 0
AreNamed S = (row : Row) → IsTrue (has_row S row) → IsTrue (is_named row)

-- changes whose names are valid lead from a state whose names are valid to another such state
abbrev pub NamedTurns : Type 0
NamedTurns = (S T : RbacState) (changes : List Change) → Turns S changes T → AreNamed S → IsTrue (are_named changes) → AreNamed T
