-- What the tables hold after changes of rows inside a transaction.
use Rattle.std.specs.Prelude.{ℕ, ◌≡◌, IsTrue, List, Result}
use Rattle.std.specs.List.{AllByRecursion}
use Rattle.rbac_sets.specs.Named.{row_of}
use Rattle.rbac_sets.specs.declared.row.Row.{Row}
use Rattle.rbac_sets.specs.declared.row.Change.{Change}
use Rattle.admin_mgr.specs.Changes.{Turns}
use Rattle.admin_mgr.specs.Good.{IsGood}
use Rattle.admin_mgr.specs.RbacState.{RbacState}
use Rattle.admin_mgr.specs.RowsAfter.{rows_after, rows_by}
use Rattle.sqlite.specs.State.{State}
use Rattle.sqlite.specs.declared.error.Error.{Error}
use Rattle.role_tables.specs.OfficeTables.{table_of, is_wanted, HoldsTables}
use Rattle.role_tables.specs.Durability.{IsDurable}
use Rattle.role_tables.specs.private.Transactions.{TransactsTo}
use Rattle.role_tables.specs.StoredState.{stored, stored_rows}

-- an office of this version has the table of the changed row
abbrev pub IsKept : ℕ → Change → Type 0
IsKept version change = IsTrue (is_wanted version (table_of (stored (row_of change))))

-- it has the tables of all changed rows
abbrev pub AreKept : List Change → ℕ → Type 0
AreKept changes version = AllByRecursion (IsKept version) changes

-- inside a transaction: if the office has the tables of the changed rows, its tables now hold the rows that `after` gives
pub record TablesAfter (old new : State) (Kept : ℕ → Type 0) (after : List Row → List Row) : Type 0 where
  pub rows : (version : ℕ) (rows : List Row) → Kept version → HoldsTables (is_wanted version) old.now (stored_rows version rows) → HoldsTables (is_wanted version) new.now (stored_rows version (after rows))
  pub mode : new.in_transaction ≡ old.in_transaction

-- its tables now hold the rows after one change
abbrev pub ChangesTables : State → State → Change → Type 0
ChangesTables old new change = TablesAfter old new (λ version. IsKept version change) (λ rows. rows_by rows change)

-- its tables now hold the rows after these changes
abbrev pub ChangesAll : State → State → List Change → Type 0
ChangesAll old new changes = TablesAfter old new (AreKept changes) (λ rows. rows_after rows changes)

-- the changes that turn the durable state into another were written in one transaction
abbrev pub WritesChanges : State → State → List Change → Result (Unit {0}) Error → Type 0
WritesChanges old new changes result = (from to : RbacState) → Turns from changes to → IsGood from → IsGood to → IsDurable old from → TransactsTo old new to result
