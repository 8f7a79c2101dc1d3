-- A transaction that was to lead to a state, and the steps of a migration.
use Rattle.std.specs.Prelude.{◌≡◌, ◌⊎◌, IsTrue, Result, OnOk, OnErr, ℕ, true, Bool, codes}
use Rattle.sqlite.specs.Tree.{Trees}
use Rattle.sqlite.specs.Effect.{Database}
use Rattle.sqlite.specs.State.{State}
use Rattle.sqlite.specs.declared.error.Error.{Error}
use Rattle.admin_mgr.specs.RbacState.{RbacState}
use Rattle.admin_mgr.specs.Good.{IsGood}
use Rattle.admin_mgr.specs.OfficeRun.{migrated_to_version_2}
use Rattle.role_tables.specs.StoredState.{HoldsState}
use Rattle.role_tables.specs.Durability.{HoldsAsBefore, HoldsDurably, IsDurable, LeavesSuch}
use Rattle.role_tables.specs.private.NamedTables.{without_row, changed_at}
use Rattle.role_tables.specs.OfficeTables.{StoredTable, Meta, Rows, meta_row, cells, HoldsTables}
use Rattle.role_tables.specs.Migration.{may_lock}

-- A transaction that was to lead to such a database: if it was committed, such a database is durable; otherwise the connection
-- holds what it held before. A crash leaves what it could leave before, or such a database.
pub record Transacts (old new : State) (Is : Database → Type 0) (result : Result (Unit {0}) Error) : Type 0 where
  pub done : OnOk result (HoldsDurably new Is)
  pub undone : OnErr result (HoldsAsBefore old new)
  pub left : (trees : Trees) → new.may_leave trees → old.may_leave trees ⊎ LeavesSuch Is trees

-- a transaction that was to lead to the state
abbrev pub TransactsTo : State → State → RbacState → Result (Unit {0}) Error → Type 0
TransactsTo old new S result = Transacts old new (λ db. HoldsState db S) result

-- inside a transaction, the row of the version is deleted
pub record DeletesVersion (version : ℕ) (old new : State) : Type 0 where
  pub taken : (want : StoredTable → Bool) (rows : Rows) → IsTrue (want Meta) → HoldsTables want old.now rows → HoldsTables want new.now (changed_at Meta (without_row (cells (meta_row (codes "rbac") version))) rows)
  pub mode : new.in_transaction ≡ old.in_transaction

-- the durable state of version 1 was to be migrated to version 2, in one transaction
abbrev pub MigratesTables : State → State → Result (Unit {0}) Error → Type 0
MigratesTables old new result = (from : RbacState) → from.version ≡ 1 → IsGood from → may_lock old.now.schema ≡ true → IsDurable old from → TransactsTo old new (migrated_to_version_2 from) result
