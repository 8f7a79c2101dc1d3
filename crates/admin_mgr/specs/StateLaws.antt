-- What holds of the empty state, of a state that is migrated to version 2, and of the rows of a good state.
use Rattle.std.specs.Prelude.{◌≡◌, ◌⊎◌, ℕ, false, List}
use Rattle.rbac_sets.specs.declared.row.Row.{Row}
use Rattle.admin_mgr.specs.RbacState.{RbacState, empty_state}
use Rattle.admin_mgr.specs.Rows.{has_row}
use Rattle.admin_mgr.specs.Good.{IsGood}
use Rattle.admin_mgr.specs.OfficeRun.{migrated_to_version_2}
use Rattle.admin_mgr.specs.RowChecks.{AreReadable, AreRowsOf}

-- the empty state of either version is good
abbrev pub EmptyIsGood : Type 0
EmptyIsGood = (version : ℕ) → (version ≡ 1) ⊎ (version ≡ 2) → IsGood (empty_state version)

-- the empty state has no row
abbrev pub EmptyHasNoRow : Type 0
EmptyHasNoRow = (version : ℕ) (row : Row) → has_row (empty_state version) row ≡ false

-- a good state of version 1 that is migrated to version 2 is good
abbrev pub MigratedIsGood : Type 0
MigratedIsGood = (S : RbacState) → IsGood S → S.version ≡ 1 → IsGood (migrated_to_version_2 S)

-- each row of a good state is one that its version allows, and no two rows have the same key
abbrev pub GoodRowsAreReadable : Type 0
GoodRowsAreReadable = (S : RbacState) (rows : List Row) → IsGood S → AreRowsOf S rows → AreReadable S.version rows
