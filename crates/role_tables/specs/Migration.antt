-- How an office of version 1 is migrated to version 2.
use Rattle.std.specs.Prelude.{◌≡◌, ◌≢◌, ◌⊎◌, ◌&&◌, pos, Bool, codes, IsTrue}
use Rattle.rbac_sets.specs.declared.refusal.Refusal.{Refusal}
use Rattle.rbac_sets.specs.declared.refusal.Refusal.TheVariants.{Memory, Store, Version}
use Rattle.admin_mgr.specs.OfficeRun.{migrated_to_version_2}
use Rattle.admin_mgr.specs.RbacState.{RbacState}
use Rattle.sqlite.specs.Effect.{Database}
use Rattle.sqlite.specs.State.{State}
use Rattle.sqlite.specs.Tree.{Trees}
use Rattle.sqlite.specs.Schema.{Schema}
use Rattle.role_tables.specs.TableContents.{TableContents, contents_of}
use Rattle.role_tables.specs.OpeningChecks.{IsOfVersion2, IsStateOfContents, RefusesContents}
use Rattle.role_tables.specs.Durability.{HoldsAsBefore, LeavesOnly, LeavesState, IsDurable, WhateverIsDurable}
use Rattle.role_tables.specs.SchemaTests.{is_free, may_count}

-- the table of locks can be created
abbrev pub may_lock : Schema → Bool
may_lock schema = is_free schema (codes "locked_row") && may_count schema

-- How a migration may be refused: by 51 Version if an office of version 2 is there, and otherwise as an opening may be. Besides,
-- 41 Store comes if the store fails in a call or the table of locks can't be created, and an allocation may fail at any time.
abbrev pub RefusesMigration : TableContents → Refusal → Type 0
RefusesMigration found refusal =
    (refusal ≡ Store) ⊎ ((refusal ≡ Memory) ⊎ (((refusal ≡ Version (pos 2)) × IsOfVersion2 found) ⊎ (RefusesContents found refusal × (IsOfVersion2 found → ⊥))))

-- the table of locks could be created, a state of version 1 was read, and `made` is this state in version 2
abbrev pub IsMigratedFrom : Database → RbacState → Type 0
IsMigratedFrom db made = IsTrue (may_lock db.schema) × (before : RbacState) × IsStateOfContents (contents_of db) before × (before.version ≡ 1) × (made ≡ migrated_to_version_2 before)

-- the state that was durable was of version 1, and it is durable in version 2 now
abbrev pub MigratesDurably : State → State → RbacState → Type 0
MigratesDurably old new made = WhateverIsDurable old (λ S. (S.version ≡ 1) × (made ≡ migrated_to_version_2 S) × IsDurable new (migrated_to_version_2 S))

-- the state that was durable is held as before, and a crash leaves it unless the store failed
abbrev pub StaysRefused : State → State → Refusal → Type 0
StaysRefused old new refusal = WhateverIsDurable old (λ S. HoldsAsBefore old new × (refusal ≢ Store → LeavesOnly new S))

-- a crash leaves the state that was durable or, if it was of version 1, the same in version 2
abbrev pub LeavesEitherVersion : State → State → Type 0
LeavesEitherVersion old new = WhateverIsDurable old (λ S. (trees : Trees) → new.may_leave trees → LeavesState S trees ⊎ ((S.version ≡ 1) × LeavesState (migrated_to_version_2 S) trees))
