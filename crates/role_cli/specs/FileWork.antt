-- Work over the files at a path: what they held when they were opened, and what the work did.
use Rattle.std.specs.Prelude.{◌≡◌, ◌⊎◌, [], false, IsTrue, String}
use Rattle.std.specs.declared.alloc.Global.{Global}
use Rattle.sqlite.specs.Closing.{HoldsAlone, IsCopied}
use Rattle.sqlite.specs.Held.{Held, state}
use Rattle.sqlite.specs.Files.{FailsToClose, HoldsDatabase, IsClosed, IsOpened, file_state, image_of, over_files}
use Rattle.sqlite.specs.Recovery.{Image}
use Rattle.sqlite.specs.Start.{FindsIn}
use Rattle.sqlite.specs.State.{State}
use Rattle.sqlite.specs.Tree.{Trees}
use Rattle.sqlite_store.specs.declared.store.FileStore.{FileStore}
use Rattle.sqlite.specs.WalFiles.{outcomes}
use Rattle.sqlite.specs.WalReads.{AreClean}
use Rattle.sqlite.specs.declared.error.Error.{Error}
use Rattle.sqlite_store.specs.FileStore.{view}
use Rattle.sqlite_trees.specs.View.{IsClean}
use Rattle.sqlite_disk.specs.declared.Disk.{Ghosts}
use Rattle.sqlite_disk.specs.declared.Files.{Files}
use Rattle.admin_mgr.specs.Good.{IsGood}
use Rattle.rbac_sets.specs.declared.refusal.Refusal.{Refusal}
use Rattle.admin_mgr.specs.OfficeRun.{migrated_to_version_2}
use Rattle.admin_mgr.specs.RbacState.{RbacState, empty_state}
use Rattle.admin_mgr.specs.StateNames.{AreNamed}
use Rattle.role_tables.specs.Durability.{LeavesState, IsDurable}
use Rattle.role_tables.specs.Office.{OfficeModel}
use Rattle.role_cli.specs.Environment.{Environment}
use Rattle.role_cli.specs.Work.{DoesOnConnection, FailsOnConnection, IsUnopened, WorksOnConnection, makes}
use Rattle.role_cli.specs.declared.choice.Choice.{Choice}
use Rattle.role_cli.specs.declared.choice.Choice.TheVariants.{Init, Migrate}
use Rattle.role_cli.specs.declared.failure.Failure.{Failure}
use Rattle.role_cli.specs.declared.store_after.StoreAfter.{StoreAfter}
use Rattle.role_cli.specs.declared.store_after.StoreAfter.TheVariants as after

-- the files hold a database in which the state is stored
abbrev pub StoresState : Image → RbacState → Type 0
StoresState image S = (trees : Trees) × ∥ HoldsDatabase image trees ∥₁ × LeavesState S trees

-- outside a transaction an open connection holds what was committed
abbrev pub HoldsCommit : State → Type 0
HoldsCommit s = s.in_transaction ≡ false → IsTrue s.is_open → s.now ≡ s.committed

module _ {D : Type 0} (g : Ghosts D) where
  -- The files were opened: whatever state they stored is stored in the connection, and the work was over that connection.
  pub record WorksOnFiles (image : Image) (Work : State → Type 0) : Type 0 where
    pub opened : Held (FileStore D g)
    pub is_open : IsOpened opened
    pub found : FindsIn image (file_state opened)
    pub durable : (S : RbacState) → StoresState image S → IsDurable (file_state opened) S
    pub work : Work (file_state opened)

  -- The state is in the database file, with the log and without it, as the two files read now and after a crash.
  pub record StoresAlone (files : Files D) (S : RbacState) : Type 0 where
    pub trees : Trees
    pub stores : LeavesState S trees
    pub now : HoldsAlone (image_of g files) trees
    pub left : (image : Image) → outcomes g files.log files.db image → HoldsAlone image trees

  -- The connection was closed: its last commit was copied into the database file. Outside a transaction this is what it held.
  pub record ClosesOver (files : Files D) (conn : Held (FileStore D g)) : Type 0 where
    pub copied : IsCopied conn files
    pub settled : HoldsCommit (file_state conn)

  -- the files were opened, the work was over the connection, and they were closed
  abbrev pub WorksAndCloses : (image : Image) (files : Files D) → (State → Held (FileStore D g) → Type 0) → Type 0
  WorksAndCloses image files Work = (conn : Held (FileStore D g)) × WorksOnFiles image (λ before. Work before conn) × ClosesOver files conn

  -- The connection was closed, but its log could not be copied into the database file: why, and a crash of the store that is handed back
  -- leaves nothing that one of the connection would not have left.
  pub record LeavesLog (store : FileStore D g) (conn : Held (FileStore D g)) : Type 0 where
    pub closed : IsClosed conn store
    pub cause : IsClean (view store) → (error : Error) × FailsToClose conn store error

  -- while the disk returned what was written: the files were opened, the work was over the connection, and it was closed
  abbrev pub WorksOnStore : (image : Image) → (State → Held (FileStore D g) → Type 0) → StoreAfter D g → Type 0
  WorksOnStore image Work (after.Closed files) = AreClean g files.log files.db → WorksAndCloses image files Work
  WorksOnStore image Work (after.Left store) =
      IsClean (view store) → (conn : Held (FileStore D g)) × WorksOnFiles image (λ before. Work before conn) × LeavesLog store conn
  WorksOnStore image Work _ = ⊥

  -- what a subcommand does was done over the files
  abbrev pub DoesOnStore : (image : Image) → Choice → Environment → Environment → StoreAfter D g → Type 0
  DoesOnStore image chosen from to = WorksOnStore image (λ before conn. DoesOnConnection (state over_files) chosen before from to conn)

  -- it failed over the files, or it never began, and nothing was touched
  abbrev pub FailsOnStore : (image : Image) → Choice → Failure → (untouched never_begins : Type 0)
      → Environment → Environment → StoreAfter D g → Type 0
  FailsOnStore image chosen failure untouched never_begins from to after.Untouched = untouched × never_begins
  FailsOnStore image chosen failure untouched never_begins from to (after.Unopened opened) = untouched × never_begins
  FailsOnStore image chosen failure untouched never_begins from to became =
      WorksOnStore image (λ before conn. FailsOnConnection (state over_files) chosen before failure untouched from to conn) became

  -- ---- laws, over files that stored a good state whose texts are valid names

  -- The work of a subcommand that neither creates nor migrates an office was over the state that was stored, and the closed database
  -- file alone stores what it led to.
  abbrev pub WorkIsStored : (Choice → Environment → Environment → OfficeModel (FileStore D g) → OfficeModel (FileStore D g) → Type 0) → Type 0
  WorkIsStored Work = (chosen : Choice) (image : Image) (files : Files D) (from to : Environment) (S : RbacState)
      → makes chosen ≡ false → IsGood S → AreNamed S → StoresState image S
      → WorksAndCloses image files (λ before conn. WorksOnConnection (state over_files) chosen before (Work chosen from to) conn)
      → (first last : OfficeModel (FileStore D g)) × (first.facts ≡ S) × Work chosen from to first last × StoresAlone files last.facts

  -- If no office was created, migrated or opened, the state that was stored still is.
  abbrev pub RefusedOpeningIsStored : Type 0
  RefusedOpeningIsStored = (chosen : Choice) (image : Image) (files : Files D) (refusal : Refusal) (S : RbacState)
      → IsGood S → AreNamed S → StoresState image S
      → WorksAndCloses image files (λ before conn. IsUnopened chosen before refusal (file_state conn)) → StoresAlone files S

  -- What a migration made of a state is stored.
  abbrev pub MigrationIsStored : Type 0
  MigrationIsStored = (path : String Global) (image : Image) (files : Files D) (from to : Environment) (S : RbacState)
      → IsGood S → AreNamed S → StoresState image S
      → WorksAndCloses image files (λ before conn. DoesOnConnection (state over_files) (Migrate path) before from to conn)
      → (S.version ≡ 1) × StoresAlone files (migrated_to_version_2 S)

  -- A new office is stored, empty.
  abbrev pub NewOfficeIsStored : Type 0
  NewOfficeIsStored = (path : String Global) (image : Image) (files : Files D) (from to : Environment)
      → WorksAndCloses image files (λ before conn. DoesOnConnection (state over_files) (Init path) before from to conn)
      → StoresAlone files (empty_state 2)

  -- ---- from one run to the next

  -- What the next run may open after the files were closed: what they read now, or an outcome of a crash; with the log, or without it.
  abbrev pub MayBeOpened : Files D → Image → Type 0
  MayBeOpened files next = (image : Image) × ((image ≡ image_of g files) ⊎ outcomes g files.log files.db image)
      × ((next ≡ image) ⊎ (next ≡ record image { log = [] }))

  -- The state that one run stored alone is stored in whatever the next run may open.
  abbrev pub RunsCompose : Type 0
  RunsCompose = (files : Files D) (S : RbacState) (next : Image) → StoresAlone files S → MayBeOpened files next → StoresState next S
