-- What the program did for the choice in its arguments.
use Rattle.std.specs.Prelude.{◌≡◌, ◌⊎◌, Bool, true, false, ℕ, List, [], string_bytes}
use Rattle.std.specs.Io.KnownBytes.{Consumes, IsAtEnd}
use Rattle.sqlite.specs.Held.{state}
use Rattle.sqlite.specs.Files.{over_files}
use Rattle.sqlite.specs.Recovery.{Image}
use Rattle.sqlite_disk.specs.declared.Disk.{Ghosts}
use Rattle.sqlite_store.specs.declared.store.FileStore.{FileStore}
use Rattle.rbac_sets.specs.declared.refusal.Refusal.TheVariants as refusal
use Rattle.admin_mgr.specs.RbacState.{empty_state}
use Rattle.role_tables.specs.Durability.{IsDurable}
use Rattle.role_tables.specs.Office.{OfficeModel}
use Rattle.role_wire.specs.OfficeReplay.{IsHalted}
use Rattle.role_cli.specs.Environment.{Environment, ReadFailed, WriteFailed}
use Rattle.role_cli.specs.FileWork.{DoesOnStore, FailsOnStore}
use Rattle.role_cli.specs.ServedConnections.{Known}
use Rattle.role_cli.specs.Work.{AnswersInput, DoesOverSomeState, FailsOrFindsNoOffice, IsCaused}
use Rattle.role_cli.specs.declared.choice.Choice.{Choice}
use Rattle.role_cli.specs.declared.choice.Choice.TheVariants as choice
use Rattle.role_cli.specs.declared.choice.Place.TheVariants.{File, Memory}
use Rattle.role_cli.specs.declared.failure.Failure.{Failure}
use Rattle.role_cli.specs.declared.failure.Failure.TheVariants.{Refused, Stopped}
use Rattle.role_cli.specs.declared.memory_file.MemoryFile.{MemoryFile}
use Rattle.role_cli.specs.declared.store_after.StoreAfter.{StoreAfter}
use Rattle.role_cli.specs.declared.store_after.StoreAfter.TheVariants as after

-- ---- a replay in memory

-- an open office, whose state is empty and is stored in its tables
pub record IsNewOffice {F : Type 0} {g : Ghosts F} (office : OfficeModel (FileStore F g)) : Type 0 where
  pub state_is : office.facts ≡ empty_state 2
  pub is_closed : office.is_closed ≡ false
  pub durable : IsDurable (state over_files office.conn) (empty_state 2)

-- the lines were answered, over an office that was new
abbrev pub ReplaysInMemory : {F : Type 0} → Ghosts F → (remaining now_remaining written now_written : Known) → Type 0
ReplaysInMemory {F} g remaining now_remaining written now_written = (first last : OfficeModel (FileStore F g)) × IsNewOffice first
    × AnswersInput (state over_files) first remaining now_remaining written now_written last

-- The replay failed: it stopped over an office that was new, after these bytes were read; or none could be created, because an allocation
-- failed, and nothing was touched.
abbrev pub FailsInMemory : {F : Type 0} → Ghosts F → Failure → (untouched : Type 0) → (remaining now_remaining written now_written : Known) → Type 0
FailsInMemory {F} g (Stopped stop) untouched remaining now_remaining written now_written =
    (taken : List ℕ) × (first left : OfficeModel (FileStore F g)) × Consumes remaining now_remaining taken × IsNewOffice first
    × IsHalted (state over_files) first left taken (IsAtEnd now_remaining) written now_written stop.cause stop.answered
FailsInMemory {F} g (Refused why) untouched remaining now_remaining written now_written = ((why ≡ refusal.Memory) ⊎ (why ≡ refusal.Store)) × untouched
FailsInMemory {F} g _ untouched remaining now_remaining written now_written = ⊥

-- ---- any subcommand

-- it is a replay over a new office in memory
abbrev pub is_memory_replay : Choice → Bool
is_memory_replay (choice.Replay Memory) = true
is_memory_replay _ = false

-- the path of the office, if it is in a file
abbrev pub path_of : Choice → List ℕ
path_of (choice.Init path) = string_bytes path
path_of (choice.Replay (File path)) = string_bytes path
path_of (choice.Replay Memory) = []
path_of (choice.Serve path _ _) = string_bytes path
path_of (choice.Import path _) = string_bytes path
path_of (choice.Export path) = string_bytes path
path_of (choice.Report path) = string_bytes path
path_of (choice.Check path) = string_bytes path
path_of (choice.Migrate path) = string_bytes path

module _ (in_memory : Ghosts MemoryFile) {F : Type 0} (g : Ghosts F) where
  -- It was done: a replay in memory over a new office; anything else in files of type F, which held this image when they were opened,
  -- over the office that they stored or, whatever the disk returned, over one of some good state.
  abbrev pub IsDoneIn : (is_in_memory : Bool) (image : Image) → Choice → Environment → Environment → StoreAfter F g → Type 0
  IsDoneIn true image chosen from to became =
      ReplaysInMemory in_memory from.remaining to.remaining from.written to.written × (became ≡ after.Untouched)
  IsDoneIn false image chosen from to became =
      DoesOverSomeState (state (over_files {g = g})) chosen from to × DoesOnStore g image chosen from to became

  -- It failed by this failure: a replay in memory over a new office; anything else in files, over the office that they stored or one of
  -- some good state; or it never began, and nothing was touched.
  abbrev pub FailsIn : (is_in_memory : Bool) (image : Image) → Choice → Failure → (untouched never_begins : Type 0)
      → Environment → Environment → StoreAfter F g → Type 0
  FailsIn true image chosen failure untouched never_begins from to became =
      FailsInMemory in_memory failure untouched from.remaining to.remaining from.written to.written
      × IsCaused failure (WriteFailed from to) (ReadFailed from to) × (became ≡ after.Untouched)
  FailsIn false image chosen failure untouched never_begins from to became =
      FailsOrFindsNoOffice (state (over_files {g = g})) chosen failure untouched from to
      × FailsOnStore g image chosen failure untouched never_begins from to became

  -- the choice was done
  abbrev pub IsDone : (image : Image) → Choice → Environment → Environment → StoreAfter F g → Type 0
  IsDone image chosen = IsDoneIn (is_memory_replay chosen) image chosen

  -- the choice failed by this failure
  abbrev pub FailsBy : (image : Image) → Choice → Failure → (untouched never_begins : Type 0)
      → Environment → Environment → StoreAfter F g → Type 0
  FailsBy image chosen = FailsIn (is_memory_replay chosen) image chosen

  -- the same, of files of which nothing is known: over some image of them
  abbrev pub IsDoneSomehow : Choice → Environment → Environment → Type 0
  IsDoneSomehow chosen from to = (image : Image) × (became : StoreAfter F g) × IsDone image chosen from to became

  abbrev pub FailsSomehow : Choice → Failure → (untouched : Type 0) (never_begins : StoreAfter F g → Type 0)
      → Environment → Environment → Type 0
  FailsSomehow chosen failure untouched never_begins from to =
      (image : Image) × (became : StoreAfter F g) × FailsBy image chosen failure untouched (never_begins became) from to became
