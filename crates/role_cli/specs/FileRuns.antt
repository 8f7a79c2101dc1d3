-- Runs of the program over one file, one after the other, each stopped at any moment: what the file stores in the end.
use Rattle.std.specs.Prelude.{◌≡◌, ◌⊎◌, ◌&&◌, ℕ, false, List, [], ◌∷◌, ◌++◌, Ok, All}
use Rattle.std.specs.Io.KnownBytes.{Consumes}
use Rattle.sqlite.specs.Files.{over_files}
use Rattle.sqlite.specs.Held.{state}
use Rattle.sqlite.specs.Recovery.{Image}
use Rattle.sqlite_disk.specs.declared.Disk.{Ghosts}
use Rattle.sqlite_disk.specs.declared.Files.{Files}
use Rattle.sqlite_store.specs.declared.store.FileStore.{FileStore}
use Rattle.rbac_sets.specs.CommandContent.{Single}
use Rattle.rbac_sets.specs.Sets.{Bytes}
use Rattle.rbac_sets.specs.declared.command.Command.{Command}
use Rattle.rbac_sets.specs.declared.command.Command.TheVariants.{DeassignUser, RevokePermission}
use Rattle.admin_mgr.specs.Good.{IsGood}
use Rattle.admin_mgr.specs.OfficeRun.{Event, IsDeassignedInForce, IsRevokedInForce, Leaves, OfficeRun, assigns, events_of, grants_to, may_have_taken_effect, migrated_to_version_2}
use Rattle.admin_mgr.specs.RbacState.{RbacState}
use Rattle.admin_mgr.specs.StateNames.{AreNamed}
use Rattle.role_tables.specs.Office.{OfficeModel}
use Rattle.role_tables.specs.OfficeHistory.{IsAfterPrefix, IsReached, IsWithoutAssignment, IsWithoutGrant}
use Rattle.role_tables.specs.Runs.{run_of}
use Rattle.role_json.specs.Answer.{done_text}
use Rattle.role_json.specs.Request.{request}
use Rattle.role_json.specs.RequestContent.{Change}
use Rattle.role_wire.specs.Events.{AddsLines}
use Rattle.role_wire.specs.OfficeReplay.{IsAnswered}
use Rattle.role_wire.specs.Outcome.{after_lines, answer_to, asking_lines}
use Rattle.role_cli.specs.Environment.{Environment}
use Rattle.role_cli.specs.FileWork.{MayBeOpened, StoresState, WorksAndCloses}
use Rattle.role_cli.specs.Work.{DoesOnConnection, WorksOnConnection, makes}
use Rattle.role_cli.specs.declared.choice.Choice.{Choice}
use Rattle.role_cli.specs.declared.choice.Choice.TheVariants.{Replay}
use Rattle.role_cli.specs.declared.choice.Place.{Place}

-- ---- runs over a file, whatever is stored there
--     IsSound S       the state may be stored
--     Stores image S  the files store the state
--     Begins S r      the run may begin over files that store the state
--     MayLeave r T    the run, stopped at any moment, may leave the state

module _ {W R : Type 0} (IsSound : W → Type 0) (Stores : Image → W → Type 0) (Begins : W → R → Type 0) (MayLeave : R → W → Type 0) where
  -- whatever sound state the files stored, they store it now
  abbrev pub Keeps : Image → Image → Type 0
  Keeps image next = (S : W) → IsSound S → Stores image S → Stores next S

  -- whatever sound state the files stored, the run began over it, and now they store a sound state that the run may leave
  abbrev pub RunsOver : Image → R → Image → Type 0
  RunsOver image r left = (S : W) → IsSound S → Stores image S → Begins S r × ∥ ((T : W) × MayLeave r T × IsSound T × Stores left T) ∥₁

  -- Runs in order, from what the files held first to what they hold last. What came between two runs kept what was stored.
  abbrev pub AreRunsOver : Image → List R → Image → Type 0
  AreRunsOver first [] last = Keeps first last
  AreRunsOver first (r ∷ runs) last = (image left : Image) × Keeps first image × RunsOver image r left × AreRunsOver left runs last

-- ---- runs of an office in a file

-- the state is good, and its texts are valid names
abbrev pub IsSound : RbacState → Type 0
IsSound S = IsGood S × AreNamed S

-- the run began with the state, or with this state of version 1 migrated to version 2
abbrev pub BeginsOver : RbacState → OfficeRun → Type 0
BeginsOver S office_run = (office_run.start ≡ S) ⊎ ((S.version ≡ 1) × (office_run.start ≡ migrated_to_version_2 S))

-- a crash at the end of the run's events may leave the state
abbrev pub MayLeave : OfficeRun → RbacState → Type 0
MayLeave office_run T = Leaves office_run.start office_run.events T

-- one run over the files of an office
abbrev pub IsFileRun : Image → OfficeRun → Image → Type 0
IsFileRun image office_run left = RunsOver IsSound StoresState BeginsOver MayLeave image office_run left

-- the runs over the files of one office, in order
abbrev pub AreFileRuns : Image → List OfficeRun → Image → Type 0
AreFileRuns first runs last = AreRunsOver IsSound StoresState BeginsOver MayLeave first runs last

-- If files stored a sound state first, then after any list of runs they store a sound state which the last run leads to: the state after a
-- prefix of its accepted commands which has every acknowledged one.
abbrev pub FileLives : Type 0
FileLives = (first end : Image) (S : RbacState) (before : List OfficeRun) (last : OfficeRun)
    → IsSound S → StoresState first S → AreFileRuns first (before ++ last ∷ []) end
    → ∥ ((T : RbacState) × StoresState end T × IsSound T × IsReached before last T × IsAfterPrefix last T) ∥₁

-- What was deassigned in force over all these runs is not in the state that they store.
abbrev pub DeassignedStaysInFile : Type 0
DeassignedStaysInFile = (first end : Image) (S : RbacState) (before : List OfficeRun) (last : OfficeRun)
    → IsSound S → StoresState first S → AreFileRuns first (before ++ last ∷ []) end
    → (user role : Bytes) → IsDeassignedInForce (events_of (before ++ last ∷ [])) user role
    → ∥ ((T : RbacState) × StoresState end T × IsWithoutAssignment T user role) ∥₁

-- Nor is what was revoked in force.
abbrev pub RevokedStaysInFile : Type 0
RevokedStaysInFile = (first end : Image) (S : RbacState) (before : List OfficeRun) (last : OfficeRun)
    → IsSound S → StoresState first S → AreFileRuns first (before ++ last ∷ []) end
    → (object operation role : Bytes) → IsRevokedInForce (events_of (before ++ last ∷ [])) object operation role
    → ∥ ((T : RbacState) × StoresState end T × IsWithoutGrant T object operation role) ∥₁

-- ---- the runs of the program are such runs

module _ {D : Type 0} (g : Ghosts D) where
  -- The work of a subcommand that neither creates nor migrates an office, over files that were closed then, is a run over these files,
  -- of some events.
  abbrev pub WorkIsFileRun : (Choice → Environment → Environment → OfficeModel (FileStore D g) → OfficeModel (FileStore D g) → Type 0) → Type 0
  WorkIsFileRun Work = (chosen : Choice) (image next : Image) (files : Files D) (from to : Environment) → makes chosen ≡ false
      → WorksAndCloses g image files (λ before conn. WorksOnConnection (state over_files) chosen before (Work chosen from to) conn) → MayBeOpened g files next
      → (first last : OfficeModel (FileStore D g)) × Work chosen from to first last × ((events : List Event) × IsFileRun image (run_of first.facts events) next)

  -- A replay over files that were closed then is a run over these files: its events are those of the lines that it read, and what it
  -- wrote are their answers.
  abbrev pub ReplayIsFileRun : Type 0
  ReplayIsFileRun = (place : Place) (image next : Image) (files : Files D) (from to : Environment)
      → WorksAndCloses g image files (λ before conn. DoesOnConnection (state over_files) (Replay place) before from to conn) → MayBeOpened g files next
      → (office_run : OfficeRun) × IsFileRun image office_run next
      × ((input : List ℕ) × (answered : ℕ) × Consumes from.remaining to.remaining input
      × IsAnswered office_run.start input from.written to.written answered × AddsLines office_run.start (asking_lines input) office_run.events)

-- ---- the lines of a replay that were acknowledged

-- A line of the run asked for this command and was answered by `{"ok":true}`: the events of the run are those of its lines up to this one,
-- and then these.
pub record HasAcknowledged (office_run : OfficeRun) (command : Command) (later : List Event) : Type 0 where
  pub lines : List (List ℕ)
  pub line : List ℕ
  pub asks : request line ≡ Ok (Change (Single command))
  pub answer : answer_to (after_lines office_run.start lines) line ≡ done_text
  pub first : List Event
  pub events : office_run.events ≡ first ++ later
  pub adds : AddsLines office_run.start (lines ++ line ∷ []) first

-- Each line of a run that was answered by `{"ok":true}` is such a line, and the events after it are those of the lines after it.
abbrev pub LinesAreAcknowledged : Type 0
LinesAreAcknowledged = (office_run : OfficeRun) (lines : List (List ℕ)) (line : List ℕ) (more : List (List ℕ)) (command : Command)
    → AddsLines office_run.start (lines ++ line ∷ more) office_run.events
    → request line ≡ Ok (Change (Single command)) → answer_to (after_lines office_run.start lines) line ≡ done_text
    → (later : List Event) × HasAcknowledged office_run command later × AddsLines (after_lines office_run.start (lines ++ line ∷ [])) more later

-- If a line was acknowledged that deassigned the user, and no event after it may have assigned the user again, then the assignment is not in
-- the state that the files store in the end.
abbrev pub AcknowledgedDeassignmentStays : Type 0
AcknowledgedDeassignmentStays = (start end : Image) (S : RbacState) (before : List OfficeRun) (replay : OfficeRun) (after : List OfficeRun)
    → IsSound S → StoresState start S → AreFileRuns start (before ++ replay ∷ after) end
    → (user role : Bytes) (later : List Event) → HasAcknowledged replay (DeassignUser user role) later
    → All (λ (event : Event). (may_have_taken_effect event && assigns user role event.command) ≡ false) (later ++ events_of after)
    → ∥ ((T : RbacState) × StoresState end T × IsWithoutAssignment T user role) ∥₁

-- The same holds of a grant and its revocation.
abbrev pub AcknowledgedRevocationStays : Type 0
AcknowledgedRevocationStays = (start end : Image) (S : RbacState) (before : List OfficeRun) (replay : OfficeRun) (after : List OfficeRun)
    → IsSound S → StoresState start S → AreFileRuns start (before ++ replay ∷ after) end
    → (object operation role : Bytes) (later : List Event) → HasAcknowledged replay (RevokePermission object operation role) later
    → All (λ (event : Event). (may_have_taken_effect event && grants_to object operation role event.command) ≡ false) (later ++ events_of after)
    → ∥ ((T : RbacState) × StoresState end T × IsWithoutGrant T object operation role) ∥₁
