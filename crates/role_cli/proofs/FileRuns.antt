-- Runs over one file lead to what the file stores in the end.
use Rattle.std.proofs.Common.{List, ◌≡◌, [], ◌∷◌, ◌++◌, refl, subst, sym, inl, inr}
use Rattle.std.proofs.Math.Logic.{∥∥₁_elim, ∥∥₁_map}
use Rattle.std.specs.Prelude.{false}
use Rattle.sqlite.specs.Files.{file_state, over_files}
use Rattle.sqlite.specs.Held.{Held, state}
use Rattle.sqlite.specs.Recovery.{Image}
use Rattle.sqlite_disk.specs.declared.Disk.{Ghosts}
use Rattle.sqlite_disk.specs.declared.Files.{Files}
use Rattle.sqlite_store.specs.declared.store.FileStore.{FileStore}
use Rattle.rbac_sets.specs.Sets.{Bytes}
use Rattle.admin_mgr.specs.Good.{IsGood}
use Rattle.admin_mgr.specs.OfficeRun.{AreSuccessiveRuns, Event, IsDeassignedInForce, IsRevokedInForce, Leaves, OfficeRun, OpensAfter, events_of}
use Rattle.admin_mgr.specs.RbacState.{RbacState}
use Rattle.admin_mgr.specs.StateLaws.{MigratedIsGood}
use Rattle.role_tables.specs.Office.{OfficeModel}
use Rattle.role_tables.specs.OfficeHistory.{DeassignedStays, IsReached, LastIsSound, RevokedStays, SoFarIsLeft}
use Rattle.role_tables.specs.Runs.{IsInRun, run_of}
use Rattle.role_cli.proofs.FileWork.{begins_with, run_stored, runs_compose}
use Rattle.role_cli.specs.FileRuns.{AreRunsOver, BeginsOver, DeassignedStaysInFile, FileLives, IsFileRun, IsSound, MayLeave, ReplayIsFileRun, RevokedStaysInFile, WorkIsFileRun}
use Rattle.role_cli.specs.FileWork.{ClosesOver, MayBeOpened, StoresState, WorksOnFiles}
use Rattle.role_cli.specs.Environment.{Environment}
use Rattle.role_cli.specs.Work.{WorksOnConnection, makes}
use Rattle.role_cli.specs.declared.choice.Choice.{Choice}

-- the runs lead from one state to another: each began over a state that the one before may have left
abbrev LeadTo : {W R : Type 0} → (W → R → Type 0) → (R → W → Type 0) → W → List R → W → Type 0
LeadTo Begins May S [] T = T ≡ S
LeadTo {W} Begins May S (r ∷ runs) T = Begins S r × ((left : W) × May r left × LeadTo Begins May left runs T)

runs_lead : {W R : Type 0} (Fine : W → Type 0) (Stores : Image → W → Type 0) (Begins : W → R → Type 0) (May : R → W → Type 0)
    → (first last : Image) (runs : List R) (S : W) → Fine S → Stores first S → AreRunsOver Fine Stores Begins May first runs last
    → ∥ ((T : W) × LeadTo Begins May S runs T × Fine T × Stores last T) ∥₁
runs_lead Fine Stores Begins May first last [] S fine stored kept = ∣ (S, refl, fine, kept S fine stored) ∣₁
runs_lead Fine Stores Begins May first last (r ∷ runs) S fine stored (image, left, kept, over, rest) =
    let (begins, found) = over S fine (kept S fine stored) in
    ∥∥₁_elim found squash₁ (λ it. ∥∥₁_map (runs_lead Fine Stores Begins May left last runs it.0 it.2 it.3 rest)
    (λ end. (end.0, (begins, (it.0, it.1, end.1)), end.2, end.3)))

opens_after : (office_run : OfficeRun) (left : RbacState) → Leaves office_run.start office_run.events left → (next : OfficeRun) → BeginsOver left next → OpensAfter office_run next.start
opens_after office_run left leaves next (inl same) = inl (subst (Leaves office_run.start office_run.events) (sym same) leaves)
opens_after office_run left leaves next (inr (first, taken)) = inr (left, leaves, first, taken)

-- runs that lead to a state follow on one another, and the last may leave the state
successive : (opens : RbacState → Type 0) (S : RbacState) → ((office_run : OfficeRun) → BeginsOver S office_run → opens office_run.start)
    → (before : List OfficeRun) (last : OfficeRun) (T : RbacState) → LeadTo BeginsOver MayLeave S (before ++ last ∷ []) T
    → AreSuccessiveRuns opens (before ++ last ∷ []) × Leaves last.start last.events T
successive opens S may [] last T (begins, (left, leaves, same)) =
    ((may last begins, (left, leaves), tt), subst (Leaves last.start last.events) (sym same) leaves)
successive opens S may (office_run ∷ before) last T (begins, (left, leaves, rest)) =
    let found = successive (OpensAfter office_run) left (opens_after office_run left leaves) before last T rest in
    ((may office_run begins, (left, leaves), found.0), found.1)

good_start : MigratedIsGood → (S : RbacState) → IsGood S → (office_run : OfficeRun) → BeginsOver S office_run → IsGood office_run.start
good_start migrated S good office_run (inl same) = subst IsGood (sym same) good
good_start migrated S good office_run (inr (first, taken)) = subst IsGood (sym taken) (migrated S good first)

pub file_lives : MigratedIsGood → LastIsSound → FileLives
file_lives migrated sound first end S before last fine stored runs =
    ∥∥₁_map (runs_lead IsSound StoresState BeginsOver MayLeave first end (before ++ last ∷ []) S fine stored runs) (λ found.
    let (T, lead, is_fine, holds) = found in
    let (are_runs, left) = successive IsGood S (good_start migrated S fine.0) before last T lead in
    let reached : IsReached before last T = record { are_runs = are_runs; is_found = inr (inl left) } in
    (T, holds, is_fine, reached, (sound before last T reached).1))

pub deassigned_in_file : FileLives → DeassignedStays → DeassignedStaysInFile
deassigned_in_file lives stays first end S before last fine stored runs user role in_force =
    ∥∥₁_map (lives first end S before last fine stored runs) (λ found. (found.0, found.1, stays before last found.0 found.3 user role in_force))

pub revoked_in_file : FileLives → RevokedStays → RevokedStaysInFile
revoked_in_file lives stays first end S before last fine stored runs object operation role in_force =
    ∥∥₁_map (lives first end S before last fine stored runs) (λ found. (found.0, found.1, stays before last found.0 found.3 object operation role in_force))

-- ---- the runs of the program are such runs

module _ {D : Type 0} (g : Ghosts D) (so_far_left : SoFarIsLeft) (last_is_sound : LastIsSound) where
  -- work over files that were closed then, which adds these events to whatever run it is in
  file_run : (Work : OfficeModel (FileStore D g) → OfficeModel (FileStore D g) → Type 0) (chosen : Choice) (image next : Image) (files : Files D) (conn : Held (FileStore D g)) → makes chosen ≡ false
      → (on_files : WorksOnFiles g image (λ before. WorksOnConnection (state over_files) chosen before Work conn)) → ClosesOver g files conn → MayBeOpened g files next → (events : List Event)
      → ((start : RbacState) (earlier : List Event) → IsInRun (state over_files) start earlier on_files.work.first → IsInRun (state over_files) start (earlier ++ events) on_files.work.last)
      → IsFileRun image (run_of on_files.work.first.facts events) next
  file_run Work chosen image next files conn makes on_files closes opened events goes_on S sound stored =
      let works = on_files.work in
      let run = begins_with (state over_files) chosen (file_state on_files.opened) works.first S makes sound.0 sound.1 (on_files.durable S stored) works.begins in
      let later = goes_on S [] run in
      let alone = run_stored conn files closes works.is_outside S events works.last works.is_last later in
      let leaves = subst (Leaves S events) (sym later.state) (so_far_left S events later.possible) in
      let reached : IsReached [] (run_of S events) works.last.facts = record { are_runs = (sound.0, later.possible, tt); is_found = inr (inl leaves) } in (
        inl run.state,
        ∣ (
          works.last.facts,
          subst (λ start. Leaves start events works.last.facts) (sym run.state) leaves,
          ((last_is_sound [] (run_of S events) works.last.facts reached).0, later.names works.last.facts leaves),
          runs_compose g files works.last.facts next alone opened,
        ) ∣₁,
      )

  pub work_is_file_run : (Work : Choice → Environment → Environment → OfficeModel (FileStore D g) → OfficeModel (FileStore D g) → Type 0) → WorkIsFileRun g Work
  work_is_file_run Work chosen image next files from to makes (conn, on_files, closes) opened =
      let works = on_files.work in
      let (events, _, goes_on) = works.continues.runs in
      (works.first, works.last, works.work, (events, file_run (Work chosen from to) chosen image next files conn makes on_files closes opened events goes_on))

  pub replay_is_file_run : ReplayIsFileRun g
  replay_is_file_run place image next files from to (conn, on_files, closes) opened =
      let works = on_files.work in
      let (input, consumed, at_end, (answered, is_answered), reaches) = works.work in
      let (events, added, goes_on) = reaches.keeps.runs in (
        run_of works.first.facts events,
        file_run _ _ image next files conn refl on_files closes opened events goes_on,
        (input, answered, consumed, is_answered, added),
      )
