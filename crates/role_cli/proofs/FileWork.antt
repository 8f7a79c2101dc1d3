-- The state that files stored is stored in the connection that was opened on them, and the state of the last office in the files that
-- were closed.
use Rattle.std.proofs.Common.{List, ◌≡◌, ◌⊎◌, [], ◌∙◌, ap, arith, inl, inr, subst, sym}
use Rattle.std.specs.Prelude.{false, IsTrue}
use Rattle.std.proofs.Math.Logic.{∥∥₁_elim}
use Rattle.std.proofs.lemmas.Bool.{true≢false}
use Rattle.sqlite.specs.Closing.{HoldsAlone}
use Rattle.sqlite.specs.Effect.{Database}
use Rattle.sqlite.specs.Files.{IsClosed, IsOpened, file_state, over_files}
use Rattle.sqlite.specs.Held.{Held, state}
use Rattle.sqlite.specs.Recovery.{Image}
use Rattle.sqlite.specs.Start.{FindsIn}
use Rattle.sqlite.specs.State.{HasCleanDisk, State}
use Rattle.sqlite.specs.Tree.{Trees}
use Rattle.sqlite_disk.specs.declared.Disk.{Ghosts}
use Rattle.sqlite_disk.specs.declared.Files.{Files}
use Rattle.sqlite_store.specs.FileStore.{view}
use Rattle.sqlite_store.specs.declared.store.FileStore.{FileStore}
use Rattle.sqlite_trees.specs.Props.{Trees-set}
use Rattle.sqlite_trees.specs.View.{IsClean}
use Rattle.rbac_sets.specs.declared.refusal.Refusal.{Refusal}
use Rattle.admin_mgr.specs.Good.{IsGood}
use Rattle.admin_mgr.specs.OfficeRun.{Event, migrated_to_version_2}
use Rattle.admin_mgr.specs.RbacState.{RbacState, empty_state}
use Rattle.admin_mgr.specs.StateNames.{AreNamed}
use Rattle.role_tables.specs.Durability.{HoldsAsBefore, HoldsWhatWasLeft, IsDurable, LeavesState, StaysOutside}
use Rattle.role_tables.specs.Office.{OfficeModel}
use Rattle.role_tables.specs.Runs.{IsInRun}
use Rattle.role_tables.specs.StoredState.{HoldsState}
use Rattle.role_cli.specs.Environment.{Environment}
use Rattle.role_cli.specs.FileWork.{ClosesOver, FailsOnStore, HoldsCommit, MigrationIsStored, NewOfficeIsStored, RefusedOpeningIsStored, RunsCompose, StoresAlone, StoresState, WorkIsStored, WorksOnFiles, WorksOnStore}
use Rattle.role_cli.specs.Work.{BeginsRun, FailsOnConnection, IsUnopened, makes}
use Rattle.role_cli.specs.declared.choice.Choice.{Choice}
use Rattle.role_cli.specs.declared.choice.Choice.TheVariants as choice
use Rattle.role_cli.specs.declared.failure.Failure.{Failure}
use Rattle.role_cli.specs.declared.store_after.StoreAfter.{StoreAfter}
use Rattle.role_cli.specs.declared.store_after.StoreAfter.TheVariants as after
use Rattle.role_cli.specs.private.ClosedConnection.{ClosesConnection}

pub stands_in : {D : Type 0} {g : Ghosts D} (image : Image) (opened : Held (FileStore D g)) → IsOpened opened → FindsIn image (file_state opened) → HoldsWhatWasLeft (file_state opened)
    → (S : RbacState) → StoresState image S → IsDurable (file_state opened) S
stands_in image opened is_opened found finds S (trees, holds, left) =
    finds S trees left is_opened.0.is_open is_opened.0.autocommit (ap (λ (db : Database). db.trees) is_opened.0.clean ∙ ∥∥₁_elim holds (Trees-set _ _) (found.holds trees))

-- what a closed connection held outside a transaction is stored
holds_stored : {D : Type 0} {g : Ghosts D} (conn : Held (FileStore D g)) (files : Files D) → ClosesOver g files conn → conn.in_transaction ≡ false
    → (S : RbacState) → (HasCleanDisk (file_state conn) → IsTrue (file_state conn).is_open → HoldsState (file_state conn).now S) → StoresAlone g files S
holds_stored conn files closes outside S holds =
    let copied = closes.copied in
    let is = closes.settled outside copied.was_open in
    record {
      trees = (file_state conn).committed.trees;
      stores = ((file_state conn).now, ap (λ (db : Database). db.trees) (sym is), holds copied.was_clean copied.was_open);
      now = copied.seen;
      left = copied.left;
    }

-- so the state of an office in a run is, if it has handed the connection back
pub run_stored : {D : Type 0} {g : Ghosts D} (conn : Held (FileStore D g)) (files : Files D) → ClosesOver g files conn → conn.in_transaction ≡ false
    → (start : RbacState) (events : List Event) (office : OfficeModel (FileStore D g)) → conn ≡ office.conn → IsInRun (state over_files) start events office → StoresAlone g files office.facts
run_stored conn files closes outside start events office same run =
    holds_stored conn files closes outside office.facts (subst (λ c. HasCleanDisk (file_state c) → IsTrue (file_state c).is_open → HoldsState (file_state c).now office.facts) (sym same) run.held)

-- a store that reports no fault after the close had reported none before
clean_before : {D : Type 0} {g : Ghosts D} (conn : Held (FileStore D g)) (store : FileStore D g) → IsClosed conn store → IsClean (view store) → HasCleanDisk (file_state conn)
clean_before conn store closed clean = omega (arith, clean, closed.quiet.clean)

-- work over a connection on the files, which was closed
pub works_on : {D : Type 0} {g : Ghosts D} (image : Image) (Work : State → Held (FileStore D g) → Type 0) (conn : Held (FileStore D g)) (became : StoreAfter D g)
    → ClosesConnection g conn became → HoldsCommit (file_state conn) → (HasCleanDisk (file_state conn) → WorksOnFiles g image (λ before. Work before conn)) → WorksOnStore g image Work became
works_on image Work conn after.Untouched closes settled works = closes
works_on image Work conn (after.Unopened opened) closes settled works = closes
works_on image Work conn (after.Closed files) closes settled works = λ clean. (let copied = closes clean in (conn, works copied.was_clean, record { copied = copied; settled = settled }))
works_on image Work conn (after.Left store) left settled works = λ clean. (conn, works (clean_before conn store left.closed clean), left)

-- and so it failed
pub fails_on : {D : Type 0} {g : Ghosts D} (image : Image) (chosen : Choice) (failure : Failure) (untouched never_begins : Type 0) (from to : Environment) (conn : Held (FileStore D g)) (became : StoreAfter D g)
    → ClosesConnection g conn became → HoldsCommit (file_state conn)
    → (HasCleanDisk (file_state conn) → WorksOnFiles g image (λ before. FailsOnConnection (state over_files) chosen before failure untouched from to conn))
    → FailsOnStore g image chosen failure untouched never_begins from to became
fails_on image chosen failure untouched never_begins from to conn after.Untouched closes settled works = absurd closes
fails_on image chosen failure untouched never_begins from to conn (after.Unopened opened) closes settled works = absurd closes
fails_on image chosen failure untouched never_begins from to conn (after.Closed files) closes settled works =
    works_on image (λ before conn. FailsOnConnection (state over_files) chosen before failure untouched from to conn) conn (after.Closed files) closes settled works
fails_on image chosen failure untouched never_begins from to conn (after.Left store) closes settled works =
    works_on image (λ before conn. FailsOnConnection (state over_files) chosen before failure untouched from to conn) conn (after.Left store) closes settled works

-- what began a run over a state that was durable began with it
pub begins_with : {C : Type 0} (shown : Held C → State) (chosen : Choice) (before : State) (office : OfficeModel C) (S : RbacState) → makes chosen ≡ false → IsGood S → AreNamed S → IsDurable before S → BeginsRun shown chosen before office → IsInRun shown S [] office
begins_with shown (choice.Init path) before office S makes good named durable begins = absurd (true≢false makes)
begins_with shown (choice.Migrate path) before office S makes good named durable begins = absurd (true≢false makes)
begins_with shown _ before office S makes good named durable begins = begins.1 S good named durable

module _ {D : Type 0} (g : Ghosts D) where
  pub work_stored : (Work : Choice → Environment → Environment → OfficeModel (FileStore D g) → OfficeModel (FileStore D g) → Type 0) → WorkIsStored g Work
  work_stored Work chosen image files from to S makes good named stored (conn, on_files, closes) =
      let works = on_files.work in
      let run = begins_with (state over_files) chosen (file_state on_files.opened) works.first S makes good named (on_files.durable S stored) works.begins in
      let later = works.continues.runs.2 S [] run in
      (works.first, works.last, run.state, works.work, run_stored conn files closes works.is_outside S works.continues.runs.0 works.last works.is_last later)

  pub new_stored : NewOfficeIsStored g
  new_stored path image files from to (conn, on_files, closes) =
      let works = on_files.work in
      let same = works.work.1 in
      let run = subst (IsInRun (state over_files) (empty_state 2) []) (sym same) works.begins.1 in
      subst (StoresAlone g files) run.state (run_stored conn files closes works.is_outside (empty_state 2) [] works.last works.is_last run)

  pub migration_stored : MigrationIsStored g
  migration_stored path image files from to S good named stored (conn, on_files, closes) =
      let works = on_files.work in
      let (version, run) = works.begins.1 S good named (on_files.durable S stored) in
      let same = works.work.1 in
      let last = subst (IsInRun (state over_files) (migrated_to_version_2 S) []) (sym same) run in
      (version, subst (StoresAlone g files) last.state (run_stored conn files closes works.is_outside (migrated_to_version_2 S) [] works.last works.is_last last))

  -- a refused opening left the connection outside a transaction, and what it held
  unopened_holds : (chosen : Choice) (before : State) (refusal : Refusal) (after : State) (S : RbacState) → IsGood S → AreNamed S → IsDurable before S → IsUnopened chosen before refusal after
      → StaysOutside before after × HoldsAsBefore before after
  unopened_holds (choice.Init path) before refusal after S good named durable unopened = (unopened.3, unopened.1)
  unopened_holds (choice.Migrate path) before refusal after S good named durable unopened = (unopened.4, (unopened.2 S good named durable).0)
  unopened_holds _ before refusal after S good named durable unopened = (unopened.3, unopened.1)

  pub refused_stored : RefusedOpeningIsStored g
  refused_stored chosen image files refusal S good named stored (conn, on_files, closes) =
      let durable = on_files.durable S stored in
      let (outside, holds) = unopened_holds chosen (file_state on_files.opened) refusal (file_state conn) S good named durable on_files.work in
      holds_stored conn files closes (outside durable.autocommit) S (λ clean is_open. subst (λ db. HoldsState db S) (sym (holds is_open)) durable.held)

  -- an image whose database file alone holds the trees stores their state, with the log and without it
  stored_alone : (S : RbacState) (trees : Trees) (image next : Image) → LeavesState S trees → HoldsAlone image trees → (next ≡ image) ⊎ (next ≡ record image { log = [] }) → StoresState next S
  stored_alone S trees image next leaves holds (inl same) = subst (λ it. StoresState it S) (sym same) (trees, holds.both, leaves)
  stored_alone S trees image next leaves holds (inr same) = subst (λ it. StoresState it S) (sym same) (trees, holds.alone, leaves)

  pub runs_compose : RunsCompose g
  runs_compose files S next alone (image, inl now, log) =
      stored_alone S alone.trees image next alone.stores (subst (λ it. HoldsAlone it alone.trees) (sym now) alone.now) log
  runs_compose files S next alone (image, inr left, log) = stored_alone S alone.trees image next alone.stores (alone.left image left) log
