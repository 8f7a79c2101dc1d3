-- How the work of a subcommand begins.
use Rattle.std.proofs.Common.{Global, List, ℕ, String, ◌≡◌, ◌⊎◌, [], refl, inl, inr, subst, sym}
use Rattle.std.specs.Prelude.{Bool, true, false, IsTrue}
use Rattle.std.proofs.lemmas.Bool.{true≢false}
use Rattle.sqlite.specs.Held.{Held, state}
use Rattle.sqlite.specs.Files.{file_state, over_files}
use Rattle.sqlite.specs.Recovery.{Image}
use Rattle.sqlite.specs.State.{State}
use Rattle.sqlite_disk.specs.declared.Disk.{Ghosts}
use Rattle.sqlite_store.specs.declared.store.FileStore.{FileStore}
use Rattle.admin_mgr.specs.RbacState.{RbacState}
use Rattle.rbac_sets.specs.declared.refusal.Refusal.{Refusal}
use Rattle.rbac_sets.specs.declared.refusal.Refusal.TheVariants.{Memory, Store}
use Rattle.role_tables.specs.TableContents.{contents_of}
use Rattle.role_tables.specs.Office.{OfficeModel}
use Rattle.role_tables.specs.OpeningChecks.{IsMemoryOrStore, is_opening_refusal, ReadsState, RefusedHaveNoState, RefusesContents}
use Rattle.role_tables.specs.Runs.{IsInRun}
use Rattle.role_tables.specs.Durability.{HoldsAsBefore, LeavesOnly, StaysOutside, WhateverIsDurable}
use Rattle.role_cli.specs.Environment.{Environment, ReadFailed, WriteFailed}
use Rattle.role_cli.specs.FileWork.{DoesOnStore, FailsOnStore, WorksOnFiles}
use Rattle.role_cli.specs.ProgramOutcome.{FailsBy, FailsIn, FailsInMemory, IsDone, IsDoneIn, ReplaysInMemory, is_memory_replay}
use Rattle.role_cli.specs.ServedConnections.{Known}
use Rattle.role_cli.specs.Work.{BeginsRun, DoesOverSomeState, FailsOnConnection, FailsOrFindsNoOffice, IsCaused, IsOpeningFailure, IsUnopened, NoneBeginsOverRefused, StartsWell}
use Rattle.role_cli.specs.declared.choice.Choice.{Choice}
use Rattle.role_cli.specs.declared.choice.Choice.TheVariants as choice
use Rattle.role_cli.specs.declared.failure.Failure.{Failure}
use Rattle.role_cli.specs.declared.failure.Failure.TheVariants.{Refused, Stopped}
use Rattle.role_cli.specs.declared.memory_file.MemoryFile.{MemoryFile}
use Rattle.role_cli.specs.declared.store_after.StoreAfter.{StoreAfter}
use Rattle.role_cli.specs.declared.store_after.StoreAfter.TheVariants as after

-- a choice that neither creates nor migrates an office opens one
module _ (chosen : Choice) (never_makes : (x : String Global) → chosen ≡ choice.Init x → ⊥) (never_migrates : (x : String Global) → chosen ≡ choice.Migrate x → ⊥) where
  pub starts_open : (S : RbacState) → StartsWell chosen S
  starts_open S = go chosen never_makes never_migrates
    where
      go : (c : Choice) → ((x : String Global) → c ≡ choice.Init x → ⊥) → ((x : String Global) → c ≡ choice.Migrate x → ⊥) → StartsWell c S
      go (choice.Init x) makes migrates = absurd (makes x refl)
      go (choice.Migrate x) makes migrates = absurd (migrates x refl)
      go _ makes migrates = tt

  pub begins_open : {C : Type 0} (shown : Held C → State) (before : State) (office : OfficeModel C) → ReadsState before (shown office.conn) office.facts → WhateverIsDurable before (λ S. IsInRun shown S [] office) → BeginsRun shown chosen before office
  begins_open shown before office reads runs = go chosen never_makes never_migrates
    where
      go : (c : Choice) → ((x : String Global) → c ≡ choice.Init x → ⊥) → ((x : String Global) → c ≡ choice.Migrate x → ⊥) → BeginsRun shown c before office
      go (choice.Init x) makes migrates = absurd (makes x refl)
      go (choice.Migrate x) makes migrates = absurd (migrates x refl)
      go _ makes migrates = (reads, runs)

  pub unopened_open : (before : State) (refusal : Refusal) (after : State)
      → (refusal ≡ Store) ⊎ RefusesContents (contents_of before.now) refusal → HoldsAsBefore before after → WhateverIsDurable before (λ S. IsMemoryOrStore refusal × LeavesOnly after S) → StaysOutside before after
      → IsUnopened chosen before refusal after
  unopened_open before refusal after why holds leaves outside = go chosen never_makes never_migrates
    where
      go : (c : Choice) → ((x : String Global) → c ≡ choice.Init x → ⊥) → ((x : String Global) → c ≡ choice.Migrate x → ⊥) → IsUnopened c before refusal after
      go (choice.Init x) makes migrates = absurd (makes x refl)
      go (choice.Migrate x) makes migrates = absurd (migrates x refl)
      go _ makes migrates = (why, holds, leaves, outside)

-- any refusal of an opening is, unless an office was to be created
pub refusal_fails : (chosen : Choice) (refusal : Refusal) → ((x : String Global) → chosen ≡ choice.Init x → ⊥) → IsTrue (is_opening_refusal refusal) → IsOpeningFailure chosen (Refused refusal)
refusal_fails (choice.Init x) refusal never is = absurd (never x refl)
refusal_fails _ refusal never is = (refusal, refl, is)

-- 41 Store is
pub store_fails : (chosen : Choice) (failure : Failure) → failure ≡ Refused Store → IsOpeningFailure chosen failure
store_fails (choice.Init x) failure is = is
store_fails _ failure is = (Store, is, refl)

-- nothing begins over rows that an opening refuses
pub none_begins : {C : Type 0} → RefusedHaveNoState → (shown : Held C → State) → NoneBeginsOverRefused shown
none_begins none shown (choice.Init x) old office refusal opens other refuses begins = absurd (true≢false opens)
none_begins none shown (choice.Migrate x) old office refusal opens other refuses begins = none (contents_of (shown old).now) refusal begins.0.1 refuses other begins.0.2
none_begins none shown _ old office refusal opens other refuses begins = none (contents_of (shown old).now) refusal office.facts refuses other begins.0.0

-- what was done over an office in a file was done
pub of_file : (in_memory : Ghosts MemoryFile) {F : Type 0} (g : Ghosts F) (image : Image) (chosen : Choice) (from to : Environment) (became : StoreAfter F g) → is_memory_replay chosen ≡ false
    → DoesOverSomeState (state (over_files {g = g})) chosen from to → DoesOnStore g image chosen from to became → IsDone in_memory g image chosen from to became
of_file in_memory g image chosen from to became is_not over done = subst (λ b. IsDoneIn in_memory g b image chosen from to became) (sym is_not) (over, done)

-- and what was done in memory
pub of_memory : (in_memory : Ghosts MemoryFile) {F : Type 0} (g : Ghosts F) (image : Image) (chosen : Choice) (from to : Environment) (became : StoreAfter F g) → is_memory_replay chosen ≡ true
    → became ≡ after.Untouched → ReplaysInMemory in_memory from.remaining to.remaining from.written to.written → IsDone in_memory g image chosen from to became
of_memory in_memory g image chosen from to became is none done = subst (λ b. IsDoneIn in_memory g b image chosen from to became) (sym is) (done, none)

-- what failed over an office in a file, failed
pub fails_in_file : (in_memory : Ghosts MemoryFile) {F : Type 0} (g : Ghosts F) (image : Image) (chosen : Choice) (failure : Failure) (untouched : Type 0) (cannot : List ℕ → Type 0) (from to : Environment) (became : StoreAfter F g)
    (path at : List ℕ) → is_memory_replay chosen ≡ false → path ≡ at → FailsOrFindsNoOffice (state (over_files {g = g})) chosen failure untouched from to
    → FailsOnStore g image chosen failure untouched (cannot path) from to became → FailsBy in_memory g image chosen failure untouched (cannot at) from to became
fails_in_file in_memory g image chosen failure untouched cannot from to became path at is_not same over fails =
    subst (λ b. FailsIn in_memory g b image chosen failure untouched (cannot at) from to became) (sym is_not)
    (over, subst (λ p. FailsOnStore g image chosen failure untouched (cannot p) from to became) same fails)

less_in_memory : (in_memory : Ghosts MemoryFile) (failure : Failure) (kept untouched : Type 0) (from to : Environment) → (kept → untouched)
    → FailsInMemory in_memory failure kept from.remaining to.remaining from.written to.written → FailsInMemory in_memory failure untouched from.remaining to.remaining from.written to.written
less_in_memory in_memory (Stopped stop) kept untouched from to keeps over = over
less_in_memory in_memory (Refused why) kept untouched from to keeps (unmade, same) = (unmade, keeps same)
less_in_memory in_memory _ kept untouched from to keeps none = none

-- no office could be created, and nothing was touched
pub unmade_fails : (in_memory : Ghosts MemoryFile) (failure : Failure) (untouched : Type 0) (remaining now_remaining written now_written : Known)
    → (failure ≡ Refused Memory) ⊎ (failure ≡ Refused Store) → untouched → FailsInMemory in_memory failure untouched remaining now_remaining written now_written
unmade_fails in_memory failure untouched remaining now_remaining written now_written (inl is) same =
    subst (λ why. FailsInMemory in_memory why untouched remaining now_remaining written now_written) (sym is) (inl refl, same)
unmade_fails in_memory failure untouched remaining now_remaining written now_written (inr is) same =
    subst (λ why. FailsInMemory in_memory why untouched remaining now_remaining written now_written) (sym is) (inr refl, same)

-- a replay in memory that touched nothing before it failed
pub fails_in_memory : (in_memory : Ghosts MemoryFile) {F : Type 0} (g : Ghosts F) (image : Image) (chosen : Choice) (failure : Failure) (kept untouched cannot : Type 0) (from to : Environment) (became : StoreAfter F g)
    → is_memory_replay chosen ≡ true → became ≡ after.Untouched → (kept → untouched) → FailsInMemory in_memory failure kept from.remaining to.remaining from.written to.written
    → IsCaused failure (WriteFailed from to) (ReadFailed from to) → FailsBy in_memory g image chosen failure untouched cannot from to became
fails_in_memory in_memory g image chosen failure kept untouched cannot from to became is none keeps fails caused =
    subst (λ b. FailsIn in_memory g b image chosen failure untouched cannot from to became) (sym is) (less_in_memory in_memory failure kept untouched from to keeps fails, caused, none)

-- ---- who touched nothing touched less

less_somewhere : {C : Type 0} (shown : Held C → State) (chosen : Choice) (failure : Failure) (kept untouched : Type 0) (from to : Environment) → (kept → untouched)
    → FailsOrFindsNoOffice shown chosen failure kept from to → FailsOrFindsNoOffice shown chosen failure untouched from to
less_somewhere shown chosen failure kept untouched from to keeps (inl over) = inl over
less_somewhere shown chosen failure kept untouched from to keeps (inr (is, same)) = inr (is, keeps same)

less_on_connection : {C : Type 0} (shown : Held C → State) (chosen : Choice) (before : State) (failure : Failure) (kept untouched : Type 0) (from to : Environment) (conn : Held C) → (kept → untouched)
    → FailsOnConnection shown chosen before failure kept from to conn → FailsOnConnection shown chosen before failure untouched from to conn
less_on_connection shown chosen before failure kept untouched from to conn keeps (inl works) = inl works
less_on_connection shown chosen before failure kept untouched from to conn keeps (inr (refusal, is, same, unopened)) = inr (refusal, is, keeps same, unopened)

less_on_files : {F : Type 0} (g : Ghosts F) (image : Image) (chosen : Choice) (failure : Failure) (kept untouched : Type 0) (from to : Environment) (conn : Held (FileStore F g)) → (kept → untouched)
    → WorksOnFiles g image (λ before. FailsOnConnection (state over_files) chosen before failure kept from to conn)
    → WorksOnFiles g image (λ before. FailsOnConnection (state over_files) chosen before failure untouched from to conn)
less_on_files g image chosen failure kept untouched from to conn keeps works = record {
  opened = works.opened;
  is_open = works.is_open;
  found = works.found;
  durable = works.durable;
  work = less_on_connection (state over_files) chosen (file_state works.opened) failure kept untouched from to conn keeps works.work;
}

less_on_store : {F : Type 0} (g : Ghosts F) (image : Image) (chosen : Choice) (failure : Failure) (kept untouched cannot never : Type 0) (from to : Environment) (became : StoreAfter F g)
    → (kept → untouched) → (cannot → never) → FailsOnStore g image chosen failure kept cannot from to became → FailsOnStore g image chosen failure untouched never from to became
less_on_store g image chosen failure kept untouched cannot never from to after.Untouched keeps step (same, why) = (keeps same, step why)
less_on_store g image chosen failure kept untouched cannot never from to (after.Unopened opened) keeps step (same, why) = (keeps same, step why)
less_on_store g image chosen failure kept untouched cannot never from to (after.Closed files) keeps step fails = λ clean.
    (let (conn, works, closes) = fails clean in (conn, less_on_files g image chosen failure kept untouched from to conn keeps works, closes))
less_on_store g image chosen failure kept untouched cannot never from to (after.Left store) keeps step fails = λ clean.
    (let (conn, works, left) = fails clean in (conn, less_on_files g image chosen failure kept untouched from to conn keeps works, left))

less_in : (b : Bool) (in_memory : Ghosts MemoryFile) {F : Type 0} (g : Ghosts F) (image : Image) (chosen : Choice) (failure : Failure) (kept untouched cannot never : Type 0) (from to : Environment) (became : StoreAfter F g)
    → (kept → untouched) → (cannot → never) → FailsIn in_memory g b image chosen failure kept cannot from to became → FailsIn in_memory g b image chosen failure untouched never from to became
less_in true in_memory g image chosen failure kept untouched cannot never from to became keeps step (fails, caused, none) = (less_in_memory in_memory failure kept untouched from to keeps fails, caused, none)
less_in false in_memory g image chosen failure kept untouched cannot never from to became keeps step (over, fails) =
    (less_somewhere (state over_files) chosen failure kept untouched from to keeps over, less_on_store g image chosen failure kept untouched cannot never from to became keeps step fails)

pub fails_less : (in_memory : Ghosts MemoryFile) {F : Type 0} (g : Ghosts F) (image : Image) (chosen : Choice) (failure : Failure) (kept untouched cannot never : Type 0) (from to : Environment) (became : StoreAfter F g)
    → (kept → untouched) → (cannot → never) → FailsBy in_memory g image chosen failure kept cannot from to became → FailsBy in_memory g image chosen failure untouched never from to became
fails_less in_memory g image chosen = less_in (is_memory_replay chosen) in_memory g image chosen
