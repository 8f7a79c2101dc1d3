-- The work of a subcommand over the office of an open connection: what it reads and writes, and the office after it.
use Rattle.std.specs.Prelude.{⊤, ◌≡◌, ◌≢◌, ◌⊎◌, ◌≤◌, ◌++◌, ℕ, Bool, true, false, List, [], ◌∷◌, length, Ok, Err, IsTrue, codes, string_bytes}
use Rattle.std.specs.Fmt.{decimal}
use Rattle.std.specs.Io.KnownBytes.{Appends, Consumes, IsAtEnd}
use Rattle.sqlite.specs.Held.{Held}
use Rattle.sqlite.specs.State.{State}
use Rattle.rbac_sets.specs.CommandContent.{Import}
use Rattle.rbac_sets.specs.Sets.{Pair}
use Rattle.rbac_sets.specs.Stream.{HasRisen}
use Rattle.rbac_sets.specs.declared.refusal.Refusal.{Refusal}
use Rattle.rbac_sets.specs.declared.refusal.Refusal.TheVariants.{Memory, Store}
use Rattle.admin_mgr.specs.RbacState.{RbacState, empty_state}
use Rattle.admin_mgr.specs.Good.{IsGood}
use Rattle.admin_mgr.specs.OfficeRun.{migrated_to_version_2}
use Rattle.admin_mgr.specs.StateNames.{AreNamed}
use Rattle.review_mgr.specs.Report.{report}
use Rattle.role_csv.specs.Assignments.{assignments}
use Rattle.role_csv.specs.Export.{exported}
use Rattle.role_json.specs.RequestContent.{Change}
use Rattle.role_tables.specs.Creation.{MayCreate}
use Rattle.role_tables.specs.TableContents.{contents_of}
use Rattle.role_tables.specs.Migration.{IsMigratedFrom, LeavesEitherVersion, RefusesMigration, StaysRefused}
use Rattle.role_tables.specs.Office.{OfficeModel}
use Rattle.role_tables.specs.OpeningChecks.{IsMemoryOrStore, ReadsState, RefusesContents, is_opening_refusal}
use Rattle.role_tables.specs.Runs.{IsInRun}
use Rattle.role_tables.specs.Durability.{HoldsAsBefore, LeavesBeforeOr, LeavesOnly, StaysOutside, WhateverIsDurable}
use Rattle.role_wire.specs.Continuation.{Continues, ReachesState}
use Rattle.role_wire.specs.Events.{AddsLines}
use Rattle.role_wire.specs.Lines.{line_feed}
use Rattle.role_wire.specs.Outcome.{after_lines, asking_lines}
use Rattle.role_wire.specs.OfficeRequest.{RefusesRequest, DoesRequest}
use Rattle.role_wire.specs.OfficeReplay.{IsAnswered, IsHalted}
use Rattle.role_wire.specs.declared.lines.Cause.TheVariants.{Read, Write}
use Rattle.role_cli.specs.Environment.{Environment, IsReadOf, ReadFailed, WriteFailed}
use Rattle.role_cli.specs.ServedConnections.{AllServed, CallFails, Clients, EndsBy, Known, Listens, ServesConnections}
use Rattle.role_cli.specs.declared.choice.Choice.{Choice}
use Rattle.role_cli.specs.declared.choice.Choice.TheVariants as choice
use Rattle.role_cli.specs.declared.failure.Failure.{Failure}
use Rattle.role_cli.specs.declared.failure.Failure.TheVariants.{Refused, Stopped, NotListening}

-- the subcommand reads the standard input: only a replay does
abbrev pub reads_input : Choice → Bool
reads_input (choice.Replay _) = true
reads_input _ = false

-- the subcommand reads a CSV file or serves clients
abbrev pub asks_host : Choice → Bool
asks_host (choice.Serve _ _ _) = true
asks_host (choice.Import _ _) = true
asks_host _ = false

-- the subcommand creates an office: only `init` does
abbrev pub creates : Choice → Bool
creates (choice.Init _) = true
creates _ = false

-- it creates an office, or makes one of version 2
abbrev pub makes : Choice → Bool
makes (choice.Init _) = true
makes (choice.Migrate _) = true
makes _ = false

-- the line by which a server reports where it listens
abbrev pub listening_line : ℕ → List ℕ
listening_line port = codes "listening on 127.0.0.1:" ++ (decimal port ++ codes "\n")

-- a part of the text was written, and not the whole
abbrev pub WritesPart : List ℕ → Known → Known → Type 0
WritesPart text written now_written = (part rest : List ℕ) × (text ≡ part ++ rest) × (1 ≤ length rest) × Appends written now_written part

-- ---- why it failed

-- a replay stopped by a write only if a write failed, and by a read only if a read failed
abbrev pub IsCaused : Failure → (write_failed read_failed : Type 0) → Type 0
IsCaused (Stopped stop) write_failed read_failed = (stop.cause ≡ Write → write_failed) × (stop.cause ≡ Read → read_failed)
IsCaused _ write_failed read_failed = ⊤

-- a text was not written whole, because an allocation or the output failed
abbrev pub IsUnwritten : Failure → (write_failed : Type 0) → Type 0
IsUnwritten failure write_failed = (failure ≡ Refused Memory) ⊎ ((failure ≡ Refused Store) × write_failed)

-- no office was created, migrated or opened. Nothing but 41 Store is reported if none was created
abbrev pub IsOpeningFailure : Choice → Failure → Type 0
IsOpeningFailure (choice.Init _) failure = failure ≡ Refused Store
IsOpeningFailure _ failure = (refusal : Refusal) × (failure ≡ Refused refusal) × IsTrue (is_opening_refusal refusal)

-- why a file to be imported was not read: an allocation failed, or the file could not be opened or read
abbrev pub IsUnread : (csv_failed : Type 0) → Failure → Type 0
IsUnread csv_failed failure = (failure ≡ Refused Memory) ⊎ ((failure ≡ Stopped (record { cause = Read; answered = 0 })) × csv_failed)

-- this refuses the text, or an allocation failed
abbrev pub RefusesText : List ℕ → Refusal → Type 0
RefusesText text refusal = (refusal ≡ Memory) ⊎ (assignments text ≡ Err refusal)

-- the state of the office when the work begins: a new one is empty, and one that was migrated is of version 2
abbrev pub StartsWell : Choice → RbacState → Type 0
StartsWell (choice.Init _) S = S ≡ empty_state 2
StartsWell (choice.Migrate _) S = S.version ≡ 2
StartsWell _ S = ⊤

-- No office was created, migrated or opened: why, what the connection holds now, and what a crash would leave.
abbrev pub IsUnopened : Choice → State → Refusal → State → Type 0
IsUnopened (choice.Init _) before refusal after =
    (refusal ≡ Store) × HoldsAsBefore before after × LeavesBeforeOr before after (empty_state 2) × StaysOutside before after
IsUnopened (choice.Migrate _) before refusal after =
    RefusesMigration (contents_of before.now) refusal × (refusal ≢ Store → HoldsAsBefore before after) × StaysRefused before after refusal
    × LeavesEitherVersion before after × StaysOutside before after
IsUnopened _ before refusal after =
    ((refusal ≡ Store) ⊎ RefusesContents (contents_of before.now) refusal) × HoldsAsBefore before after
    × WhateverIsDurable before (λ S. IsMemoryOrStore refusal × LeavesOnly after S) × StaysOutside before after

module _ {C : Type 0} (shown : Held C → State) where
  -- ---- a replay

  -- the lines of an input, read to its end, were answered, and the office has the state after their commands
  abbrev pub AnswersInput : OfficeModel C → (remaining now_remaining written now_written : Known) → OfficeModel C → Type 0
  AnswersInput old remaining now_remaining written now_written new =
      (input : List ℕ) × Consumes remaining now_remaining input × IsAtEnd now_remaining
      × ((answered : ℕ) × IsAnswered old.facts input written now_written answered)
      × ReachesState shown old (AddsLines old.facts (asking_lines input)) (after_lines old.facts (asking_lines input)) new

  -- ---- an import

  -- the pairs of the text of a file were imported, and the answer was written as a line
  abbrev pub Imports : (file : Known) → OfficeModel C → Known → Known → OfficeModel C → Type 0
  Imports file old written now_written new = (text : List ℕ) × (pairs : List Pair) × (line : List ℕ) × IsReadOf file text
      × (assignments text ≡ Ok pairs) × DoesRequest shown old (Change (Import pairs)) line new × Appends written now_written (line ++ line_feed ∷ [])

  -- the file was not read or its text was refused, which changes nothing; or the office refused to import its pairs; or it
  -- imported them, and the answer line was not written whole, because an allocation or the output failed
  abbrev pub FailsToImport : (file : Known) → OfficeModel C → Failure → (write_failed csv_failed : Type 0) → Known → Known → OfficeModel C → Type 0
  FailsToImport file old failure write_failed csv_failed written now_written new =
      ((IsUnread csv_failed failure
      ⊎ ((text : List ℕ) × (refusal : Refusal) × IsReadOf file text × (failure ≡ Refused refusal) × RefusesText text refusal))
      × (new ≡ old) × (now_written ≡ written))
      ⊎ ((text : List ℕ) × (pairs : List Pair) × (refusal : Refusal)
      × IsReadOf file text × (assignments text ≡ Ok pairs) × (failure ≡ Refused refusal)
      × ((RefusesRequest shown old (Change (Import pairs)) refusal new × (now_written ≡ written))
      ⊎ ((refusal ≡ Memory) × (now_written ≡ written) × ((line : List ℕ) × DoesRequest shown old (Change (Import pairs)) line new))
      ⊎ ((refusal ≡ Store) × write_failed
      × ((line : List ℕ) × DoesRequest shown old (Change (Import pairs)) line new × WritesPart (line ++ line_feed ∷ []) written now_written))))

  -- ---- a server

  -- The server could not listen, which changes nothing. Or it listens, and the line that says so could not be allocated or written
  -- whole, which changes nothing else; or the line was written, and this failure ended it before all connections were served.
  abbrev pub FailsToServe : (port limit : ℕ) → Clients → Clients → OfficeModel C → Failure
      → (write_failed : Type 0) → Known → Known → OfficeModel C → Type 0
  FailsToServe port limit clients now_clients old failure write_failed written now_written new =
      ((failure ≡ NotListening) × CallFails clients now_clients × (new ≡ old) × (now_written ≡ written))
      ⊎ ((ready : Clients) × Listens port clients ready
      × (((failure ≡ Refused Memory) × (now_clients ≡ ready) × (new ≡ old) × (now_written ≡ written))
      ⊎ (((failure ≡ Refused Store) × write_failed × (now_clients ≡ ready) × (new ≡ old) × WritesPart (listening_line port) written now_written)
      ⊎ (Appends written now_written (listening_line port) × ServesConnections shown (EndsBy limit failure) ready now_clients old new))))

  -- It listens on its port, wrote the line that says so, and served all connections.
  abbrev pub ServesAll : (port limit : ℕ) → Clients → Clients → OfficeModel C → Known → Known → OfficeModel C → Type 0
  ServesAll port limit clients now_clients old written now_written new =
      (ready : Clients) × Listens port clients ready × Appends written now_written (listening_line port)
      × ServesConnections shown (AllServed limit) ready now_clients old new

  -- ---- any subcommand

  -- The work was done over an open office, from what it reads and writes at first to what that is at last, and led to this office.
  abbrev pub DoesSubcommand : Choice → OfficeModel C → Environment → Environment → OfficeModel C → Type 0
  DoesSubcommand (choice.Init _) old from to new = (to.written ≡ from.written) × (new ≡ old)
  DoesSubcommand (choice.Migrate _) old from to new = (to.written ≡ from.written) × (new ≡ old)
  DoesSubcommand (choice.Replay _) old from to new = AnswersInput old from.remaining to.remaining from.written to.written new
  DoesSubcommand (choice.Serve _ port limit) old from to new = ServesAll port limit from.clients to.clients old from.written to.written new
  DoesSubcommand (choice.Import _ path) old from to new = Imports (from.csv_at (string_bytes path)) old from.written to.written new
  DoesSubcommand (choice.Export _) old from to new = Appends from.written to.written (exported old.facts) × (new ≡ old)
  DoesSubcommand (choice.Report _) old from to new = Appends from.written to.written (report old.facts) × (new ≡ old)
  DoesSubcommand (choice.Check _) old from to new = Appends from.written to.written (codes "good\n") × (new ≡ old)

  -- The work failed over an open office, and led to this one.
  abbrev pub FailsSubcommand : Choice → Failure → OfficeModel C → Environment → Environment → OfficeModel C → Type 0
  FailsSubcommand (choice.Init _) failure old from to new = ⊥
  FailsSubcommand (choice.Migrate _) failure old from to new = ⊥
  FailsSubcommand (choice.Replay _) (Stopped stop) old from to new =
      (taken : List ℕ) × Consumes from.remaining to.remaining taken
      × IsHalted shown old new taken (IsAtEnd to.remaining) from.written to.written stop.cause stop.answered
      × IsCaused (Stopped stop) (WriteFailed from to) (ReadFailed from to)
  FailsSubcommand (choice.Replay _) failure old from to new = ⊥
  FailsSubcommand (choice.Serve _ port limit) failure old from to new =
      FailsToServe port limit from.clients to.clients old failure (WriteFailed from to) from.written to.written new
  FailsSubcommand (choice.Import _ path) failure old from to new =
      FailsToImport (from.csv_at (string_bytes path)) old failure (WriteFailed from to) (HasRisen from.failed_csv to.failed_csv) from.written to.written new
  FailsSubcommand (choice.Export _) failure old from to new =
      IsUnwritten failure (WriteFailed from to) × WritesPart (exported old.facts) from.written to.written × (new ≡ old)
  FailsSubcommand (choice.Report _) failure old from to new =
      IsUnwritten failure (WriteFailed from to) × WritesPart (report old.facts) from.written to.written × (new ≡ old)
  FailsSubcommand (choice.Check _) failure old from to new =
      (failure ≡ Refused Store) × WriteFailed from to × WritesPart (codes "good\n") from.written to.written × (new ≡ old)

  -- ---- over a connection

  -- The office begins a run over what the connection held: a new office if one could be created, or the one whose state was read
  -- from the rows that were stored there, migrated if that was asked for. What was read is the state that was durable, if one was.
  abbrev pub BeginsRun : Choice → State → OfficeModel C → Type 0
  BeginsRun (choice.Init _) before office = MayCreate 2 before × IsInRun shown (empty_state 2) [] office
  BeginsRun (choice.Migrate _) before office = IsMigratedFrom before.now office.facts
      × WhateverIsDurable before (λ S. (S.version ≡ 1) × IsInRun shown (migrated_to_version_2 S) [] office)
  BeginsRun _ before office = ReadsState before (shown office.conn) office.facts × WhateverIsDurable before (λ S. IsInRun shown S [] office)

  -- if an opening is refused because of what a connection holds, no office begins a run over it, unless it is a new one
  abbrev pub NoneBeginsOverRefused : Type 0
  NoneBeginsOverRefused = (chosen : Choice) (old : Held C) (office : OfficeModel C) (refusal : Refusal) → creates chosen ≡ false → refusal ≢ Memory
      → RefusesContents (contents_of (shown old).now) refusal → BeginsRun chosen (shown old) office → ⊥

  -- Work that led from the first office to the last: the first began a run over what the connection held, the last continues it,
  -- and its connection was handed back, outside a transaction.
  pub record WorksOnConnection (chosen : Choice) (before : State) (Work : OfficeModel C → OfficeModel C → Type 0) (back : Held C) : Type 0 where
    pub first : OfficeModel C
    pub last : OfficeModel C
    pub is_open : first.is_closed ≡ false
    pub begins : BeginsRun chosen before first
    pub work : Work first last
    pub continues : Continues shown first last
    pub is_last : back ≡ last.conn
    pub is_outside : back.in_transaction ≡ false

  -- the work was done over the office of the connection
  abbrev pub DoesOnConnection : Choice → State → Environment → Environment → Held C → Type 0
  DoesOnConnection chosen before from to after = WorksOnConnection chosen before (λ first last. DoesSubcommand chosen first from to last) after

  -- the work failed, or there was no office to work on
  abbrev pub FailsOnConnection : Choice → State → Failure → (untouched : Type 0) → Environment → Environment → Held C → Type 0
  FailsOnConnection chosen before failure untouched from to after =
      WorksOnConnection chosen before (λ first last. FailsSubcommand chosen failure first from to last) after
      ⊎ ((refusal : Refusal) × (failure ≡ Refused refusal) × untouched × IsUnopened chosen before refusal (shown after))

  -- the work was over an office of some good state
  abbrev pub OverSomeState : Choice → (OfficeModel C → OfficeModel C → Type 0) → Type 0
  OverSomeState chosen Work = (first last : OfficeModel C) × (first.is_closed ≡ false)
      × IsGood first.facts × AreNamed first.facts × StartsWell chosen first.facts × Work first last

  -- it was done, whatever the disk returned
  abbrev pub DoesOverSomeState : Choice → Environment → Environment → Type 0
  DoesOverSomeState chosen from to = OverSomeState chosen (λ first last. DoesSubcommand chosen first from to last)

  -- it failed so, whatever the disk returned, or there was no office to work on, and nothing was read or written
  abbrev pub FailsOrFindsNoOffice : Choice → Failure → (untouched : Type 0) → Environment → Environment → Type 0
  FailsOrFindsNoOffice chosen failure untouched from to =
      OverSomeState chosen (λ first last. FailsSubcommand chosen failure first from to last) ⊎ (IsOpeningFailure chosen failure × untouched)
