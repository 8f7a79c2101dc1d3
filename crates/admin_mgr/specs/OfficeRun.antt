-- Runs of an office: what it answers from one opening to the next, and what a crash at any moment leaves.
use Rattle.std.specs.Prelude.{◌≡◌, ◌⊎◌, Bool, true, false, ◌&&◌, List, [], ◌∷◌, ◌++◌, Some, None, Result, Ok, Err, All}
use Rattle.std.specs.List.{list_any, flat_map}
use Rattle.rbac_sets.specs.Sets.{Bytes, Pair, empty, same_name}
use Rattle.rbac_sets.specs.declared.command.Command.{Command}
use Rattle.rbac_sets.specs.declared.command.Command.TheVariants.{AssignUser, DeassignUser, ImportAssignments, GrantPermission, RevokePermission}
use Rattle.rbac_sets.specs.declared.refusal.Refusal.{Refusal}
use Rattle.rbac_sets.specs.declared.refusal.Refusal.TheVariants.{Memory, Store, Closed}
use Rattle.admin_mgr.specs.RbacState.{RbacState, empty_state}
use Rattle.admin_mgr.specs.Assignment.{Tally}
use Rattle.admin_mgr.specs.After.{after}
use Rattle.admin_mgr.specs.Verdict.{verdict}
use Rattle.admin_mgr.specs.Run.{tally}

-- a command and its answer: the command's tally if it was done, otherwise a refusal
pub record Event : Type 0 where
  pub command : Command
  pub reply : Result Tally Refusal

-- the command was answered by 42 Closed
abbrev pub IsClosedReply : Event → Type 0
IsClosedReply event = event.reply ≡ Err Closed

-- From the state S on, the events are possible in this order, and a crash at their end may leave T. A command is answered by its
-- verdict. Any command may be answered by 40 Memory, and then nothing changes. An accepted command may be answered by 41 Store:
-- it was done then, or nothing was, and the office is closed from then on.
abbrev pub Leaves : RbacState → List Event → RbacState → Type 0
Leaves S [] T = T ≡ S
Leaves S (event ∷ events) T = elim event.reply as (λ _. Type 0) [
  | Ok told ↦ (verdict S event.command ≡ None) × (told ≡ tally S event.command) × Leaves (after S event.command) events T
  | Err Memory ↦ Leaves S events T
  | Err Store ↦ (verdict S event.command ≡ None) × All IsClosedReply events × ((T ≡ S) ⊎ (T ≡ after S event.command))
  | Err Closed ↦ ⊥
  | Err refusal ↦ (verdict S event.command ≡ Some refusal) × Leaves S events T
]

-- a run of an office, from an opening to the next one or to a crash: the state it was opened with, and its events
pub record OfficeRun : Type 0 where
  pub start : RbacState
  pub events : List Event

-- the state migrated to version 2, with no user locked
abbrev pub migrated_to_version_2 : RbacState → RbacState
migrated_to_version_2 S = record S { version = 2; locked = empty }

-- the two states are equal, except that their versions may differ
abbrev pub IsSameButVersion : RbacState → RbacState → Type 0
IsSameButVersion S T = record S { version = T.version } ≡ T

-- an office may be opened with S after this run: a crash may leave S, or a state of version 1 that is S once it is migrated
abbrev pub OpensAfter : OfficeRun → RbacState → Type 0
OpensAfter office_run S = Leaves office_run.start office_run.events S
    ⊎ ((T : RbacState) × Leaves office_run.start office_run.events T × (T.version ≡ 1) × (S ≡ migrated_to_version_2 T))

-- each run begins with a state that the office may be opened with after the run before it, and its events are possible; `opens`
-- says with which states the first run may begin
abbrev pub AreSuccessiveRuns : (RbacState → Type 0) → List OfficeRun → Type 0
AreSuccessiveRuns opens [] = Unit {0}
AreSuccessiveRuns opens (office_run ∷ runs) = opens office_run.start × ((T : RbacState) × Leaves office_run.start office_run.events T) × AreSuccessiveRuns (OpensAfter office_run) runs

-- the runs of one office, in order: the first begins with the empty state of either version
abbrev pub AreRuns : List OfficeRun → Type 0
AreRuns runs = AreSuccessiveRuns (λ S. (S ≡ empty_state 1) ⊎ (S ≡ empty_state 2)) runs

-- the events of the runs, in order
abbrev pub events_of : List OfficeRun → List Event
events_of runs = flat_map (λ (office_run : OfficeRun). office_run.events) runs

-- ---- what was deassigned or revoked, and not assigned or granted again

-- the command may have taken effect: it was answered `Ok`, or by 41 Store
abbrev pub may_have_taken_effect : Event → Bool
may_have_taken_effect event = elim event.reply [ Ok told ↦ true | Err Store ↦ true | Err _ ↦ false ]

-- the command asks to assign the user to the role, by assignUser or in a record of an import
abbrev pub assigns : Bytes → Bytes → Command → Bool
assigns user role (AssignUser u r) = same_name u user && same_name r role
assigns user role (ImportAssignments pairs) = list_any (λ (pair : Pair). same_name pair.0 user && same_name pair.1 role) pairs.items
assigns user role _ = false

-- a deassignment of the pair was acknowledged, and no assignment of it that may have taken effect follows
abbrev pub IsDeassignedInForce : List Event → Bytes → Bytes → Type 0
IsDeassignedInForce events user role = (before : List Event) × (told : Tally) × (later : List Event) ×
    (events ≡ before ++ record { command = DeassignUser user role; reply = Ok told } ∷ later)
    × All (λ (event : Event). (may_have_taken_effect event && assigns user role event.command) ≡ false) later

-- the command asks to grant the permission to the role
abbrev pub grants_to : Bytes → Bytes → Bytes → Command → Bool
grants_to object operation role (GrantPermission ob op r) = same_name ob object && same_name op operation && same_name r role
grants_to object operation role _ = false

-- a revocation of the grant was acknowledged, and no grant of it that may have taken effect follows
abbrev pub IsRevokedInForce : List Event → Bytes → Bytes → Bytes → Type 0
IsRevokedInForce events object operation role = (before : List Event) × (told : Tally) × (later : List Event) ×
    (events ≡ before ++ record { command = RevokePermission object operation role; reply = Ok told } ∷ later)
    × All (λ (event : Event). (may_have_taken_effect event && grants_to object operation role event.command) ≡ false) later
