-- What holds over every list of runs of one office: which state each opening gives, and what stays removed.
use Rattle.std.specs.Prelude.{ℕ, ◌≡◌, ◌≢◌, ◌⊎◌, ◌↔◌, Bool, true, false, if◌then◌else◌, List, [], ◌∷◌, ◌++◌, map, filter, Contains, Some, None, Ok, Err, is_ok, IsTrue}
use Rattle.std.specs.List.{list_any}
use Rattle.rbac_sets.specs.Sets.{Bytes, contains}
use Rattle.rbac_sets.specs.declared.command.Command.{Command}
use Rattle.rbac_sets.specs.declared.refusal.Refusal.TheVariants.{Memory, Store, Closed}
use Rattle.role_order.specs.Order.{geq}
use Rattle.admin_mgr.specs.RbacState.{RbacState}
use Rattle.admin_mgr.specs.Authorization.{session_roles, has_access}
use Rattle.admin_mgr.specs.After.{after}
use Rattle.admin_mgr.specs.Verdict.{verdict}
use Rattle.admin_mgr.specs.Run.{run, tally}
use Rattle.admin_mgr.specs.Good.{IsGood}
use Rattle.admin_mgr.specs.OfficeRun.{Event, Leaves, OfficeRun, OpensAfter, AreRuns, AreSuccessiveRuns, IsSameButVersion, may_have_taken_effect, events_of, IsDeassignedInForce, IsRevokedInForce}

-- ---- the commands of the events

-- the commands of the events that pass the test, in their order
abbrev pub commands_where : (Event → Bool) → List Event → List Command
commands_where test events = map (λ (event : Event). event.command) (filter test events)

-- the commands that were acknowledged: answered Ok
abbrev pub acknowledged : List Event → List Command
acknowledged events = commands_where (λ (event : Event). is_ok event.reply) events

-- the commands that were accepted, and not answered Memory: those answered Ok, and the one, if any, that was answered Store
abbrev pub accepted : List Event → List Command
accepted events = commands_where may_have_taken_effect events

-- the state so far of an office that was opened with S: an acknowledged command changes it, and nothing else does
abbrev pub so_far : RbacState → List Event → RbacState
so_far S [] = S
so_far S (event ∷ events) = so_far (if is_ok event.reply then after S event.command else S) events

-- ---- the state that an opening gives

-- the list of commands begins with these
abbrev pub BeginsWith : List Command → List Command → Type 0
BeginsWith commands first = (rest : List Command) × (commands ≡ first ++ rest)

-- a crash may have lost none of the accepted commands, or the one that was answered Store
abbrev pub MayLose : List Event → List Command → Type 0
MayLose events [] = Unit {0}
MayLose events (command ∷ commands) = Contains events (record { command = command; reply = Err Store }) × (commands ≡ [])

-- the version stays, or rises from 1 to 2: it never falls
abbrev pub NeverFalls : ℕ → ℕ → Type 0
NeverFalls before now = (now ≡ before) ⊎ ((before ≡ 1) × (now ≡ 2))

-- except for the version, which never falls, T is the state after a prefix of the accepted commands of the run, and the prefix
-- has every acknowledged one
pub record IsAfterPrefix (office_run : OfficeRun) (T : RbacState) : Type 0 where
  -- the prefix, and what it lacks
  pub done : List Command
  pub lost : List Command
  pub is_prefix : accepted office_run.events ≡ done ++ lost
  pub has_acknowledged : BeginsWith done (acknowledged office_run.events)
  pub loses_one : MayLose office_run.events lost
  pub state : IsSameButVersion (run office_run.start done) T
  pub version : NeverFalls office_run.start.version T.version

-- the runs of one office, in order: the first begins with some good state, however the rows of the office came about
abbrev pub AreRunsFromGood : List OfficeRun → Type 0
AreRunsFromGood runs = AreSuccessiveRuns IsGood runs

-- the runs of an office that was created empty are such runs
abbrev pub CreatedRunsAreFromGood : Type 0
CreatedRunsAreFromGood = (runs : List OfficeRun) → AreRuns runs → AreRunsFromGood runs

-- each run begins with a good state
abbrev pub OpeningsAreGood : Type 0
OpeningsAreGood = (before : List OfficeRun) (office_run : OfficeRun) (later : List OfficeRun) → AreRunsFromGood (before ++ office_run ∷ later) → IsGood office_run.start

-- and each run but the first with the state after such a prefix of the run before
abbrev pub OpeningsFollow : Type 0
OpeningsFollow = (before : List OfficeRun) (office_run next : OfficeRun) (later : List OfficeRun) → AreRunsFromGood (before ++ office_run ∷ next ∷ later) → IsAfterPrefix office_run next.start

-- these are runs of one office, and T is the state so far of the last one, or a state that a next opening may give
pub record IsReached (before : List OfficeRun) (last : OfficeRun) (T : RbacState) : Type 0 where
  pub are_runs : AreRunsFromGood (before ++ last ∷ [])
  pub is_found : (T ≡ so_far last.start last.events) ⊎ OpensAfter last T

-- the same holds of the last run's state so far, and of each state that a next opening may give
abbrev pub LastIsSound : Type 0
LastIsSound = (before : List OfficeRun) (last : OfficeRun) (T : RbacState) → IsReached before last T → IsGood T × IsAfterPrefix last T

-- ---- what was removed

-- the user isn't assigned to the role, and is authorized through another assignment for each role that was activated in one of
-- the user's sessions
pub record IsWithoutAssignment (T : RbacState) (user role : Bytes) : Type 0 where
  pub assignment : contains T.assignments (user, role) ≡ false
  pub sessions : (session active : Bytes) → IsTrue (contains T.sessions (session, user)) → IsTrue (contains T.active (session, active)) →
      (other : Bytes) × (other ≢ role) × IsTrue (contains T.assignments (user, other)) × IsTrue (geq T.edges other active)

-- the permission isn't granted to the role, and a session that has access to it has it through another grant
pub record IsWithoutGrant (T : RbacState) (object operation role : Bytes) : Type 0 where
  pub grant : contains T.grants (object, operation, role) ≡ false
  pub access : (session : Bytes) → IsTrue (has_access T session operation object) →
      (other : Bytes) × (other ≢ role) × IsTrue (contains (session_roles T session) other) × IsTrue (contains T.grants (object, operation, other))

-- what was deassigned in force over all these runs is not in that state
abbrev pub DeassignedStays : Type 0
DeassignedStays = (before : List OfficeRun) (last : OfficeRun) (T : RbacState) → IsReached before last T →
    (user role : Bytes) → IsDeassignedInForce (events_of (before ++ last ∷ [])) user role → IsWithoutAssignment T user role

-- nor is what was revoked in force
abbrev pub RevokedStays : Type 0
RevokedStays = (before : List OfficeRun) (last : OfficeRun) (T : RbacState) → IsReached before last T →
    (object operation role : Bytes) → IsRevokedInForce (events_of (before ++ last ∷ [])) object operation role → IsWithoutGrant T object operation role

-- ---- one call

-- an open office may answer so in S: by the verdict, with the command's tally if it is done; by Memory; or by Store if the
-- command is accepted
abbrev pub MayAnswer : RbacState → Event → Type 0
MayAnswer S event = elim event.reply as (λ _. Type 0) [
  | Ok told ↦ (verdict S event.command ≡ None) × (told ≡ tally S event.command)
  | Err Memory ↦ Unit {0}
  | Err Store ↦ verdict S event.command ≡ None
  | Err Closed ↦ ⊥
  | Err refusal ↦ verdict S event.command ≡ Some refusal
]

-- a crash may leave T after an open office answered so in S: the state after the command if it was acknowledged, S or that state
-- if the answer was Store, and otherwise S
abbrev pub LeavesAt : RbacState → Event → RbacState → Type 0
LeavesAt S event T = elim event.reply as (λ _. Type 0) [
  | Ok told ↦ T ≡ after S event.command
  | Err Store ↦ (T ≡ S) ⊎ (T ≡ after S event.command)
  | Err _ ↦ T ≡ S
]

-- the possible events of one call are these answers, and a crash after it leaves these states
abbrev pub OneCall : Type 0
OneCall = (S : RbacState) (event : Event) (T : RbacState) → Leaves S (event ∷ []) T ↔ (MayAnswer S event × LeavesAt S event T)

-- the events are possible from S on
abbrev pub ArePossible : RbacState → List Event → Type 0
ArePossible S events = (T : RbacState) × Leaves S events T

-- if events are possible, those up to each of them are
abbrev pub EarlierArePossible : Type 0
EarlierArePossible = (S : RbacState) (earlier later : List Event) → ArePossible S (earlier ++ later) → ArePossible S earlier

-- the store failed, which closes the office
abbrev pub closes : Event → Bool
closes event = elim event.reply [ Ok told ↦ false | Err Store ↦ true | Err _ ↦ false ]

-- the office was closed by one of the events
abbrev pub is_closed_by : List Event → Bool
is_closed_by events = list_any closes events

-- the state so far is one that a crash may leave
abbrev pub SoFarIsLeft : Type 0
SoFarIsLeft = (S : RbacState) (events : List Event) → ArePossible S events → Leaves S events (so_far S events)

-- and the only one while the office is open
abbrev pub OpenLeavesSoFar : Type 0
OpenLeavesSoFar = (S : RbacState) (events : List Event) (T : RbacState) → is_closed_by events ≡ false → Leaves S events T → T ≡ so_far S events

-- the run of an open office goes on from the state so far
abbrev pub OpenGoesOn : Type 0
OpenGoesOn = (S : RbacState) (events later : List Event) (T : RbacState) → ArePossible S events → is_closed_by events ≡ false →
    Leaves S (events ++ later) T ↔ Leaves (so_far S events) later T

-- a closed office answers Closed alone, and a crash then leaves what it could leave before
abbrev pub ClosedStays : Type 0
ClosedStays = (S : RbacState) (events : List Event) (event : Event) (T : RbacState) → is_closed_by events ≡ true →
    Leaves S (events ++ event ∷ []) T ↔ (Leaves S events T × (event.reply ≡ Err Closed))

-- the state so far after further events is the state to which these lead from the state so far
abbrev pub SoFarGoesOn : Type 0
SoFarGoesOn = (S : RbacState) (events later : List Event) → so_far S (events ++ later) ≡ so_far (so_far S events) later
