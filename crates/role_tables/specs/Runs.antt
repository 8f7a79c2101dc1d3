-- A run of an office: what it has answered since it was opened, what it holds now, and what a crash would leave.
use Rattle.std.specs.Prelude.{◌≡◌, false, IsTrue, List, [], ◌∷◌, ◌++◌}
use Rattle.sqlite.specs.Held.{Held}
use Rattle.sqlite.specs.Tree.{Trees}
use Rattle.sqlite.specs.State.{State, HasCleanDisk}
use Rattle.admin_mgr.specs.RbacState.{RbacState}
use Rattle.admin_mgr.specs.Good.{IsGood}
use Rattle.admin_mgr.specs.OfficeRun.{Event, Leaves, OfficeRun}
use Rattle.admin_mgr.specs.StateNames.{AreNamed}
use Rattle.role_tables.specs.OfficeHistory.{AreRunsFromGood, ArePossible, IsAfterPrefix, is_closed_by, so_far}
use Rattle.role_tables.specs.Office.{OfficeModel}
use Rattle.role_tables.specs.Durability.{IsDurable, LeavesByEvents}
use Rattle.role_tables.specs.StoredState.{HoldsState}

-- the run of these events from this state on
abbrev pub run_of : RbacState → List Event → OfficeRun
run_of start events = record { start = start; events = events }

module _ {S : Type 0} (shown : Held S → State) where
  -- The office was opened in the state `start` and has answered these events since. While the disk returns what was written: its
  -- state is stored unless the store has failed; an open connection holds it even then; and a crash leaves a state that these
  -- events allow.
  pub record IsInRun (start : RbacState) (events : List Event) (office : OfficeModel S) : Type 0 where
    pub possible : ArePossible start events
    pub state : office.facts ≡ so_far start events
    pub closed : office.is_closed ≡ is_closed_by events
    pub durable : HasCleanDisk (shown office.conn) → office.is_closed ≡ false → IsDurable (shown office.conn) office.facts
    pub held : HasCleanDisk (shown office.conn) → IsTrue (shown office.conn).is_open → HoldsState (shown office.conn).now office.facts
    pub left : HasCleanDisk (shown office.conn) → LeavesByEvents (shown office.conn) start events
    -- the texts of each such state are valid names, as an opening requires
    pub names : (T : RbacState) → Leaves start events T → AreNamed T

  -- whatever run the office was in, it is in the same run now, with this event added
  abbrev pub GoesOnBy : OfficeModel S → Event → OfficeModel S → Type 0
  GoesOnBy old event new = (start : RbacState) (events : List Event) → IsInRun start events old → IsInRun start (events ++ event ∷ []) new

  -- After a crash in the last of these runs, while the disk returned what was written: on the next connection that is open
  -- outside a transaction on what was left, a good state is durable, whose texts are valid names and with which the next run may
  -- begin. It is the state after a prefix of the accepted commands of the run, and the prefix has every acknowledged one.
  abbrev pub RecoversRun : State → Type 0
  RecoversRun next = (before : List OfficeRun) (start : RbacState) (events : List Event) (office : OfficeModel S) (trees : Trees)
      → AreRunsFromGood (before ++ run_of start events ∷ []) → IsInRun start events office
      → HasCleanDisk (shown office.conn) → (shown office.conn).may_leave trees
      → IsTrue next.is_open → next.in_transaction ≡ false → next.now.trees ≡ trees
      → (T : RbacState) × IsDurable next T × IsGood T × AreNamed T
      × IsAfterPrefix (run_of start events) T × AreRunsFromGood (before ++ run_of start events ∷ run_of T [] ∷ [])
