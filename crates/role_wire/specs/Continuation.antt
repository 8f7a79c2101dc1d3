-- An office and its tables after a call.
--     shown conn      the state of the store behind a connection
use Rattle.std.specs.Prelude.{⊤, ◌≡◌, ◌++◌, true, IsTrue, List}
use Rattle.sqlite.specs.Held.{Held}
use Rattle.sqlite.specs.State.{State, HasCleanDisk}
use Rattle.admin_mgr.specs.OfficeRun.{Event}
use Rattle.admin_mgr.specs.RbacState.{RbacState}
use Rattle.role_tables.specs.Office.{OfficeModel}
use Rattle.role_tables.specs.Runs.{IsInRun}
use Rattle.role_tables.specs.Durability.{ForgetsNoFault, LeavesEither, IsDurable}
use Rattle.role_tables.specs.StoredState.{HoldsState}

module _ {S : Type 0} (shown : Held S → State) where
  -- There are such events, and whatever run the office was in before, it is in the same run now, with these events added.
  abbrev pub GoesOnBySome : OfficeModel S → (List Event → Type 0) → OfficeModel S → Type 0
  GoesOnBySome old Added new = (more : List Event) × Added more
      × ((start : RbacState) (events : List Event) → IsInRun shown start events old → IsInRun shown start (events ++ more) new)

  -- no fault of the disk is forgotten, and the run continues, with whatever events
  pub record Continues (old new : OfficeModel S) : Type 0 where
    pub clean : ForgetsNoFault (shown old.conn) (shown new.conn)
    pub runs : GoesOnBySome old (λ _. ⊤) new

  -- if the state before was durable and the disk returns what was written, the state now is durable; no fault of the disk is
  -- forgotten, and the run continues, with such events
  pub record StaysDurable (old : OfficeModel S) (Added : List Event → Type 0) (new : OfficeModel S) : Type 0 where
    pub clean : ForgetsNoFault (shown old.conn) (shown new.conn)
    pub runs : GoesOnBySome old Added new
    pub durable : HasCleanDisk (shown new.conn) → IsDurable (shown old.conn) old.facts → IsDurable (shown new.conn) new.facts

  -- the office has this state now, after such events, kept as `StaysDurable` says; it is closed exactly if it was closed before
  pub record ReachesState (old : OfficeModel S) (Added : List Event → Type 0) (T : RbacState) (new : OfficeModel S) : Type 0 where
    pub state : new.facts ≡ T
    pub is_closed : new.is_closed ≡ old.is_closed
    pub keeps : StaysDurable old Added new

  -- The store failed in a command that leads from `from` to `to`, and the office is closed, after such events. If its state was
  -- durable and the disk returns what was written, an open connection holds `from`, and a crash leaves `from` or `to`.
  pub record StoreFails (old : OfficeModel S) (Added : List Event → Type 0) (from to : RbacState) (new : OfficeModel S) : Type 0 where
    pub is_closed : new.is_closed ≡ true
    pub state : new.facts ≡ from
    pub clean : ForgetsNoFault (shown old.conn) (shown new.conn)
    pub runs : GoesOnBySome old Added new
    pub held : HasCleanDisk (shown new.conn) → IsDurable (shown old.conn) old.facts → IsTrue (shown new.conn).is_open → HoldsState (shown new.conn).now from
    pub left : HasCleanDisk (shown new.conn) → IsDurable (shown old.conn) old.facts → LeavesEither (shown new.conn) from to
