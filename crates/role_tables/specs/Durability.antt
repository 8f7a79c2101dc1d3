-- Durability: whether a connection holds a state, and what a crash leaves.
use Rattle.std.specs.Prelude.{◌≡◌, ◌⊎◌, false, IsTrue, List}
use Rattle.sqlite.specs.Tree.{Trees}
use Rattle.sqlite.specs.Effect.{Database, IsDatabase}
use Rattle.sqlite.specs.State.{State, HasCleanDisk}
use Rattle.admin_mgr.specs.RbacState.{RbacState}
use Rattle.admin_mgr.specs.Good.{IsGood}
use Rattle.admin_mgr.specs.OfficeRun.{Event, Leaves}
use Rattle.admin_mgr.specs.StateNames.{AreNamed}
use Rattle.role_tables.specs.StoredState.{HoldsState}

-- the trees, as a crash left them, are those of a database of which this is true
abbrev pub LeavesSuch : (Database → Type 0) → Trees → Type 0
LeavesSuch Is trees = (db : Database) × (trees ≡ db.trees) × Is db

-- they are those of a database that holds the state
abbrev pub LeavesState : RbacState → Trees → Type 0
LeavesState S trees = LeavesSuch (λ db. HoldsState db S) trees

-- the connection is open outside a transaction, this is true of its database, and a crash would leave such a database
pub record HoldsDurably (s : State) (Is : Database → Type 0) : Type 0 where
  pub is_open : IsTrue s.is_open
  pub autocommit : s.in_transaction ≡ false
  pub held : Is s.now
  pub left : (trees : Trees) → s.may_leave trees → LeavesSuch Is trees

-- the state is durable: the connection is open outside a transaction and holds it, and a crash would leave it
abbrev pub IsDurable : State → RbacState → Type 0
IsDurable s S = HoldsDurably s (λ db. HoldsState db S)

-- if a database that holds the state has these trees, each database with them holds it, whatever schema was read from them
abbrev pub SameTreesHoldSame : Type 0
SameTreesHoldSame = (S : RbacState) (trees : Trees) (db : Database) → LeavesState S trees → IsDatabase db → db.trees ≡ trees → HoldsState db S

-- if the connection is open outside a transaction on the trees of a database that holds the state, the state is durable on it
abbrev pub HoldsWhatWasLeft : State → Type 0
HoldsWhatWasLeft s = (S : RbacState) (trees : Trees) → LeavesState S trees → IsTrue s.is_open → s.in_transaction ≡ false → s.now.trees ≡ trees → IsDurable s S

-- it is true of whatever good state is durable on the connection, if its texts are valid names
abbrev pub WhateverIsDurable : State → (RbacState → Type 0) → Type 0
WhateverIsDurable s Is = (S : RbacState) → IsGood S → AreNamed S → IsDurable s S → Is S

-- no fault of the disk is forgotten: if it is clean now, it was clean before
abbrev pub ForgetsNoFault : State → State → Type 0
ForgetsNoFault old new = HasCleanDisk new → HasCleanDisk old

-- while the connection is open, it holds what it held before
abbrev pub HoldsAsBefore : State → State → Type 0
HoldsAsBefore old new = IsTrue new.is_open → new.now ≡ old.now

-- a connection outside a transaction stays so
abbrev pub StaysOutside : State → State → Type 0
StaysOutside old new = old.in_transaction ≡ false → new.in_transaction ≡ false

-- a crash leaves the state
abbrev pub LeavesOnly : State → RbacState → Type 0
LeavesOnly s S = (trees : Trees) → s.may_leave trees → LeavesState S trees

-- a crash leaves the one state or the other
abbrev pub LeavesEither : State → RbacState → RbacState → Type 0
LeavesEither s S T = (trees : Trees) → s.may_leave trees → LeavesState S trees ⊎ LeavesState T trees

-- a crash leaves what it could leave before, or the state
abbrev pub LeavesBeforeOr : State → State → RbacState → Type 0
LeavesBeforeOr old new S = (trees : Trees) → new.may_leave trees → old.may_leave trees ⊎ LeavesState S trees

-- a crash leaves a state that these events allow from S on
abbrev pub LeavesByEvents : State → RbacState → List Event → Type 0
LeavesByEvents s S events = (trees : Trees) → s.may_leave trees → (T : RbacState) × Leaves S events T × LeavesState T trees
