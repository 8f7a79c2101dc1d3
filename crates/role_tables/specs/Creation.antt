-- How the tables of an office are created, one after the other.
use Rattle.std.specs.Prelude.{ℕ, ◌≡◌, false, IsTrue}
use Rattle.admin_mgr.specs.RbacState.{RbacState}
use Rattle.sqlite.specs.State.{State, HasCleanDisk}
use Rattle.role_tables.specs.SchemaTests.{may_create}
use Rattle.role_tables.specs.Durability.{IsDurable}

-- an office of this version may be created: the connection is outside a transaction, and the tables can be created
abbrev pub MayCreate : ℕ → State → Type 0
MayCreate version s = (s.in_transaction ≡ false) × IsTrue (may_create version s.now.schema)

-- an office could be created and, if the disk returned what was written, this state is durable in it now
abbrev pub CreatesOffice : State → State → RbacState → Type 0
CreatesOffice old new S = MayCreate S.version old × (HasCleanDisk new → IsDurable new S)
