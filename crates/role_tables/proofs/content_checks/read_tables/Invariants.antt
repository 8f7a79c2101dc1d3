use Rattle.std.proofs.Common.{◌≡◌, false, take}
use Rattle.sqlite.specs.State.{HasCleanDisk, IsUnchanged, Survives}
use Rattle.sqlite.specs.Held.{state}
use Rattle.role_tables.specs.TableContents.{contents_of}
use Rattle.role_tables.specs.private.GatheredRows.{GathersTables, HasTables}
use Rattle.role_tables.proofs.content_checks.read_tables.Given as goal

abbrev pub invariant-tables : goal.invariant-tables
invariant-tables g l =
    let old = state g.S.Store l.fn.conn in
    let now = state g.S.Store l.conn in
    Survives old now (λ _. HasTables old l.tables → ⊥) × (l.fn.conn.in_transaction ≡ false → l.conn.in_transaction ≡ false)
    × (HasCleanDisk now → HasTables old l.tables → GathersTables (contents_of old.now) (take l.table-index l.tables) l.fn.into l.into × IsUnchanged old now)
