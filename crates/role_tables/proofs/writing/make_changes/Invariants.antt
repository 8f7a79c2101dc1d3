use Rattle.std.proofs.Common.{◌≡◌, take}
use Rattle.sqlite.specs.State.{HasCleanDisk, KeepsCommit, Survives}
use Rattle.sqlite.specs.Held.{state}
use Rattle.admin_mgr.specs.RowsAfter.{rows_after}
use Rattle.role_tables.specs.private.TableChanges.{AreKept, TablesAfter}
use Rattle.role_tables.proofs.writing.make_changes.Given as goal

abbrev pub invariant-changes : goal.invariant-changes
invariant-changes g l =
    let old = state g.S.Store l.fn.tx.conn.now in
    let now = state g.S.Store l.tx.conn.now in
    (l.tx.conn.ghost_name ≡ l.fn.tx.conn.ghost_name) × Survives old now (λ _. ⊥) × (HasCleanDisk now → KeepsCommit old now)
    × (HasCleanDisk now → TablesAfter old now (AreKept l.changes) (λ rows. rows_after rows (take l.change-index l.changes)))
