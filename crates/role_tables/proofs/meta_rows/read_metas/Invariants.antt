use Rattle.std.proofs.Common.{◌≡◌, false, [], List, IsSome}
use Rattle.sqlite.specs.Order.{Row}
use Rattle.sqlite.specs.State.{HasCleanDisk, Survives, IsUnchanged}
use Rattle.sqlite.specs.Held.{state}
use Rattle.sqlite.specs.Given.{HasGiven}
use Rattle.role_tables.specs.OfficeTables.{Meta}
use Rattle.role_tables.specs.private.Texts.{read_text}
use Rattle.role_tables.specs.TableContents.{contents_of}
use Rattle.role_tables.specs.private.MetaRows.{Sees}
use Rattle.role_tables.proofs.Reading.Gathering.{Unfound}
use Rattle.role_tables.proofs.meta_rows.read_metas.Given as goal

abbrev pub invariant-rows : goal.invariant-rows
invariant-rows g l =
    let old = state g.S.Store l.fn.conn in
    let now = state g.S.Store l.rows.conn.now in
    (l.rows.conn.ghost_name ≡ l.initial.rows.conn.ghost_name) × Survives old now (Unfound g.S.Store Meta l.fn.conn) × (l.fn.conn.in_transaction ≡ false → l.rows.conn.now.in_transaction ≡ false)
    × ((shown : List Row) × Sees shown l.seen × (HasCleanDisk now → IsSome (contents_of old.now Meta) → HasGiven g.S.Store (read_text Meta) [] l.rows.conn.now shown × IsUnchanged old now))
