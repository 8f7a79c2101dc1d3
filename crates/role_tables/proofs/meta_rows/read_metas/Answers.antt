use Rattle.std.proofs.Common.{rules, [], ◌∷◌, ◌++◌, refl, ◌∙◌, arith}
use Rattle.sqlite.specs.State.{HasCleanDisk, Survives, IsUnchanged, CommitsShowing}
use Rattle.sqlite.specs.Held.{state}
use Rattle.sqlite.proofs.Callers.{unchanged_then}
use Rattle.role_tables.specs.OfficeTables.{Meta}
use Rattle.role_tables.specs.private.Texts.{read_text}
use Rattle.role_tables.specs.TableContents.{contents_of}
use Rattle.role_tables.specs.OpeningChecks.{values}
use Rattle.role_tables.specs.private.MetaRows.{Sees}
use Rattle.role_tables.proofs.Reading.Gathering.{Unfound, refused_survives, begun_found, more_survives, ended, query_keeps}
use Rattle.role_tables.proofs.Reading.MetaRows.{sees_more, sees_read}
use Rattle.role_tables.proofs.meta_rows.read_metas.Goals as goal

pub returns-in_default-clause-survives : goal.returns-in_default-clause-survives
returns-in_default-clause-survives g c =
    let old = state g.S.Store c.args.conn.now in
    let new = state g.S.Store c.query.follows.lender-at-none in
    let held = c.query.follows.holds-at-none in
    let kept : Survives old new (CommitsShowing (read_text Meta) [] old) = search rules in
    refused_survives g.S.Store Meta c.args.conn.now (read_text Meta) new refl kept

pub rows-init : goal.rows-init
rows-init g c =
    let made = c.in-Ok.ensures in (
      refl,
      refused_survives g.S.Store Meta c.args.conn.now (read_text Meta) _ refl made.survives,
      λ none. made.mode none,
      ([], record { tagged = refl; unknown = refl; second = refl; whole = refl; one = refl; empty = refl }, λ clean there. begun_found g.S.Store Meta c.args.conn.now (read_text Meta) _ refl there (made.begun clean)),
    )

pub returns-in-Ok-None-clause-seen : goal.returns-in-Ok-None-clause-seen
returns-in-Ok-None-clause-seen g c clean there =
    let moved = c.next.follows.holds-at-none in
    let now = c.next.follows.lender-at-none.conn.now in
    let late : HasCleanDisk (state g.S.Store now) = search rules in
    let was = c.rows.invariant.3.2 (omega (arith, moved.survives.clean)) there in
    let last = (rw (c.in-Ok-None.is, c.in-Ok-None.field-0-is) at (moved.ok late)) (read_text Meta) [] c.rows.invariant.3.0 was.0 in
    let both = ended g.S.Store Meta c.args.conn.now c.rows.rows.conn.now now c.rows.invariant.3.0 there was.1 last in
    let whole : Sees (values (contents_of (state g.S.Store c.args.conn.now).now) Meta) c.rows.seen × IsUnchanged (state g.S.Store c.args.conn.now) (state g.S.Store now) =
    (sees_read (contents_of (state g.S.Store c.args.conn.now).now) c.rows.invariant.3.0 c.rows.seen both.0 c.rows.invariant.3.1, both.1) in
    search rules

pub returns-in-Ok-None-clause-survives : goal.returns-in-Ok-None-clause-survives
returns-in-Ok-None-clause-survives g c =
    let moved = c.next.follows.holds-at-none in
    let now = c.next.follows.lender-at-none.conn.now in
    let kept : Survives (state g.S.Store c.args.conn.now) (state g.S.Store now) (Unfound g.S.Store Meta c.args.conn.now) = more_survives g.S.Store Meta c.args.conn.now _ _ c.rows.invariant.1 moved.survives in
    search rules

pub returns-in-Err-clause-survives : goal.returns-in-Err-clause-survives
returns-in-Err-clause-survives g c =
    let moved = c.next.follows.holds-at-none in
    let now = c.next.follows.lender-at-none.conn.now in
    let kept : Survives (state g.S.Store c.args.conn.now) (state g.S.Store now) (Unfound g.S.Store Meta c.args.conn.now) = more_survives g.S.Store Meta c.args.conn.now _ _ c.rows.invariant.1 moved.survives in
    search rules

pub rows-preserved : goal.rows-preserved
rows-preserved g c =
    let moved = c.next.follows.holds-at-none in
    let now = c.next.follows.lender-at-none.conn.now in
    let old = c.rows.rows.conn.now in
    let shown = c.rows.invariant.3.0 in
    let row = c.in-Ok-Some.row.now in (
      moved.same_reference ∙ c.rows.invariant.0,
      more_survives g.S.Store Meta c.args.conn.now _ _ c.rows.invariant.1 moved.survives,
      λ none. moved.mode (c.rows.invariant.2 none),
      (
        shown ++ row ∷ [],
        sees_more shown row _ _ c.rows.invariant.3.1 c.see.ensures,
        λ late there.
            let was = c.rows.invariant.3.2 (omega (arith, late, moved.survives.clean)) there in
            let next = (rw (c.in-Ok-Some.is, c.in-Ok-Some.field-0-is) at (moved.ok late)) (read_text Meta) [] shown was.0 in
            let same = (rw c.in-Ok-Some.is at (moved.same late)) in
            (next, unchanged_then (state g.S.Store c.args.conn.now) (state g.S.Store old) (state g.S.Store now) was.1 same),
      ),
    )

pub returns-clause-survives : goal.returns-clause-survives
returns-clause-survives g c =
    let kept : Survives (state g.S.Store c.args.conn.now) (state g.S.Store c.rows.rows.conn.now) (Unfound g.S.Store Meta c.args.conn.now) = c.rows.invariant.1 in
    search rules

pub returns-in_default-clause-kept : goal.returns-in_default-clause-kept
returns-in_default-clause-kept g c clean there =
    let held = c.query.follows.holds-at-none in
    query_keeps (read_text Meta) [] (state g.S.Store c.args.conn.now) (state g.S.Store c.query.follows.lender-at-none) c.in_default.field-0 ((rw c.in_default.is at held).err clean)
