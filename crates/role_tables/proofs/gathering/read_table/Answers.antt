use Rattle.std.proofs.Common.{rules, [], ◌∷◌, ◌++◌, refl, ◌∙◌, arith}
use Rattle.sqlite.specs.State.{HasCleanDisk, Survives, IsUnchanged, CommitsShowing}
use Rattle.sqlite.specs.Held.{state}
use Rattle.sqlite.proofs.Callers.{unchanged_then}
use Rattle.role_tables.specs.private.Texts.{read_text}
use Rattle.role_tables.specs.TableContents.{contents_of}
use Rattle.role_tables.specs.private.GatheredRows.{GathersTable}
use Rattle.role_tables.proofs.Reading.Gathering.{Unfound, gathers_none, gathers_more, refused_survives, begun_found, more_survives, ended, query_keeps}
use Rattle.role_tables.proofs.gathering.read_table.Goals as goal

pub returns-in_default-clause-survives : goal.returns-in_default-clause-survives
returns-in_default-clause-survives g c =
    let old = state g.S.Store c.args.conn.now in
    let new = state g.S.Store c.query.follows.lender-at-none in
    let held = c.query.follows.holds-at-none in
    let kept : Survives old new (CommitsShowing c.read_text.result.now [] old) = search rules in
    refused_survives g.S.Store c.args.table c.args.conn.now c.read_text.result.now new c.read_text.ensures kept

pub rows-init : goal.rows-init
rows-init g c =
    let made = c.in-Ok.ensures in
    let kind = c.args.table in (
      refl,
      refused_survives g.S.Store kind c.args.conn.now c.read_text.result.now _ c.read_text.ensures made.survives,
      λ none. made.mode none,
      ([], gathers_none kind c.args.into.now, λ clean there. begun_found g.S.Store kind c.args.conn.now c.read_text.result.now _ c.read_text.ensures there (made.begun clean)),
    )

pub returns-in_err-gather_row-in-Ok-Some-clause-survives :
    goal.returns-in_err-gather_row-in-Ok-Some-clause-survives
returns-in_err-gather_row-in-Ok-Some-clause-survives g c =
    let kind = c.args.table in
    let moved = c.next.follows.holds-at-none in
    let now = c.next.follows.lender-at-none.conn.now in
    let kept : Survives (state g.S.Store c.args.conn.now) (state g.S.Store now) (Unfound g.S.Store kind c.args.conn.now) = more_survives g.S.Store kind c.args.conn.now _ _ c.rows.invariant.1 moved.survives in
    search rules

pub returns-in-Ok-None-clause-gathered : goal.returns-in-Ok-None-clause-gathered
returns-in-Ok-None-clause-gathered g c clean there =
    let kind = c.args.table in
    let moved = c.next.follows.holds-at-none in
    let now = c.next.follows.lender-at-none.conn.now in
    let late : HasCleanDisk (state g.S.Store now) = search rules in
    let was = c.rows.invariant.3.2 (omega (arith, moved.survives.clean)) there in
    let last = (rw (c.in-Ok-None.is, c.in-Ok-None.field-0-is) at (moved.ok late)) (read_text kind) [] c.rows.invariant.3.0 was.0 in
    let both = ended g.S.Store kind c.args.conn.now c.rows.rows.conn.now now c.rows.invariant.3.0 there was.1 last in
    let whole : GathersTable (contents_of (state g.S.Store c.args.conn.now).now kind) kind c.args.into.now c.rows.into × IsUnchanged (state g.S.Store c.args.conn.now) (state g.S.Store now) = ((c.rows.invariant.3.0, both.0, c.rows.invariant.3.1), both.1) in
    search rules

pub returns-in-Ok-None-clause-survives : goal.returns-in-Ok-None-clause-survives
returns-in-Ok-None-clause-survives g c =
    let kind = c.args.table in
    let moved = c.next.follows.holds-at-none in
    let now = c.next.follows.lender-at-none.conn.now in
    let kept : Survives (state g.S.Store c.args.conn.now) (state g.S.Store now) (Unfound g.S.Store kind c.args.conn.now) = more_survives g.S.Store kind c.args.conn.now _ _ c.rows.invariant.1 moved.survives in
    search rules

pub returns-in-Err-clause-survives : goal.returns-in-Err-clause-survives
returns-in-Err-clause-survives g c =
    let kind = c.args.table in
    let moved = c.next.follows.holds-at-none in
    let now = c.next.follows.lender-at-none.conn.now in
    let kept : Survives (state g.S.Store c.args.conn.now) (state g.S.Store now) (Unfound g.S.Store kind c.args.conn.now) = more_survives g.S.Store kind c.args.conn.now _ _ c.rows.invariant.1 moved.survives in
    search rules

pub rows-preserved : goal.rows-preserved
rows-preserved g c =
    let kind = c.args.table in
    let moved = c.next.follows.holds-at-none in
    let now = c.next.follows.lender-at-none.conn.now in
    let old = c.rows.rows.conn.now in
    let shown = c.rows.invariant.3.0 in
    let row = c.in-Ok-Some.row.now in (
      moved.same_reference ∙ c.rows.invariant.0,
      more_survives g.S.Store kind c.args.conn.now _ _ c.rows.invariant.1 moved.survives,
      λ none. moved.mode (c.rows.invariant.2 none),
      (
        shown ++ row ∷ [],
        gathers_more kind shown row _ _ _ c.rows.invariant.3.1 c.in_ok-gather_row-in-Ok-Some.ensures.gathered,
        λ late there.
            let was = c.rows.invariant.3.2 (omega (arith, late, moved.survives.clean)) there in
            let next = (rw (c.in-Ok-Some.is, c.in-Ok-Some.field-0-is) at (moved.ok late)) (read_text kind) [] shown was.0 in
            let same = (rw c.in-Ok-Some.is at (moved.same late)) in
            (next, unchanged_then (state g.S.Store c.args.conn.now) (state g.S.Store old) (state g.S.Store now) was.1 same),
      ),
    )

pub returns-clause-survives : goal.returns-clause-survives
returns-clause-survives g c =
    let kind = c.args.table in
    let kept : Survives (state g.S.Store c.args.conn.now) (state g.S.Store c.rows.rows.conn.now) (Unfound g.S.Store kind c.args.conn.now) = c.rows.invariant.1 in
    search rules

pub returns-in_default-clause-kept : goal.returns-in_default-clause-kept
returns-in_default-clause-kept g c clean there =
    let held = c.query.follows.holds-at-none in
    query_keeps c.read_text.result.now [] (state g.S.Store c.args.conn.now) (state g.S.Store c.query.follows.lender-at-none) c.in_default.field-0 ((rw c.in_default.is at held).err clean)
