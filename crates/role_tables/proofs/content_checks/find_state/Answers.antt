use Rattle.std.proofs.Common.{inr}
use Rattle.sqlite.specs.Held.{state}
use Rattle.role_tables.proofs.Reading.ReadState.{if_ok, if_err, read_kept, read_survives, reads_state, reads_refusal}
use Rattle.role_tables.proofs.content_checks.find_state.Goals as goal

pub returns-in_err-read_tables-clause-survives : goal.returns-in_err-read_tables-clause-survives
returns-in_err-read_tables-clause-survives g c =
    read_survives (state g.S.Store c.args.conn.now) (state g.S.Store c.find_metas.new.conn) c.in_ok-metas.metas c.in_ok-metas.ensures.five c.in_ok-metas.ensures.seen c.in_ok-version.version c.schema.result.now c.schema.ensures.value
    c.in_ok-version.ensures.ok (state g.S.Store c.read_tables.new.conn) c.find_metas.ensures.survives (rw c.of_rows.ensures.tables at c.read_tables.ensures.survives)

pub returns-clause-survives : goal.returns-clause-survives
returns-clause-survives g c =
    read_survives (state g.S.Store c.args.conn.now) (state g.S.Store c.find_metas.new.conn) c.in_ok-metas.metas c.in_ok-metas.ensures.five c.in_ok-metas.ensures.seen c.in_ok-version.version c.schema.result.now c.schema.ensures.value
    c.in_ok-version.ensures.ok (state g.S.Store c.read_tables.new.conn) c.find_metas.ensures.survives (rw c.of_rows.ensures.tables at c.read_tables.ensures.survives)

pub returns-clause-ok : goal.returns-clause-ok
returns-clause-ok g c clean =
    if_ok c.judge_rows.result _ _
    (λ made told. reads_state (state g.S.Store c.args.conn.now) (state g.S.Store c.find_metas.new.conn) c.in_ok-metas.metas c.in_ok-metas.ensures.five c.in_ok-metas.ensures.seen c.in_ok-version.version c.schema.result.now c.schema.ensures.value
    c.in_ok-version.ensures.ok (state g.S.Store c.read_tables.new.conn) c.first_gathering-all.result c.read_tables.new.into c.first_gathering-all.ensures.whole c.first_gathering-all.ensures.named c.first_gathering-all.ensures.empty
    (rw c.of_rows.ensures.tables at c.read_tables.ensures.survives) (rw c.of_rows.ensures.tables at c.in_ok-read_tables.ensures.gathered) clean made.facts told.0 told.1 told.2)
    c.judge_rows.ensures.ok

pub returns-clause-err : goal.returns-clause-err
returns-clause-err g c clean =
    if_err c.judge_rows.result _ _
    (λ refusal told. inr (reads_refusal (state g.S.Store c.args.conn.now) (state g.S.Store c.find_metas.new.conn) c.in_ok-metas.metas c.in_ok-metas.ensures.five c.in_ok-metas.ensures.seen c.in_ok-version.version c.schema.result.now c.schema.ensures.value
    c.in_ok-version.ensures.ok (state g.S.Store c.read_tables.new.conn) c.first_gathering-all.result c.read_tables.new.into c.first_gathering-all.ensures.whole c.first_gathering-all.ensures.named c.first_gathering-all.ensures.empty
    (rw c.of_rows.ensures.tables at c.read_tables.ensures.survives) (rw c.of_rows.ensures.tables at c.in_ok-read_tables.ensures.gathered) clean refusal told))
    c.judge_rows.ensures.err

pub returns-in_err-read_tables-clause-kept : goal.returns-in_err-read_tables-clause-kept
returns-in_err-read_tables-clause-kept g c clean =
    read_kept (state g.S.Store c.args.conn.now) (state g.S.Store c.find_metas.new.conn) c.in_ok-metas.metas c.in_ok-metas.ensures.five c.in_ok-metas.ensures.seen c.in_ok-version.version c.schema.result.now c.schema.ensures.value
    c.in_ok-version.ensures.ok (state g.S.Store c.read_tables.new.conn) clean (rw c.of_rows.ensures.tables at c.read_tables.ensures.survives) (rw c.of_rows.ensures.tables at c.read_tables.ensures.kept)

pub returns-clause-kept : goal.returns-clause-kept
returns-clause-kept g c clean =
    read_kept (state g.S.Store c.args.conn.now) (state g.S.Store c.find_metas.new.conn) c.in_ok-metas.metas c.in_ok-metas.ensures.five c.in_ok-metas.ensures.seen c.in_ok-version.version c.schema.result.now c.schema.ensures.value
    c.in_ok-version.ensures.ok (state g.S.Store c.read_tables.new.conn) clean (rw c.of_rows.ensures.tables at c.read_tables.ensures.survives) (rw c.of_rows.ensures.tables at c.read_tables.ensures.kept)
