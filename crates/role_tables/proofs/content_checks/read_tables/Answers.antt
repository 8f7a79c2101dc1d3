use Rattle.std.proofs.Common.{rules, inl, arith, length, ◌≡◌, subst}
use Rattle.std.proofs.lemmas.List.{take_all}
use Rattle.sqlite.specs.Held.{state}
use Rattle.sqlite.proofs.InsideLemmas.{unchanged_keeps}
use Rattle.role_tables.specs.TableContents.{contents_of}
use Rattle.role_tables.specs.private.GatheredRows.{IsOfRows, GathersTables}
use Rattle.role_tables.proofs.Meanings.Surviving.{survives_itself, unchanged_itself}
use Rattle.role_tables.proofs.OfficeTables.Lists.{all_at}
use Rattle.role_tables.proofs.Reading.Parts.{gathers_nothing, next_survives, next_kept, next_gathered}
use Rattle.role_tables.proofs.content_checks.read_tables.Goals as goal

pub tables-init : goal.tables-init
tables-init g c = (survives_itself _ _, λ h. h, λ _ has. (gathers_nothing (contents_of (state g.S.Store c.args.conn.now).now) c.args.into.now, unchanged_itself (state g.S.Store c.args.conn.now) has.0))

pub read_table-requires : goal.read_table-requires
read_table-requires g c = all_at IsOfRows c.args.tables.now c.tables.table-index _ (omega (arith, c.tables-test.true)) c.requires

pub returns-in_err-read_table-clause-kept : goal.returns-in_err-read_table-clause-kept
returns-in_err-read_table-clause-kept g c clean all =
    next_kept _ _ _ c.args.tables.now c.tables.table-index _ (omega (arith, c.tables-test.true)) (search rules) c.args.into.now c.tables.into c.tables.into c.tables.invariant.0 c.tables.invariant.2 c.read_table.ensures.survives clean all c.read_table.ensures.kept

pub returns-in_err-read_table-clause-survives : goal.returns-in_err-read_table-clause-survives
returns-in_err-read_table-clause-survives g c =
    next_survives _ _ _ c.args.tables.now c.tables.table-index _ (omega (arith, c.tables-test.true)) (search rules) c.args.into.now c.tables.into c.tables.into c.tables.invariant.0 c.tables.invariant.2 c.read_table.ensures.survives

pub tables-preserved : goal.tables-preserved
tables-preserved g c = (
  next_survives _ _ _ c.args.tables.now c.tables.table-index _ (omega (arith, c.tables-test.true)) (search rules) c.args.into.now c.tables.into c.read_table.new.into c.tables.invariant.0 c.tables.invariant.2 c.read_table.ensures.survives,
  λ none. c.read_table.ensures.mode (c.tables.invariant.1 none),
  λ clean all. next_gathered _ _ _ c.args.tables.now c.tables.table-index _ (omega (arith, c.tables-test.true)) (search rules) c.args.into.now c.tables.into c.read_table.new.into c.tables.invariant.0 c.tables.invariant.2 c.read_table.ensures.survives clean all
      c.in_ok-read_table.ensures.gathered,
)

pub returns-clause-gathered : goal.returns-clause-gathered
returns-clause-gathered g c clean all =
    let old = state g.S.Store c.args.conn.now in
    let ended : length c.args.tables.now ≡ c.tables.table-index = search rules in
    let got = c.tables.invariant.2 clean all in
    (subst (λ l. GathersTables (contents_of old.now) l c.args.into.now c.tables.into) (take_all c.tables.table-index c.args.tables.now (omega (arith, ended))) got.0, got.1)

pub returns-clause-kept : goal.returns-clause-kept
returns-clause-kept g c clean all = unchanged_keeps _ _ (inl (c.tables.invariant.2 clean all).1)

pub returns-clause-survives : goal.returns-clause-survives
returns-clause-survives g c = c.tables.invariant.0
