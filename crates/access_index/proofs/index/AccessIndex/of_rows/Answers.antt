use Rattle.std.proofs.Common.{sym, take, arith, ap, ◌∙◌, refl}
use Rattle.std.proofs.lemmas.List.{take_all}
use Rattle.admin_mgr.specs.StoredSets.{is_among}
use Rattle.access_index.specs.Index.{rows_of}
use Rattle.access_index.proofs.IndexLaws.{among, keeps_fitted, keeps_more, keeps_same}
use Rattle.access_index.proofs.SeedLaws.{seeds_again, seeds_fitted}
use Rattle.access_index.proofs.index.AccessIndex.of_rows.Goals as goal

pub put_row-requires : goal.put_row-requires
put_row-requires c = (among (take c.loop-row.row-index c.args.rows.now), c.loop-row.invariant.0)

pub loop-row-init : goal.loop-row-init
loop-row-init c = (c.empty-index.ensures.rows, c.empty-index.ensures.seeded)

pub loop-row-preserved : goal.loop-row-preserved
loop-row-preserved c = (
  keeps_more c.put_row.new.self c.args.rows.now c.loop-row.row-index c.row-item.result c.loop-row-test.true c.row-item.is
      (c.in_ok-put_row.ensures.ok (among (take c.loop-row.row-index c.args.rows.now)) c.loop-row.invariant.0),
  c.put_row.ensures.seeds ∙ c.loop-row.invariant.1,
)

pub returns-clause-ok : goal.returns-clause-ok
returns-clause-ok c S are =
    let before = among (take c.loop-row.row-index c.args.rows.now) in
    c.count_rows.ensures.keeps (rows_of S)
    (keeps_fitted c.forget_all_barred.new.self (rows_of S) c.fit.new.self c.fit-2.new.self c.fit-3.new.self c.fit.ensures.same c.fit-2.ensures.same c.fit-3.ensures.same
    (keeps_same c.forget_all_barred.new.self (record before { barred = (rows_of S).barred; barred_by = (rows_of S).barred_by }) (rows_of S)
    (λ row. are.rows_are row ∙ ap (λ l. is_among l row) (sym (take_all c.loop-row.row-index c.args.rows.now (omega arith)))) (λ role. refl) (λ set role. refl)
    (c.forget_all_barred.ensures.keeps before (rows_of S).barred (rows_of S).barred_by c.loop-row.invariant.0)))

pub returns-clause-seeded : goal.returns-clause-seeded
returns-clause-seeded c =
    let forgotten = c.forget_all_barred.new.self in
    seeds_again (record forgotten { assigned = c.fit.new.self; sessions = c.fit-2.new.self; grants = c.fit-3.new.self }) c.count_rows.new.self c.count_rows.ensures.rest c.count_rows.ensures.seed
    ∙ seeds_fitted forgotten c.fit.new.self c.fit-2.new.self c.fit-3.new.self c.fit.ensures.seed c.fit-2.ensures.seed c.fit-3.ensures.seed
    ∙ c.forget_all_barred.ensures.seeds ∙ c.loop-row.invariant.1
