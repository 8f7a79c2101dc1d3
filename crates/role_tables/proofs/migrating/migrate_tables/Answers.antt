use Rattle.std.proofs.Common.{◌≡◌, rules, arith, ◌∙◌, subst}
use Rattle.sqlite.specs.State.{HasCleanDisk, KeepsCommit}
use Rattle.sqlite.specs.Held.{state}
use Rattle.admin_mgr.specs.OfficeRun.{migrated_to_version_2}
use Rattle.role_tables.specs.StoredState.{HoldsState}
use Rattle.role_tables.specs.private.Transactions.{Transacts}
use Rattle.role_tables.proofs.Meanings.Surviving.{survives_both, keeps_both}
use Rattle.role_tables.proofs.StoredRows.Migration.{migrated}
use Rattle.role_tables.proofs.StoredRows.Transactions.{transaction_ended}
use Rattle.role_tables.proofs.migrating.migrate_tables.Goals as goal

pub returns-clause-written : goal.returns-clause-written
returns-clause-written g c clean from first good may stands =
    let old = c.args.conn.now in
    let made_at = c.create_table.new.tx.conn.now in
    let taken_at = c.delete_version.new.tx.conn.now in
    let mid = c.insert_version.new.tx.conn.now in
    let end = c.commit.new.self.0 in
    let begun = c.transaction-tx.ensures.begun in
    let same : end ≡ c.conn-2-1.given.0 = search rules in
    let late : HasCleanDisk (state g.S.Store end) = search rules in
    let was : HasCleanDisk (state g.S.Store mid) = omega (arith, late, c.commit.ensures.survives.clean) in
    let second : HasCleanDisk (state g.S.Store taken_at) = omega (arith, was, c.insert_version.ensures.survives.clean) in
    let early : HasCleanDisk (state g.S.Store made_at) = omega (arith, second, c.delete_version.ensures.survives.clean) in
    let made = rw begun at (c.in_ok-create_table.ensures.made early) in
    let taken = c.in_ok-delete_version.ensures.taken second in
    let put = c.in_ok-insert_version.ensures.put was in
    let kept : HasCleanDisk (state g.S.Store mid) → KeepsCommit (state g.S.Store c.transaction-tx.result.conn.now) (state g.S.Store mid) = λ clean. keeps_both _ _ _ clean c.insert_version.ensures.survives (λ clean. keeps_both _ _ _ clean c.delete_version.ensures.survives c.create_table.ensures.kept c.delete_version.ensures.kept) c.insert_version.ensures.kept in
    let survives = survives_both _ _ _ (survives_both _ _ _ c.create_table.ensures.survives c.delete_version.ensures.survives) c.insert_version.ensures.survives in
    let held = migrated _ (state g.S.Store made_at) (state g.S.Store taken_at) (state g.S.Store mid) made taken put from first good may stands.held in
    subst (λ h. Transacts (state g.S.Store old) (state g.S.Store h) (λ db. HoldsState db (migrated_to_version_2 from)) c.commit.result) same
    (transaction_ended g.S.Store old (state g.S.Store mid) (state g.S.Store end) (λ db. HoldsState db (migrated_to_version_2 from)) (rw begun at survives) (c.is_settled.ensures c.requires) c.commit.result late (rw begun at kept) held
    (λ trees is_open may. g.met.S.Store.settled end.store trees is_open may) (c.commit.ensures.ok late) (c.commit.ensures.err late) (put.mode ∙ taken.mode ∙ made.mode) c.commit.ensures.survives)

pub returns-in_err-insert_version-clause-written : goal.returns-in_err-insert_version-clause-written
returns-in_err-insert_version-clause-written g c clean from first good may stands = search rules
