use Rattle.std.proofs.Common.{◌≡◌, rules, arith, ◌∙◌, subst}
use Rattle.sqlite.specs.State.{HasCleanDisk, KeepsCommit}
use Rattle.sqlite.specs.Held.{state}
use Rattle.admin_mgr.specs.RbacState.{empty_state}
use Rattle.role_tables.specs.StoredState.{HoldsState}
use Rattle.role_tables.specs.private.Transactions.{Transacts}
use Rattle.role_tables.proofs.Meanings.Surviving.{survives_both, keeps_both}
use Rattle.role_tables.proofs.OfficeTables.EmptyOffice.{office_made}
use Rattle.role_tables.proofs.StoredRows.Transactions.{transaction_ended}
use Rattle.role_tables.proofs.creating.create_office.Goals as goal

pub returns-clause-made : goal.returns-clause-made
returns-clause-made g c clean stage =
    let old = c.args.conn.now in
    let first = c.create_tables.new.tx.conn.now in
    let mid = c.insert_version.new.tx.conn.now in
    let end = c.commit.new.self.0 in
    let begun = c.transaction-tx.ensures.begun in
    let same : end ≡ c.conn-2-1.given.0 = search rules in
    let late : HasCleanDisk (state g.S.Store end) = search rules in
    let was : HasCleanDisk (state g.S.Store mid) = omega (arith, late, c.commit.ensures.survives.clean) in
    let early : HasCleanDisk (state g.S.Store first) = omega (arith, was, c.insert_version.ensures.survives.clean) in
    let made = rw (c.of_version.ensures, begun) at (c.in_ok-create_tables.ensures.made early) in
    let put = c.in_ok-insert_version.ensures.put was in
    let kept : HasCleanDisk (state g.S.Store mid) → KeepsCommit (state g.S.Store c.transaction-tx.result.conn.now) (state g.S.Store mid) = λ clean. keeps_both _ _ _ clean c.insert_version.ensures.survives c.create_tables.ensures.kept c.insert_version.ensures.kept in
    let survives = survives_both _ _ _ c.create_tables.ensures.survives c.insert_version.ensures.survives in
    let opened = (rw begun at (c.create_tables.ensures.kept early)).was_open put.was_open in
    let held = office_made c.args.version c.requires.known _ (state g.S.Store first) (state g.S.Store mid) made put (stage opened) in
    subst (λ h. Transacts (state g.S.Store old) (state g.S.Store h) (λ db. HoldsState db (empty_state c.args.version)) c.commit.result) same
    (transaction_ended g.S.Store old (state g.S.Store mid) (state g.S.Store end) (λ db. HoldsState db (empty_state c.args.version)) (rw begun at survives) (c.is_settled.ensures c.requires.autocommit) c.commit.result late (rw begun at kept) held
    (λ trees is_open may. g.met.S.Store.settled end.store trees is_open may) (c.commit.ensures.ok late) (c.commit.ensures.err late) (put.mode ∙ made.mode) c.commit.ensures.survives)
