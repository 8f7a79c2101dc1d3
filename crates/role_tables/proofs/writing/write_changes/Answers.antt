use Rattle.std.proofs.Common.{◌≡◌, rules, arith, subst}
use Rattle.sqlite.specs.State.{HasCleanDisk}
use Rattle.sqlite.specs.Held.{state}
use Rattle.role_tables.specs.StoredState.{HoldsState}
use Rattle.role_tables.specs.private.Transactions.{Transacts}
use Rattle.role_tables.proofs.StoredRows.Transactions.{state_after, transaction_ended}
use Rattle.role_tables.proofs.writing.write_changes.Goals as goal

pub returns-clause-written : goal.returns-clause-written
returns-clause-written g c clean from to turns good_from good_to stands =
    let old = c.args.conn.now in
    let mid = c.make_changes.new.tx.conn.now in
    let end = c.commit.new.self.0 in
    let begun = c.transaction-tx.ensures.begun in
    let same : end ≡ c.conn-2-1.given.0 = search rules in
    let late : HasCleanDisk (state g.S.Store end) = search rules in
    let was : HasCleanDisk (state g.S.Store mid) = omega (arith, late, c.commit.ensures.survives.clean) in
    let after = rw begun at (c.in_ok-make_changes.ensures.changed was) in
    let held = state_after _ (state g.S.Store mid) from to c.args.changes.now good_from good_to turns after stands.held in
    subst (λ h. Transacts (state g.S.Store old) (state g.S.Store h) (λ db. HoldsState db to) c.commit.result) same
    (transaction_ended g.S.Store old (state g.S.Store mid) (state g.S.Store end) (λ db. HoldsState db to) (rw begun at c.make_changes.ensures.survives) (c.is_settled.ensures c.requires) c.commit.result late (rw begun at c.make_changes.ensures.kept) held
    (λ trees is_open may. g.met.S.Store.settled end.store trees is_open may) (c.commit.ensures.ok late) (c.commit.ensures.err late) after.mode c.commit.ensures.survives)

pub returns-in_err-make_changes-clause-written : goal.returns-in_err-make_changes-clause-written
returns-in_err-make_changes-clause-written g c clean from to turns good_from good_to stands = search rules
