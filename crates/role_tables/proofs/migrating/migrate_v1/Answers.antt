use Rattle.std.proofs.Common.{rules, ◌≡◌, inl, inr, true, Err, IfErr, sym, ap, subst, ◌∙◌}
use Rattle.sqlite.specs.Effect.{Database}
use Rattle.sqlite.specs.Held.{state}
use Rattle.admin_mgr.specs.RbacState.{RbacState}
use Rattle.admin_mgr.specs.OfficeRun.{migrated_to_version_2}
use Rattle.role_tables.specs.TableContents.{contents_of}
use Rattle.role_tables.specs.Migration.{may_lock, RefusesMigration}
use Rattle.role_tables.proofs.Reading.Durability.{stays_durable, opens_the_state, leaves_either_version, version_2_found, refused_as_opening}
use Rattle.role_tables.proofs.migrating.migrate_v1.Goals as goal

pub returns-then-version-ne1-clause-err : goal.returns-then-version-ne1-clause-err
returns-then-version-ne1-clause-err g c clean none =
    let got = c.in_ok-first.ensures.ok clean in
    let two : c.in_ok-first.first.facts.version ≡ 2 = elim c.version.ensures.known [ inl one ↦ absurd (c.if-version-ne1.true one) | inr two ↦ sym c.version.ensures.version ∙ two ] in
    absurd (none (version_2_found _ c.in_ok-first.first.facts got.0 two))

pub returns-in-Ok-clause-found : goal.returns-in-Ok-clause-found
returns-in-Ok-clause-found g c clean =
    let mid = state g.S.Store c.read_state.new.conn in
    let got = c.in_ok-first.ensures.ok (c.migrate_tables.ensures.clean clean) in
    let may : may_lock mid.now.schema ≡ true = search rules in
    (subst (λ (db : Database). may_lock db.schema ≡ true) got.1.0.now_is may, c.in_ok-first.first.facts, got.0, sym c.version.ensures.version ∙ c.if-version-ne1.false, c.migrated.ensures)

pub returns-in-Ok-clause-moved : goal.returns-in-Ok-clause-moved
returns-in-Ok-clause-moved g c clean before good named stands =
    let old = state g.S.Store c.args.conn.now in
    let mid = state g.S.Store c.read_state.new.conn in
    let was = c.migrate_tables.ensures.clean clean in
    let got = c.in_ok-first.ensures.ok was in
    let same = opens_the_state old before c.in_ok-first.first.facts good named stands got.0 in
    let one : before.version ≡ 1 = ap (λ (S : RbacState). S.version) (sym same) ∙ sym c.version.ensures.version ∙ c.if-version-ne1.false in
    let may : may_lock mid.now.schema ≡ true = search rules in
    (one, c.migrated.ensures ∙ ap migrated_to_version_2 same, (c.in-Ok.ensures.written clean before one good may (stays_durable old mid before was c.read_state.ensures.survives got.1 stands)).done)

pub returns-in-Ok-clause-crash : goal.returns-in-Ok-clause-crash
returns-in-Ok-clause-crash g c clean before good named stands =
    let old = state g.S.Store c.args.conn.now in
    let mid = state g.S.Store c.read_state.new.conn in
    let was = c.migrate_tables.ensures.clean clean in
    let got = c.in_ok-first.ensures.ok was in
    let same = opens_the_state old before c.in_ok-first.first.facts good named stands got.0 in
    let one : before.version ≡ 1 = ap (λ (S : RbacState). S.version) (sym same) ∙ sym c.version.ensures.version ∙ c.if-version-ne1.false in
    let may : may_lock mid.now.schema ≡ true = search rules in
    let here = stays_durable old mid before was c.read_state.ensures.survives got.1 stands in
    leaves_either_version mid (state g.S.Store c.migrate_tables.new.conn) before one here (c.in-Ok.ensures.written clean before one good may here).left

pub returns-in-Err-clause-crash : goal.returns-in-Err-clause-crash
returns-in-Err-clause-crash g c clean before good named stands =
    let old = state g.S.Store c.args.conn.now in
    let mid = state g.S.Store c.read_state.new.conn in
    let was = c.migrate_tables.ensures.clean clean in
    let got = c.in_ok-first.ensures.ok was in
    let same = opens_the_state old before c.in_ok-first.first.facts good named stands got.0 in
    let one : before.version ≡ 1 = ap (λ (S : RbacState). S.version) (sym same) ∙ sym c.version.ensures.version ∙ c.if-version-ne1.false in
    let may : may_lock mid.now.schema ≡ true = search rules in
    let here = stays_durable old mid before was c.read_state.ensures.survives got.1 stands in
    leaves_either_version mid (state g.S.Store c.migrate_tables.new.conn) before one here (c.in-Err.ensures.written clean before one good may here).left

pub returns-in-Err-clause-unmoved : goal.returns-in-Err-clause-unmoved
returns-in-Err-clause-unmoved g c clean before good named stands =
    let old = state g.S.Store c.args.conn.now in
    let mid = state g.S.Store c.read_state.new.conn in
    let was = c.migrate_tables.ensures.clean clean in
    let got = c.in_ok-first.ensures.ok was in
    let same = opens_the_state old before c.in_ok-first.first.facts good named stands got.0 in
    let one : before.version ≡ 1 = ap (λ (S : RbacState). S.version) (sym same) ∙ sym c.version.ensures.version ∙ c.if-version-ne1.false in
    let may : may_lock mid.now.schema ≡ true = search rules in
    let here = stays_durable old mid before was c.read_state.ensures.survives got.1 stands in
    let undone = (c.in-Err.ensures.written clean before one good may here).undone in
    ((λ is_open. undone is_open ∙ got.1.0.now_is), (λ other. absurd (other c.give_up-in-Err.ensures)))

pub returns-in_err-first-clause-err : goal.returns-in_err-first-clause-err
returns-in_err-first-clause-err g c clean none =
    let is : c.from_residual.result ≡ Err c.in_err-first.field-0.0 = search rules in
    subst (λ r. IfErr r (RefusesMigration (contents_of (state g.S.Store c.args.conn.now).now))) (sym is) (refused_as_opening (contents_of (state g.S.Store c.args.conn.now).now) c.in_err-first.field-0.0 none (c.in_err-first.ensures.err clean))
