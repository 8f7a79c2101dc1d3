use Rattle.std.proofs.Common.{◌≡◌, ◌≢◌, rules, inl, Err, IfOk, IfErr, ◌∙◌, sym, subst}
use Rattle.sqlite.specs.Effect.{Database}
use Rattle.sqlite.specs.Held.{state}
use Rattle.rbac_sets.specs.declared.refusal.Refusal.TheVariants.{Store}
use Rattle.admin_mgr.specs.Good.{IsGood}
use Rattle.admin_mgr.specs.StateNames.{AreNamed}
use Rattle.admin_mgr.specs.RbacState.{RbacState}
use Rattle.role_tables.specs.TableContents.{contents_of}
use Rattle.role_tables.specs.Migration.{IsMigratedFrom, RefusesMigration}
use Rattle.role_tables.specs.OpeningChecks.{IsOfVersion2}
use Rattle.role_tables.specs.Durability.{HoldsAsBefore, LeavesOnly, IsDurable}
use Rattle.role_tables.proofs.Meanings.Surviving.{survives_both}
use Rattle.role_tables.proofs.Reading.ReadState.{if_ok, if_err}
use Rattle.role_tables.proofs.Reading.Durability.{leaves_still, stays_durable}
use Rattle.role_tables.proofs.migrating.migrate_state.Goals as goal

-- ---- an office of version 2

pub returns-in_err-refuse_v2-clause-unmoved : goal.returns-in_err-refuse_v2-clause-unmoved
returns-in_err-refuse_v2-clause-unmoved g c clean =
    let old = state g.S.Store c.args.conn.now in
    let new = state g.S.Store c.refuse_v2.new.conn in
    let is : c.from_residual.result ≡ Err c.in_err-refuse_v2.field-0.0 = search rules in
    subst (λ r. IfErr r (λ refusal. (before : RbacState) → IsGood before → AreNamed before → IsDurable old before → HoldsAsBefore old new × (refusal ≢ Store → LeavesOnly new before))) (sym is)
    (λ before good named stands. (c.refuse_v2.ensures.undone c.requires clean, λ _. leaves_still old new before clean c.refuse_v2.ensures.survives stands))

pub returns-in_err-refuse_v2-clause-crash : goal.returns-in_err-refuse_v2-clause-crash
returns-in_err-refuse_v2-clause-crash g c clean before good named stands trees may =
    inl (leaves_still (state g.S.Store c.args.conn.now) (state g.S.Store c.refuse_v2.new.conn) before clean c.refuse_v2.ensures.survives stands trees may)

-- ---- no office of version 2

pub returns-clause-found : goal.returns-clause-found
returns-clause-found g c clean =
    let same = (c.in_ok-refuse_v2.ensures.passed (c.migrate_v1.ensures.clean clean)).1 in
    subst (λ (db : Database). IfOk c.migrate_v1.result (λ made. IsMigratedFrom db made.facts)) same.0.now_is (c.migrate_v1.ensures.found clean)

pub returns-clause-err : goal.returns-clause-err
returns-clause-err g c clean =
    let passed = c.in_ok-refuse_v2.ensures.passed (c.migrate_v1.ensures.clean clean) in
    subst (λ (db : Database). (IsOfVersion2 (contents_of db) → ⊥) → IfErr c.migrate_v1.result (RefusesMigration (contents_of db))) passed.1.0.now_is (c.migrate_v1.ensures.err clean) passed.0

pub returns-clause-undone : goal.returns-clause-undone
returns-clause-undone g c clean =
    let same = (c.in_ok-refuse_v2.ensures.passed (c.migrate_v1.ensures.clean clean)).1 in
    if_err c.migrate_v1.result _ _ (λ refusal still other is_open. still other is_open ∙ same.0.now_is) (c.migrate_v1.ensures.undone clean)

pub returns-clause-moved : goal.returns-clause-moved
returns-clause-moved g c clean =
    let was = c.migrate_v1.ensures.clean clean in
    let same = (c.in_ok-refuse_v2.ensures.passed was).1 in
    if_ok c.migrate_v1.result _ _
    (λ made moves before good named stands. moves before good named (stays_durable (state g.S.Store c.args.conn.now) (state g.S.Store c.refuse_v2.new.conn) before was c.refuse_v2.ensures.survives same stands))
    (c.migrate_v1.ensures.moved clean)

pub returns-clause-unmoved : goal.returns-clause-unmoved
returns-clause-unmoved g c clean =
    let was = c.migrate_v1.ensures.clean clean in
    let same = (c.in_ok-refuse_v2.ensures.passed was).1 in
    if_err c.migrate_v1.result _ _
    (λ refusal leaves before good named stands.
    let it = leaves before good named (stays_durable (state g.S.Store c.args.conn.now) (state g.S.Store c.refuse_v2.new.conn) before was c.refuse_v2.ensures.survives same stands) in
    ((λ is_open. it.0 is_open ∙ same.0.now_is), it.1))
    (c.migrate_v1.ensures.unmoved clean)

pub returns-clause-survives : goal.returns-clause-survives
returns-clause-survives g c =
    if_err c.migrate_v1.result _ _ (λ refusal survives other. survives_both _ _ _ c.refuse_v2.ensures.survives (survives other)) c.migrate_v1.ensures.survives

pub returns-clause-crash : goal.returns-clause-crash
returns-clause-crash g c clean before good named stands =
    let was = c.migrate_v1.ensures.clean clean in
    let same = (c.in_ok-refuse_v2.ensures.passed was).1 in
    c.migrate_v1.ensures.crash clean before good named (stays_durable (state g.S.Store c.args.conn.now) (state g.S.Store c.refuse_v2.new.conn) before was c.refuse_v2.ensures.survives same stands)
