use Rattle.std.proofs.Common.{rules, ◌≡◌, subst, ◌∙◌}
use Rattle.sqlite.specs.State.{HasCleanDisk}
use Rattle.sqlite.specs.Held.{state}
use Rattle.admin_mgr.specs.Good.{IsGood}
use Rattle.admin_mgr.specs.StateNames.{AreNamed}
use Rattle.admin_mgr.specs.RbacState.{RbacState}
use Rattle.admin_mgr.specs.OfficeRun.{migrated_to_version_2}
use Rattle.role_tables.specs.Migration.{IsMigratedFrom}
use Rattle.role_tables.specs.Durability.{IsDurable}
use Rattle.admin_mgr.proofs.StateAfter.MigratedLaws.{migrated_named}
use Rattle.role_tables.proofs.Runs.{begins, is_outside}
use Rattle.role_tables.proofs.migrating.migrate.Goals as goal

pub returns-in-Ok-clause-ok : goal.returns-in-Ok-clause-ok
returns-in-Ok-clause-ok g c =
    let facts : c.new.result.facts ≡ c.in-Ok.state.facts = search rules in
    let same : c.migrate_state.new.conn ≡ c.new.result.conn = search rules in
    let old = state g.S.Store c.args.conn in (
      c.new.ensures.2,
      is_outside _ _ c.is_autocommit.ensures.value c.if-not-is_autocommit.false,
      subst (λ h. HasCleanDisk (state g.S.Store h) → IsMigratedFrom old.now c.new.result.facts) same
          (λ clean. let got = c.in-Ok.ensures.found clean in (got.0, got.1, got.2, got.3, facts ∙ got.4)),
    )

pub returns-in-Ok-clause-moved : goal.returns-in-Ok-clause-moved
returns-in-Ok-clause-moved g c =
    let facts : c.new.result.facts ≡ c.in-Ok.state.facts = search rules in
    let same : c.migrate_state.new.conn ≡ c.new.result.conn = search rules in
    let old = state g.S.Store c.args.conn in
    subst (λ h. HasCleanDisk (state g.S.Store h) → (before : RbacState) → IsGood before → AreNamed before → IsDurable old before → (before.version ≡ 1) × (c.new.result.facts ≡ migrated_to_version_2 before) × IsDurable (state g.S.Store h) (migrated_to_version_2 before)) same
    (λ clean before good named stands. let got = c.in-Ok.ensures.moved clean before good named stands in (got.0, facts ∙ got.1, got.2))

pub returns-in-Ok-clause-run : goal.returns-in-Ok-clause-run
returns-in-Ok-clause-run g c clean before good named stands =
    let moved = returns-in-Ok-clause-moved g c clean before good named stands in
    begins (state g.S.Store) c.new.result (migrated_to_version_2 before) moved.1 c.new.ensures.2 (migrated_named before named) (λ _. moved.2)
