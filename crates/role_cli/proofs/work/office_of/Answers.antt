use Rattle.std.proofs.Common.{ap, refl}
use Rattle.sqlite.specs.Held.{state}
use Rattle.role_wire.proofs.Results.{if_err-then}
use Rattle.role_cli.specs.declared.failure.Failure.TheVariants.{Refused}
use Rattle.role_cli.proofs.Beginning.{begins_open, refusal_fails, starts_open, unopened_open}
use Rattle.role_cli.proofs.Results.{if_err-five, if_err-four, if_ok-join, if_ok-three}
use Rattle.role_cli.proofs.work.office_of.Goals as goal

-- ---- an office is created

pub returns-in-Init-clause-begins : goal.returns-in-Init-clause-begins
returns-in-Init-clause-begins g c =
    rw c.in-Init.is (if_ok-join c.create.result _ _ _ c.create.ensures.ok c.create.ensures.run (λ office made run clean. (made.2.0, run)))

pub returns-in-Init-clause-unopened : goal.returns-in-Init-clause-unopened
returns-in-Init-clause-unopened g c =
    rw c.in-Init.is (if_err-four c.create.result _ _ _ _ _ c.create.ensures.err c.create.ensures.undone c.create.ensures.crash c.create.ensures.outside
    (λ u why held left outside clean. (why, held clean, left clean, outside)))

pub returns-in-Init-clause-refusal : goal.returns-in-Init-clause-refusal
returns-in-Init-clause-refusal g c = rw c.in-Init.is (if_err-then c.create.result _ _ c.create.ensures.err (λ u is. ap Refused is))

-- ---- an office is migrated

pub returns-in-Migrate-clause-begins : goal.returns-in-Migrate-clause-begins
returns-in-Migrate-clause-begins g c =
    rw c.in-Migrate.is (if_ok-three c.migrate.result _ _ _ _ c.migrate.ensures.ok c.migrate.ensures.moved c.migrate.ensures.run
    (λ office ok moved run clean. (ok.2 clean, λ S good named stands. ((moved clean S good named stands).0, run clean S good named stands))))

pub returns-in-Migrate-clause-unopened : goal.returns-in-Migrate-clause-unopened
returns-in-Migrate-clause-unopened g c =
    rw c.in-Migrate.is (if_err-five c.migrate.result _ _ _ _ _ _ c.migrate.ensures.err c.migrate.ensures.undone c.migrate.ensures.unmoved c.migrate.ensures.crash c.migrate.ensures.outside
    (λ u why holds stays left outside clean. (why clean, holds clean, stays clean, left clean, outside)))

pub returns-in-Migrate-clause-refusal : goal.returns-in-Migrate-clause-refusal
returns-in-Migrate-clause-refusal g c = rw c.in-Migrate.is (if_err-then c.migrate.result _ _ c.migrate.ensures.refusal (λ u is. (u.refusal, refl, is)))

-- ---- an office is opened

pub returns-in_default-clause-made : goal.returns-in_default-clause-made
returns-in_default-clause-made g c =
    if_ok-join c.open.result _ _ _ c.open.ensures.ok c.open.ensures.run (λ office ok run. starts_open c.args.choice.now c.in_default.not-Init c.in_default.not-Migrate office.facts)

pub returns-in_default-clause-begins : goal.returns-in_default-clause-begins
returns-in_default-clause-begins g c =
    if_ok-join c.open.result _ _ _ c.open.ensures.ok c.open.ensures.run
    (λ office ok run clean. begins_open c.args.choice.now c.in_default.not-Init c.in_default.not-Migrate (state g.S.Store) (state g.S.Store c.args.conn) office (ok.2 clean) (run clean))

pub returns-in_default-clause-unopened : goal.returns-in_default-clause-unopened
returns-in_default-clause-unopened g c =
    if_err-four c.open.result _ _ _ _ _ c.open.ensures.err c.open.ensures.undone c.open.ensures.refused c.open.ensures.outside
    (λ u why held left outside clean. unopened_open c.args.choice.now c.in_default.not-Init c.in_default.not-Migrate (state g.S.Store c.args.conn) u.refusal (state g.S.Store u.conn) (why clean) (held clean) (left clean) outside)

pub returns-in_default-clause-refusal : goal.returns-in_default-clause-refusal
returns-in_default-clause-refusal g c = if_err-then c.open.result _ _ c.open.ensures.refusal (λ u is. refusal_fails c.args.choice.now u.refusal c.in_default.not-Init is)
