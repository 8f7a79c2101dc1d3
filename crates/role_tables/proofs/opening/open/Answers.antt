use Rattle.std.proofs.Common.{rules, ◌≡◌, sym, subst, ◌∙◌}
use Rattle.sqlite.specs.State.{HasCleanDisk, IsUnchanged}
use Rattle.sqlite.specs.Held.{state}
use Rattle.admin_mgr.specs.Good.{IsGood}
use Rattle.admin_mgr.specs.StateNames.{AreNamed}
use Rattle.admin_mgr.specs.RbacState.{RbacState}
use Rattle.role_tables.specs.TableContents.{contents_of}
use Rattle.role_tables.specs.OpeningChecks.{IsStateOfContents}
use Rattle.role_tables.specs.Durability.{IsDurable}
use Rattle.role_tables.proofs.Reading.Durability.{leaves_still, stays_durable, opens_the_state, refuses_no_more}
use Rattle.role_tables.proofs.Runs.{begins, is_outside}
use Rattle.role_tables.proofs.opening.open.Goals as goal

pub returns-in-Ok-clause-ok : goal.returns-in-Ok-clause-ok
returns-in-Ok-clause-ok g c =
    let facts : c.new.result.facts ≡ c.in-Ok.state.facts = search rules in
    let same : c.read_state.new.conn ≡ c.new.result.conn = search rules in
    let old = state g.S.Store c.args.conn in (
      c.new.ensures.2,
      is_outside _ _ c.is_autocommit.ensures.value c.if-not-is_autocommit.false,
      subst (λ h. HasCleanDisk (state g.S.Store h) → IsStateOfContents (contents_of old.now) c.new.result.facts × IsUnchanged old (state g.S.Store h)) same
          (λ clean. let got = c.in-Ok.ensures.ok clean in (subst (λ (S : RbacState). IsStateOfContents (contents_of old.now) S) (sym facts) got.0, got.1)),
    )

pub returns-in-Ok-clause-again : goal.returns-in-Ok-clause-again
returns-in-Ok-clause-again g c =
    let facts : c.new.result.facts ≡ c.in-Ok.state.facts = search rules in
    let same : c.read_state.new.conn ≡ c.new.result.conn = search rules in
    let old = state g.S.Store c.args.conn in
    let new = state g.S.Store c.read_state.new.conn in
    subst (λ h. HasCleanDisk (state g.S.Store h) → (before : RbacState) → IsGood before → AreNamed before → IsDurable old before → (c.new.result.facts ≡ before) × IsDurable (state g.S.Store h) before) same (λ clean before good named stands.
    let got = c.in-Ok.ensures.ok clean in
    (facts ∙ opens_the_state old before c.in-Ok.state.facts good named stands got.0, stays_durable old new before clean c.read_state.ensures.survives got.1 stands))

pub returns-in-Ok-clause-run : goal.returns-in-Ok-clause-run
returns-in-Ok-clause-run g c clean before good named stands =
    let again = returns-in-Ok-clause-again g c clean before good named stands in
    begins (state g.S.Store) c.new.result before again.0 c.new.ensures.2 named (λ _. again.1)

pub returns-in-Err-clause-refused : goal.returns-in-Err-clause-refused
returns-in-Err-clause-refused g c clean before good named stands =
    let old = state g.S.Store c.args.conn in
    let new = state g.S.Store c.read_state.new.conn in
    (refuses_no_more old before c.in-Err.refusal good named stands (c.in-Err.ensures.err clean), leaves_still old new before clean c.read_state.ensures.survives stands)
