use Rattle.std.proofs.Common.{IsTrue, ◌≡◌, ◌∙◌, rules, true, false, sym, ap, subst}
use Rattle.sqlite.specs.State.{HasCleanDisk}
use Rattle.sqlite.specs.Held.{state}
use Rattle.admin_mgr.specs.StateNames.{AreNamed}
use Rattle.admin_mgr.specs.RbacState.{empty_state}
use Rattle.admin_mgr.proofs.StateAfter.NamedLaws.{empty_named}
use Rattle.role_tables.specs.private.CreationSteps.{IsStage, no_table, no_rows}
use Rattle.role_tables.specs.SchemaTests.{may_create}
use Rattle.role_tables.specs.Durability.{LeavesBeforeOr, IsDurable}
use Rattle.role_tables.proofs.OfficeTables.Looking.{first_stage}
use Rattle.role_tables.proofs.Runs.{begins, is_outside}
use Rattle.role_tables.proofs.creating.create_with.Goals as goal

pub returns-in-Ok-clause-ok : goal.returns-in-Ok-clause-ok
returns-in-Ok-clause-ok g c =
    let version : c.version-version.result ≡ c.args.first.facts.version = c.version-version.ensures.version in
    let autocommit : (state g.S.Store c.args.conn).in_transaction ≡ false = is_outside _ _ c.is_autocommit.ensures.value c.if-not-is_autocommit.false in
    let may : may_create c.args.first.facts.version (state g.S.Store c.args.conn).now.schema ≡ true = search rules in
    let stage : IsTrue (state g.S.Store c.args.conn).is_open → IsStage c.version-version.result no_table (state g.S.Store c.args.conn).now no_rows = λ is_open.
    first_stage c.version-version.result (state g.S.Store c.args.conn).now c.version-version.ensures.known (rw (← version) at may) (c.schema.ensures.live is_open).0 in
    let empty : empty_state c.version-version.result ≡ c.args.first.facts = ap empty_state version ∙ sym c.requires.empty in
    let facts : c.new.result.facts ≡ c.args.first.facts = search rules in
    let same : c.create_office.new.conn ≡ c.new.result.conn = search rules in (
      facts,
      c.new.ensures.2,
      (
        (autocommit, may),
        subst (λ h. HasCleanDisk (state g.S.Store h) → IsDurable (state g.S.Store h) c.args.first.facts) same
            (λ clean. subst (IsDurable (state g.S.Store c.create_office.new.conn)) empty (c.in-Ok.ensures.made clean stage).done),
      ),
    )

pub returns-in-Ok-clause-run : goal.returns-in-Ok-clause-run
returns-in-Ok-clause-run g c =
    let made = returns-in-Ok-clause-ok g c in
    begins (state g.S.Store) c.new.result c.args.first.facts made.0 made.1 (subst AreNamed (sym c.requires.empty) (empty_named c.args.first.facts.version)) made.2.1

pub returns-in-Err-clause-undone : goal.returns-in-Err-clause-undone
returns-in-Err-clause-undone g c clean =
    let version : c.version-version.result ≡ c.args.first.facts.version = c.version-version.ensures.version in
    let may : may_create c.args.first.facts.version (state g.S.Store c.args.conn).now.schema ≡ true = search rules in
    let stage : IsTrue (state g.S.Store c.args.conn).is_open → IsStage c.version-version.result no_table (state g.S.Store c.args.conn).now no_rows = λ is_open.
    first_stage c.version-version.result (state g.S.Store c.args.conn).now c.version-version.ensures.known (rw (← version) at may) (c.schema.ensures.live is_open).0 in
    (c.in-Err.ensures.made clean stage).undone

pub returns-in-Err-clause-crash : goal.returns-in-Err-clause-crash
returns-in-Err-clause-crash g c clean =
    let version : c.version-version.result ≡ c.args.first.facts.version = c.version-version.ensures.version in
    let may : may_create c.args.first.facts.version (state g.S.Store c.args.conn).now.schema ≡ true = search rules in
    let stage : IsTrue (state g.S.Store c.args.conn).is_open → IsStage c.version-version.result no_table (state g.S.Store c.args.conn).now no_rows = λ is_open.
    first_stage c.version-version.result (state g.S.Store c.args.conn).now c.version-version.ensures.known (rw (← version) at may) (c.schema.ensures.live is_open).0 in
    let empty : empty_state c.version-version.result ≡ c.args.first.facts = ap empty_state version ∙ sym c.requires.empty in
    subst (LeavesBeforeOr (state g.S.Store c.args.conn) (state g.S.Store c.create_office.new.conn)) empty (c.in-Err.ensures.made clean stage).left

pub returns-in-Err-clause-untouched : goal.returns-in-Err-clause-untouched
returns-in-Err-clause-untouched g c refuses =
    let autocommit : (state g.S.Store c.args.conn).in_transaction ≡ false = is_outside _ _ c.is_autocommit.ensures.value c.if-not-is_autocommit.false in
    let may : may_create c.args.first.facts.version (state g.S.Store c.args.conn).now.schema ≡ true = search rules in
    absurd (refuses (autocommit, may))
