use Rattle.std.proofs.Common.{sym, subst}
use Rattle.rbac_sets.specs.Named.{row_of}
use Rattle.sqlite.specs.Held.{state}
use Rattle.sqlite.specs.State.{KeepsCommit}
use Rattle.role_tables.specs.StoredState.{cells_of}
use Rattle.role_tables.specs.private.Texts.{change_text}
use Rattle.role_tables.specs.private.TableChanges.{ChangesTables}
use Rattle.role_tables.proofs.StoredRows.Texts.{made_inside, kept_inside, keeps_itself, change_made}
use Rattle.role_tables.proofs.statements.change_values.Goals as goal

pub returns-clause-changed : goal.returns-clause-changed
returns-clause-changed g c clean =
    let old = state g.S.Store c.args.tx.now.conn.now in
    let new = state g.S.Store c.execute.new.self.conn.now in
    let change = c.args.change.now in
    made_inside old new (change_text change) (cells_of (row_of change)) c.execute.result (ChangesTables old new change) (λ count ran _ mode. change_made old new change count ran mode)
    (λ outside. (c.execute.ensures.ended outside).0) (rw (c.change_text.ensures, c.requires) at (c.execute.ensures.runs clean))

pub returns-clause-kept : goal.returns-clause-kept
returns-clause-kept g c clean =
    let old = state g.S.Store c.args.tx.now.conn.now in
    let new = state g.S.Store c.execute.new.self.conn.now in
    let change = c.args.change.now in
    kept_inside old new (change_text change) (cells_of (row_of change)) c.execute.result
    (λ outside. subst (λ h. KeepsCommit old (state g.S.Store h)) (sym (c.execute.ensures.ended outside).1) (keeps_itself old)) (rw (c.change_text.ensures, c.requires) at (c.execute.ensures.runs clean))
