use Rattle.std.proofs.Common.{codes, sym, subst}
use Rattle.sqlite.specs.Held.{state}
use Rattle.sqlite.specs.State.{KeepsCommit}
use Rattle.role_tables.specs.OfficeTables.{Meta, meta_row, cells}
use Rattle.role_tables.specs.private.Texts.{delete_text}
use Rattle.role_tables.specs.private.Transactions.{DeletesVersion}
use Rattle.role_tables.proofs.StoredRows.Migration.{version_taken}
use Rattle.role_tables.proofs.StoredRows.Texts.{made_inside, kept_inside, keeps_itself}
use Rattle.role_tables.proofs.statements.delete_version.Goals as goal

pub returns-clause-taken : goal.returns-clause-taken
returns-clause-taken g c clean =
    let old = state g.S.Store c.args.tx.now.conn.now in
    let new = state g.S.Store c.execute.new.self.conn.now in
    made_inside old new (delete_text Meta) (cells (meta_row (codes "rbac") c.args.version)) c.execute.result (DeletesVersion c.args.version old new) (λ count ran _ mode. version_taken c.args.version old new count ran mode)
    (λ outside. (c.execute.ensures.ended outside).0) (rw (c.delete_text.ensures, c.params-to_sql.ensures, c.params-to_sql-2.ensures) at (c.execute.ensures.runs clean))

pub returns-clause-kept : goal.returns-clause-kept
returns-clause-kept g c clean =
    let old = state g.S.Store c.args.tx.now.conn.now in
    let new = state g.S.Store c.execute.new.self.conn.now in
    kept_inside old new (delete_text Meta) (cells (meta_row (codes "rbac") c.args.version)) c.execute.result
    (λ outside. subst (λ h. KeepsCommit old (state g.S.Store h)) (sym (c.execute.ensures.ended outside).1) (keeps_itself old))
    (rw (c.delete_text.ensures, c.params-to_sql.ensures, c.params-to_sql-2.ensures) at (c.execute.ensures.runs clean))
