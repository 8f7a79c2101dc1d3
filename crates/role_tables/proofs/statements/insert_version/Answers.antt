use Rattle.std.proofs.Common.{codes, sym, subst}
use Rattle.sqlite.specs.Held.{state}
use Rattle.sqlite.specs.State.{KeepsCommit}
use Rattle.role_tables.specs.OfficeTables.{Meta, meta_row, cells}
use Rattle.role_tables.specs.private.Texts.{insert_text}
use Rattle.role_tables.specs.private.CreationSteps.{InsertsVersion}
use Rattle.role_tables.proofs.OfficeTables.EmptyOffice.{version_put}
use Rattle.role_tables.proofs.StoredRows.Texts.{made_inside, kept_inside, keeps_itself}
use Rattle.role_tables.proofs.statements.insert_version.Goals as goal

pub returns-clause-put : goal.returns-clause-put
returns-clause-put g c clean =
    let old = state g.S.Store c.args.tx.now.conn.now in
    let new = state g.S.Store c.execute.new.self.conn.now in
    made_inside old new (insert_text Meta) (cells (meta_row (codes "rbac") c.args.version)) c.execute.result (InsertsVersion c.args.version old new) (version_put c.args.version old new)
    (λ outside. (c.execute.ensures.ended outside).0) (rw (c.insert_text.ensures, c.params-to_sql.ensures, c.params-to_sql-2.ensures) at (c.execute.ensures.runs clean))

pub returns-clause-kept : goal.returns-clause-kept
returns-clause-kept g c clean =
    let old = state g.S.Store c.args.tx.now.conn.now in
    let new = state g.S.Store c.execute.new.self.conn.now in
    kept_inside old new (insert_text Meta) (cells (meta_row (codes "rbac") c.args.version)) c.execute.result
    (λ outside. subst (λ h. KeepsCommit old (state g.S.Store h)) (sym (c.execute.ensures.ended outside).1) (keeps_itself old))
    (rw (c.insert_text.ensures, c.params-to_sql.ensures, c.params-to_sql-2.ensures) at (c.execute.ensures.runs clean))
