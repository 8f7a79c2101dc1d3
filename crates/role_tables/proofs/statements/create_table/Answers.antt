use Rattle.std.proofs.Common.{◌∷◌, [], sym, subst}
use Rattle.sqlite.specs.Held.{state}
use Rattle.sqlite.specs.State.{KeepsCommit}
use Rattle.role_tables.specs.private.CreationSteps.{StageAfter}
use Rattle.role_tables.specs.private.Texts.{create_text}
use Rattle.role_tables.proofs.OfficeTables.Staging.{stage_created}
use Rattle.role_tables.proofs.StoredRows.Texts.{made_inside, kept_inside, keeps_itself}
use Rattle.role_tables.proofs.statements.create_table.Goals as goal

pub returns-clause-made : goal.returns-clause-made
returns-clause-made g c clean =
    let old = state g.S.Store c.args.tx.now.conn.now in
    let new = state g.S.Store c.execute.new.self.conn.now in
    made_inside old new (create_text c.args.table) [] c.execute.result (StageAfter old new (c.args.table ∷ [])) (λ count ran _ mode. stage_created c.args.table old new count ran mode)
    (λ outside. (c.execute.ensures.ended outside).0) (rw c.create_text.ensures at (c.execute.ensures.runs clean))

pub returns-clause-kept : goal.returns-clause-kept
returns-clause-kept g c clean =
    let old = state g.S.Store c.args.tx.now.conn.now in
    let new = state g.S.Store c.execute.new.self.conn.now in
    kept_inside old new (create_text c.args.table) [] c.execute.result
    (λ outside. subst (λ h. KeepsCommit old (state g.S.Store h)) (sym (c.execute.ensures.ended outside).1) (keeps_itself old)) (rw c.create_text.ensures at (c.execute.ensures.runs clean))
