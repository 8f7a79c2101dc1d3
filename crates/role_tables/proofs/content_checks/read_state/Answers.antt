use Rattle.sqlite.specs.Held.{state}
use Rattle.role_tables.proofs.Reading.Durability.{kept_as_before}
use Rattle.role_tables.proofs.content_checks.read_state.Goals as goal

pub returns-clause-undone : goal.returns-clause-undone
returns-clause-undone g c outside clean =
    kept_as_before (state g.S.Store c.args.conn.now) (state g.S.Store c.find_state-found.new.conn) (c.is_settled.ensures outside) (c.is_settled-2.ensures (c.find_state-found.ensures.mode outside)) (c.find_state-found.ensures.kept clean)
