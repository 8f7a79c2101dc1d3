use Rattle.sqlite.specs.Held.{state}
use Rattle.role_tables.proofs.Runs.{recovers_run}
use Rattle.role_tables.proofs.laws.recovers.Goals as goal

pub returns : goal.returns
returns g c = recovers_run (state g.S.Store) (state g.S.Store c.args.conn.now) c.reopened.ensures c.lives.ensures.last
