use Rattle.sqlite.specs.Held.{state}
use Rattle.role_cli.proofs.Beginning.{none_begins}
use Rattle.role_cli.proofs.laws.refused_work.Goals as goal

pub returns : goal.returns
returns g c = none_begins c.refused_openings.ensures.none (state g.S.Store)
