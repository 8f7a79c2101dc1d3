use Rattle.sqlite.specs.Held.{state}
use Rattle.role_cli.proofs.Served.{served_are_accepted}
use Rattle.role_cli.proofs.laws.served_are_accepted.Goals as goal

pub returns : goal.returns
returns g c = served_are_accepted (state g.S.Store)
