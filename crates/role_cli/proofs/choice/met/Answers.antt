use Rattle.role_cli.proofs.Getters.{joined}
use Rattle.role_cli.proofs.choice.met.Goals as goal

pub returns : goal.returns
returns c = joined _ _ _ _ _ _ c.subcommand.ensures.name c.subcommand.ensures.rows
