use Rattle.role_cli.proofs.CsvText.{start_decides}
use Rattle.role_cli.proofs.laws.a_start_decides.Goals as goal

pub returns : goal.returns
returns c = start_decides
