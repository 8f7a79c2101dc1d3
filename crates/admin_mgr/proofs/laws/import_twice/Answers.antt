use Rattle.admin_mgr.proofs.Imports.ImportTwice.{import_twice}
use Rattle.admin_mgr.proofs.laws.import_twice.Goals as goal

pub returns : goal.returns
returns c = import_twice
