use Rattle.std.proofs.Common.{sym}
use Rattle.csv.specs.Records.{fields_of}
use Rattle.role_csv.proofs.Fields.{is_header-other}
use Rattle.role_csv.proofs.reading.is_header.Goals as goal

pub returns-in-None : goal.returns-in-None
returns-in-None c = sym (is_header-other (fields_of c.args.row.now) c.in-None.ensures.none)
