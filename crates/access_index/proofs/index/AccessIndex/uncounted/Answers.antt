use Rattle.bit_tables.specs.Tables.{holds}
use Rattle.access_index.proofs.AuthorizedLaws.{row_authorized}
use Rattle.access_index.proofs.index.AccessIndex.uncounted.Goals as goal

pub returns-in-Ok : goal.returns-in-Ok
returns-in-Ok c = row_authorized c.args.self.now c.args.user.now (holds c.in-Some.assigned.now) c.in-Ok.row c.in-Some.ensures.some c.in-Ok.ensures
