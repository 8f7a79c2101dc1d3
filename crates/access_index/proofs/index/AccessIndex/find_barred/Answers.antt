use Rattle.std.specs.Prelude.{Some}
use Rattle.access_index.specs.Index.{rows_of}
use Rattle.access_index.proofs.IndexLaws.{keeps_barred}
use Rattle.access_index.proofs.index.AccessIndex.find_barred.Goals as goal

pub returns-in-Ok-clause-indexes : goal.returns-in-Ok-clause-indexes
returns-in-Ok-clause-indexes c = keeps_barred c.barred_in.new.self (rows_of c.args.state.now.facts) (Some c.in-Ok.row) c.in-Ok.ensures.ok c.barred_in.ensures.keeps
