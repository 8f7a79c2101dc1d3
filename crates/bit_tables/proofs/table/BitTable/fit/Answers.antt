use Rattle.std.proofs.Common.{ap}
use Rattle.bit_tables.specs.Tables.{is_held}
use Rattle.bit_tables.proofs.ByName.{same_by_text}
use Rattle.bit_tables.proofs.table.BitTable.fit.Goals as goal

pub returns-clause-same : goal.returns-clause-same
returns-clause-same c name n = ap (λ o. is_held o n) (same_by_text c.args.self.now.rows.entries c.shrink_to_fit.new.self.entries c.shrink_to_fit.ensures.entries.2 name)
