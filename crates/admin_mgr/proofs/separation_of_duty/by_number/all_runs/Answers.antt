use Rattle.std.proofs.lemmas.Iterator.{items_from_collect}
use Rattle.std.proofs.lemmas.Iterator.Consumers.{YieldsList-from_first}
use Rattle.admin_mgr.specs.private.Holders.{runs_left}
use Rattle.admin_mgr.proofs.separation_of_duty.by_number.all_runs.Goals as goal

pub returns : goal.returns
returns c = items_from_collect c.collect.result c.collect.ensures.ran (YieldsList-from_first (λ x. x) runs_left _ c.runs.ensures)
