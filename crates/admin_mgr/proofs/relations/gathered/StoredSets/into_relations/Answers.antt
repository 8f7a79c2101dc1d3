use Rattle.std.proofs.Common.{subst}
use Rattle.admin_mgr.specs.StoredSets.{StoredSets}
use Rattle.admin_mgr.specs.StoredSetsView.{stored_sets_of}
use Rattle.admin_mgr.proofs.StoredRows.TestLaws.{RefusesOrder, order_refused}
use Rattle.admin_mgr.proofs.relations.gathered.StoredSets.into_relations.Goals as goal

pub returns-in-Err-clause-err : goal.returns-in-Err-clause-err
returns-in-Err-clause-err c =
    let told = c.in-Err.ensures in
    rw c.give_up.ensures (subst (λ (g : StoredSets). RefusesOrder g c.in-Err.refusal) c.self.view_is
    (order_refused (stored_sets_of c.self.inside) c.in-Err.refusal told.only told.cycle told.differ))
