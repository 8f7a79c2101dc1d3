use Rattle.std.proofs.Common.{subst, sym}
use Rattle.admin_mgr.specs.RowChecks.{AreRowsOf}
use Rattle.admin_mgr.specs.RbacState.{RbacState}
use Rattle.access_index.specs.Index.{Indexes, IsSeeded}
use Rattle.role_lines.proofs.Results.{if_ok-kept, if_some-both, if_some-then}
use Rattle.role_lines.proofs.indexed.IndexedState.of_rows.Goals as goal

pub find_barred-requires : goal.find_barred-requires
find_barred-requires c =
    let stored = subst (AreRowsOf c.in_ok-state.state.facts) (sym c.deref.ensures.value) c.in_ok-state.ensures.ok.stored in
    if_some-then _ (λ index. (S : RbacState) → AreRowsOf S c.deref.result.now → Indexes index S) _ (λ index indexes. indexes c.in_ok-state.state.facts stored)
    (if_ok-kept _ _ _ c.ok-index.ensures.value c.of_rows.ensures.ok)

pub invariant_of-result : goal.invariant_of-result
invariant_of-result c =
    let seeded = if_ok-kept _ _ (λ index. IsSeeded index c.args.seed) c.ok-index.ensures.value c.of_rows.ensures.seeded in
    if_some-both _ _ _ c.find_barred.ensures.indexes (c.find_barred.ensures.seeded c.args.seed seeded)
