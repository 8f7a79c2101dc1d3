use Rattle.std.proofs.Common.{sym, subst}
use Rattle.access_index.specs.Index.{Indexes}
use Rattle.role_lines.proofs.indexed.IndexedState.empty.Goals as goal

pub invariant_of-result : goal.invariant_of-result
invariant_of-result c = (subst (Indexes c.empty-2.result) (sym c.empty.ensures) (c.empty-2.ensures.state 2), c.empty-2.ensures.seeded)
