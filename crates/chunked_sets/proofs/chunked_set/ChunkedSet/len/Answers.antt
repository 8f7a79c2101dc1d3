use Rattle.std.proofs.Common.{sym, ◌∙◌}
use Rattle.rbac_sets.proofs.InOrder.{len-sorted}
use Rattle.chunked_sets.proofs.chunked_set.ChunkedSet.len.Goals as goal

pub returns : goal.returns
returns g c = rw (← c.self.view_is) (c.self.invariant.3 ∙ sym (len-sorted g.met.K.Ord.total _ c.self.invariant.2))
