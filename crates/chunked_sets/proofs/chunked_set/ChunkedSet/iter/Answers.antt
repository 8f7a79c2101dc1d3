use Rattle.std.proofs.Common.{ap, sym, ◌∙◌}
use Rattle.std.proofs.lemmas.List.{append-nil}
use Rattle.rbac_sets.proofs.InOrder.{members-sorted}
use Rattle.chunked_sets.specs.Chunks.{entries_of}
use Rattle.chunked_sets.proofs.chunked_set.ChunkedSet.iter.Goals as goal

pub returns : goal.returns
returns g c = rw (← c.self.view_is) (append-nil (entries_of c.deref.result.now) ∙ ap entries_of c.deref.ensures.value ∙ sym (members-sorted g.met.K.Ord.total _ c.self.invariant.2))
