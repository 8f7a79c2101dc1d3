use Rattle.std.proofs.Common.{◌≡◌, get_or, ap, sym, subst, ◌∙◌, arith}
use Rattle.rbac_sets.proofs.InOrder.{members-sorted, len-sorted}
use Rattle.chunked_sets.specs.Chunks.{entries_of}
use Rattle.chunked_sets.proofs.chunked_set.ChunkedSet.at.Goals as goal

pub entry_at-requires : goal.entry_at-requires
entry_at-requires g c =
    let size = len-sorted g.met.K.Ord.total _ c.self.invariant.2 in
    let below = rw (← c.self.view_is) at c.requires in
    rw c.deref.ensures.value (omega (arith, size, below))

pub returns : goal.returns
returns g c =
    let r = c.entry_at.result.now in
    rw (← c.self.view_is) (subst (λ l. r ≡ get_or l c.args.index r) (ap entries_of c.deref.ensures.value ∙ sym (members-sorted g.met.K.Ord.total _ c.self.invariant.2)) c.entry_at.ensures)
