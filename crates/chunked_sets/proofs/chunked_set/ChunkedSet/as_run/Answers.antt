use Rattle.std.proofs.Common.{◌≤◌, ◌^◌, length, ap, sym, ◌∙◌, arith}
use Rattle.std.proofs.lemmas.List.{append-nil}
use Rattle.rbac_sets.proofs.InOrder.{members-sorted}
use Rattle.chunked_sets.specs.Chunks.{entries_of}
use Rattle.chunked_sets.proofs.Sets.{counted}
use Rattle.chunked_sets.proofs.chunked_set.ChunkedSet.as_run.Goals as goal

pub new-requires : goal.new-requires
new-requires g c =
    let few : length c.self.inside.chunks.items ≤ 2 ^ 56 = omega (arith, c.self.invariant.4, c.self.inside.chunks.ok.0) in
    let most : length (entries_of c.self.inside.chunks.items) ≤ 2 ^ 63 = counted c.self.inside.chunks.items c.self.invariant.0 few in
    rw (append-nil (entries_of c.deref.result.now), c.deref.ensures.value) (omega (arith, most))

pub returns : goal.returns
returns g c =
    rw (← c.self.view_is) (c.new.ensures ∙ append-nil (entries_of c.deref.result.now) ∙ ap entries_of c.deref.ensures.value
    ∙ sym (members-sorted g.met.K.Ord.total _ c.self.invariant.2))
