use Rattle.std.proofs.Common.{◌≤◌, ◌^◌, length, filter, ap, sym, ◌∙◌, arith}
use Rattle.std.specs.Ordering.{is_eq}
use Rattle.rbac_sets.proofs.InOrder.{members-sorted}
use Rattle.chunked_sets.specs.Chunks.{entries_of}
use Rattle.chunked_sets.proofs.Sets.{counted}
use Rattle.chunked_sets.proofs.chunked_set.ChunkedSet.with_first.Goals as goal

pub run_of-requires-clause-few : goal.run_of-requires-clause-few
run_of-requires-clause-few g c =
    let few : length c.self.inside.chunks.items ≤ 2 ^ 56 = omega (arith, c.self.invariant.4, c.self.inside.chunks.ok.0) in
    rw c.deref.ensures.value (counted c.self.inside.chunks.items c.self.invariant.0 few)

pub returns : goal.returns
returns g c =
    rw (← c.self.view_is) (c.run_of.ensures ∙ ap (filter (λ y. is_eq (g.P.Prefix.place c.args.prefix y)))
    (ap entries_of c.deref.ensures.value ∙ sym (members-sorted g.met.K.Ord.total _ c.self.invariant.2)))
