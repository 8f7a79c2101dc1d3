use Rattle.std.proofs.Common.{◌≤◌, ◌^◌, length, ap, sym, ◌∙◌, arith, subst}
use Rattle.std.specs.Prelude.{count_by}
use Rattle.std.specs.Ordering.{is_lt}
use Rattle.rbac_sets.proofs.InOrder.{members-sorted}
use Rattle.chunked_sets.specs.Chunks.{entries_of}
use Rattle.chunked_sets.proofs.Sets.{counted}
use Rattle.chunked_sets.proofs.chunked_set.ChunkedSet.count_below.Goals as goal

pub count_below-requires-clause-few : goal.count_below-requires-clause-few
count_below-requires-clause-few g c =
    let few : length c.self.inside.chunks.items ≤ 2 ^ 56 = omega (arith, c.self.invariant.4, c.self.inside.chunks.ok.0) in
    rw c.deref.ensures.value (counted c.self.inside.chunks.items c.self.invariant.0 few)

pub returns-clause-count : goal.returns-clause-count
returns-clause-count g c =
    rw (← c.self.view_is) (c.count_below.ensures ∙ ap (count_by (λ y. is_lt (g.P.Prefix.place c.args.prefix y)))
    (ap entries_of c.deref.ensures.value ∙ sym (members-sorted g.met.K.Ord.total _ c.self.invariant.2)))

pub returns-clause-few : goal.returns-clause-few
returns-clause-few g c =
    let few : length c.self.inside.chunks.items ≤ 2 ^ 56 = omega (arith, c.self.invariant.4, c.self.inside.chunks.ok.0) in
    rw (← c.self.view_is) (subst (λ xs. length xs ≤ 2 ^ 63) (sym (members-sorted g.met.K.Ord.total _ c.self.invariant.2)) (counted c.self.inside.chunks.items c.self.invariant.0 few))
