use Rattle.std.proofs.Common.{◌≤◌, ◌^◌, length, arith}
use Rattle.chunked_sets.proofs.Sets.{counted}
use Rattle.chunked_sets.proofs.chunked_set.ChunkedSet.insert_reserved.Goals as goal

pub overflow_add-self : goal.overflow_add-self
overflow_add-self g c =
    let few : length c.self.inside.chunks.items ≤ 2 ^ 56 = omega (arith, c.self.invariant.4, c.self.inside.chunks.ok.0) in
    omega (arith, counted c.self.inside.chunks.items c.self.invariant.0 few, c.self.invariant.3)
