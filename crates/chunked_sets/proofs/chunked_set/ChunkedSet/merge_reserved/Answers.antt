use Rattle.std.proofs.Common.{◌≤◌, ◌^◌, length, vec_len, vec_capacity, arith}
use Rattle.chunked_sets.proofs.Rooms.{room_less}
use Rattle.chunked_sets.proofs.Sets.{counted}
use Rattle.chunked_sets.proofs.chunked_set.ChunkedSet.merge_reserved.Goals as goal

pub overflow_add-self : goal.overflow_add-self
overflow_add-self g c =
    let few : length c.self.inside.chunks.items ≤ 2 ^ 56 = omega (arith, c.self.invariant.4, c.self.inside.chunks.ok.0) in
    omega (arith, counted c.self.inside.chunks.items c.self.invariant.0 few, c.self.invariant.3, c.len.ensures, c.args.others.small)

pub merge_into-requires-clause-room : goal.merge_into-requires-clause-room
merge_into-requires-clause-room g c =
    let inside = c.self.inside in
    let enough = rw (← c.self.view_is) at c.requires.room in
    rw c.replace-chunks.ensures.value (room_less (vec_len c.args.others) inside.room inside.chunks.items (vec_capacity inside.chunks) inside.spare enough c.self.invariant.5)
