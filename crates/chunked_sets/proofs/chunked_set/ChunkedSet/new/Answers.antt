use Rattle.std.proofs.Common.{◌≡◌, ◌≤◌, ◌<◌, ap, sym, arith, length, Global}
use Rattle.std.specs.Vec.{vec_len, vec_capacity}
use Rattle.std.specs.declared.vec.Vec.{Vec}
use Rattle.rbac_sets.specs.Sets.{from_list}
use Rattle.chunked_sets.specs.Chunks.{entries_of}
use Rattle.chunked_sets.proofs.ChunkLists.{sorted_nil}
use Rattle.chunked_sets.proofs.Rooms.{room_none}
use Rattle.chunked_sets.proofs.Sets.{none_in}
use Rattle.chunked_sets.proofs.chunked_set.ChunkedSet.new.Goals as goal

pub invariant_of-result : goal.invariant_of-result
invariant_of-result g c = (
  none_in (λ (chunk : Vec g.row.K.Denot Global). (0 < vec_len chunk) × (vec_len chunk ≤ 128) × (128 ≤ vec_capacity chunk)) _ c.new.ensures.items,
  none_in (λ (chunk : Vec g.row.K.Denot Global). (vec_len chunk ≡ 0) × (128 ≤ vec_capacity chunk)) _ c.new-2.ensures.items,
  rw c.new.ensures.items (sorted_nil g.K.Ord.cmp),
  sym (ap (λ chunks. length (entries_of chunks)) c.new.ensures.items),
  omega (arith, c.new.ensures.len),
  room_none c.new.result.items (vec_capacity c.new.result) c.new-2.result (omega (arith, ap length c.new.ensures.items)) (omega (arith, ap length c.new.ensures.items)),
)

pub returns : goal.returns
unfolding from_list
returns g c = ap (λ chunks. from_list {R = g.K.Ord.cmp} (entries_of chunks)) c.new.ensures.items
