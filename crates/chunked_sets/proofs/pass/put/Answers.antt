use Rattle.std.proofs.Common.{◌≡◌, ◌<◌, ◌≤◌, ◌-◌, deque_capacity, false, length, set, ap, sym, subst, ◌∙◌, arith, Global}
use Rattle.std.specs.Vec.{vec_len, vec_capacity}
use Rattle.std.specs.declared.vec.Vec.{Vec}
use Rattle.std.specs.List.Sorted.{IsStrictlySortedBy}
use Rattle.rbac_sets.specs.Sets.{contains, insert, from_list}
use Rattle.rbac_sets.proofs.InOrder.{is_err-search}
use Rattle.chunked_sets.specs.Chunks.{entries_of}
use Rattle.chunked_sets.specs.private.Chunks.{AreChunks}
use Rattle.chunked_sets.specs.private.Passes.{in_order}
use Rattle.chunked_sets.proofs.ChunkLists.{each_of, all_of, each_set}
use Rattle.chunked_sets.proofs.Inserting.{inserts_sorted, inserts_set, inserts_put, sorted_chunk, absent_chunk}
use Rattle.chunked_sets.specs.private.Growth.{GrowsBy}
use Rattle.chunked_sets.proofs.Rooms.{Leaves, grows_on, grows_set, room_after}
use Rattle.chunked_sets.proofs.Passing.{order_get, order_set, order_within, order_length}
use Rattle.chunked_sets.proofs.pass.put.Goals as goal

pub place-requires : goal.place-requires
place-requires g c =
    let pass = c.make_space.new.pass in
    let ring = pass.ring.items in
    let order = in_order pass.ahead ring pass.current in
    let at = length ring - pass.ahead in
    let v = pass.current in
    let le : pass.ahead ≤ length ring = omega (arith, c.make_space.ensures.ahead, pass.ring.ok.0) in
    let there = sym (order_get ring pass.ahead v le v) in
    let within = order_within ring pass.ahead v le in
    let sorted : IsStrictlySortedBy g.K.Ord.cmp (entries_of order) = subst (IsStrictlySortedBy g.K.Ord.cmp) (sym c.make_space.ensures.same) c.requires.sorted in
    rw c.deref.ensures.value (sorted_chunk order at v within there g.K.Ord.cmp sorted)

pub unwrap_err-gap-requires : goal.unwrap_err-gap-requires
unwrap_err-gap-requires g c =
    let pass = c.make_space.new.pass in
    let ring = pass.ring.items in
    let order = in_order pass.ahead ring pass.current in
    let at = length ring - pass.ahead in
    let v = pass.current in
    let le : pass.ahead ≤ length ring = omega (arith, c.make_space.ensures.ahead, pass.ring.ok.0) in
    let there = sym (order_get ring pass.ahead v le v) in
    let within = order_within ring pass.ahead v le in
    let absent : contains (from_list {R = g.K.Ord.cmp} (entries_of order)) c.args.entry ≡ false = subst (λ l. contains (from_list {R = g.K.Ord.cmp} l) c.args.entry ≡ false)
    (sym c.make_space.ensures.same) c.requires.absent in
    is_err-search g.met.K.Ord.total _ _ _ (absent_chunk order at v within there g.met.K.Ord.total c.args.entry absent) (rw c.deref.ensures.value at c.place.ensures.found)

pub unwrap-requires : goal.unwrap-requires
unwrap-requires g c =
    let pass = c.make_space.new.pass in
    let ring = pass.ring.items in
    let order = in_order pass.ahead ring pass.current in
    let at = length ring - pass.ahead in
    let v = pass.current in
    let le : pass.ahead ≤ length ring = omega (arith, c.make_space.ensures.ahead, pass.ring.ok.0) in
    let there = sym (order_get ring pass.ahead v le v) in
    let within = order_within ring pass.ahead v le in
    let memory : 128 ≤ vec_capacity v = subst (λ (chunk : Vec g.row.K.Denot Global). 128 ≤ vec_capacity chunk) (sym there) (c.make_space.ensures.chunks at v within).2 in
    c.insert.ensures.succeeds (omega (arith, memory, c.make_space.ensures.free))

pub returns-clause-chunks : goal.returns-clause-chunks
returns-clause-chunks g c =
    let pass = c.make_space.new.pass in
    let ring = pass.ring.items in
    let order = in_order pass.ahead ring pass.current in
    let at = length ring - pass.ahead in
    let v = pass.current in
    let le : pass.ahead ≤ length ring = omega (arith, c.make_space.ensures.ahead, pass.ring.ok.0) in
    let there = sym (order_get ring pass.ahead v le v) in
    let within = order_within ring pass.ahead v le in
    let memory : 128 ≤ vec_capacity v = subst (λ (chunk : Vec g.row.K.Denot Global). 128 ≤ vec_capacity chunk) (sym there) (c.make_space.ensures.chunks at v within).2 in
    let w = c.insert.new.self in
    let P = λ (chunk : Vec g.row.K.Denot Global). (0 < vec_len chunk) × (vec_len chunk ≤ 128) × (128 ≤ vec_capacity chunk) in
    let longer = rw c.unwrap.ensures at c.insert.ensures.len in
    let is = order_set ring pass.ahead v le w in
    subst AreChunks is (all_of P (set order at w) (each_set P order at w (each_of P order c.make_space.ensures.chunks)
    (omega (arith, longer), omega (arith, longer, c.make_space.ensures.free), omega (arith, memory, c.insert.ensures.capacity))))

pub returns-clause-sorted : goal.returns-clause-sorted
returns-clause-sorted g c =
    let pass = c.make_space.new.pass in
    let ring = pass.ring.items in
    let order = in_order pass.ahead ring pass.current in
    let at = length ring - pass.ahead in
    let v = pass.current in
    let le : pass.ahead ≤ length ring = omega (arith, c.make_space.ensures.ahead, pass.ring.ok.0) in
    let there = sym (order_get ring pass.ahead v le v) in
    let within = order_within ring pass.ahead v le in
    let sorted : IsStrictlySortedBy g.K.Ord.cmp (entries_of order) = subst (IsStrictlySortedBy g.K.Ord.cmp) (sym c.make_space.ensures.same) c.requires.sorted in
    let gap = rw (c.deref.ensures.value, c.unwrap_err-gap.ensures) at c.place.ensures.gap in
    let w = c.insert.new.self in
    let inserts = inserts_put order at v within there g.K.Ord.cmp c.args.entry w _ c.make_space.ensures.home gap.0 gap.1 (rw c.unwrap.ensures at c.insert.ensures.items) in
    subst (λ l. IsStrictlySortedBy g.K.Ord.cmp (entries_of l)) (order_set ring pass.ahead v le w) (inserts_sorted g.met.K.Ord.total c.args.entry _ _ inserts sorted)

pub returns-clause-inserted : goal.returns-clause-inserted
returns-clause-inserted g c =
    let pass = c.make_space.new.pass in
    let ring = pass.ring.items in
    let order = in_order pass.ahead ring pass.current in
    let at = length ring - pass.ahead in
    let v = pass.current in
    let le : pass.ahead ≤ length ring = omega (arith, c.make_space.ensures.ahead, pass.ring.ok.0) in
    let there = sym (order_get ring pass.ahead v le v) in
    let within = order_within ring pass.ahead v le in
    let gap = rw (c.deref.ensures.value, c.unwrap_err-gap.ensures) at c.place.ensures.gap in
    let w = c.insert.new.self in
    let inserts = inserts_put order at v within there g.K.Ord.cmp c.args.entry w _ c.make_space.ensures.home gap.0 gap.1 (rw c.unwrap.ensures at c.insert.ensures.items) in
    ap (λ l. from_list {R = g.K.Ord.cmp} (entries_of l)) (sym (order_set ring pass.ahead v le w)) ∙ inserts_set g.met.K.Ord.total g.met.K.Entry.exact c.args.entry _ _ inserts
    ∙ ap (λ l. insert (from_list {R = g.K.Ord.cmp} l) c.args.entry) c.make_space.ensures.same

pub returns-clause-room : goal.returns-clause-room
returns-clause-room g c =
    let first = c.args.pass.now in
    let old = in_order first.ahead first.ring.items first.current in
    let made = c.make_space.ensures in
    let pass = c.make_space.new.pass in
    let ring = pass.ring.items in
    let order = in_order pass.ahead ring pass.current in
    let at = length ring - pass.ahead in
    let v = pass.current in
    let le : pass.ahead ≤ length ring = omega (arith, made.ahead, pass.ring.ok.0) in
    let le_first : first.ahead ≤ length first.ring.items = omega (arith, c.requires.ahead, first.ring.ok.0) in
    let there = sym (order_get ring pass.ahead v le v) in
    let within = order_within ring pass.ahead v le in
    let w = c.insert.new.self in
    let new = in_order pass.ahead ring w in
    let longer = rw c.unwrap.ensures at c.insert.ensures.len in
    let more = subst (GrowsBy 1 order) (order_set ring pass.ahead v le w) (grows_set 1 order at v w within there (omega (arith, longer))) in
    let before = order_length first.ring.items first.ahead first.current le_first in
    let after = order_length ring pass.ahead w le in
    let step : Leaves 1 old new (deque_capacity first.ring) (deque_capacity pass.ring) c.args.spare.now c.make_space.new.spare = record {
      grows = grows_on 1 old order new made.weight more;
      len = omega (arith, before, after, made.len, first.ring.ok.0, pass.ring.ok.0);
      listed = omega (arith, made.capacity);
      spare_len = omega (arith, made.total, made.len);
      total = omega (arith, before, after, made.total, first.ring.ok.0, pass.ring.ok.0);
      kept = omega (arith, made.spare_capacity);
    } in
    room_after step
