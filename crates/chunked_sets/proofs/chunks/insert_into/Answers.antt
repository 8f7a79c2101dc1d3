use Rattle.std.proofs.Common.{◌≡◌, length, sym, ◌∙◌, arith, vec_capacity}
use Rattle.std.proofs.lemmas.Bool.{eqb-true}
use Rattle.chunked_sets.proofs.ChunkLists.{sorted_one}
use Rattle.chunked_sets.proofs.Rooms.{Leaves, grows_on, room_after}
use Rattle.chunked_sets.proofs.Sets.{begun}
use Rattle.chunked_sets.proofs.chunks.insert_into.Goals as goal

pub returns-then-is_empty-clause-sorted : goal.returns-then-is_empty-clause-sorted
returns-then-is_empty-clause-sorted g c = rw c.begin.ensures.entries (sorted_one g.K.Ord.cmp c.args.entry)

pub returns-then-is_empty-clause-inserted : goal.returns-then-is_empty-clause-inserted
returns-then-is_empty-clause-inserted g c =
    let nothing = eqb-true _ 0 (sym c.is_empty.ensures ∙ c.if-is_empty.true) in
    let none : length c.args.chunks.now.items ≡ 0 = omega (arith, nothing, c.args.chunks.now.ok.0) in
    begun c.args.entry c.args.chunks.now.items c.begin.new.chunks.items none c.begin.ensures.entries

pub returns-then-is_empty-clause-room : goal.returns-then-is_empty-clause-room
returns-then-is_empty-clause-room g c =
    let old = c.args.chunks.now in
    let new = c.begin.new.chunks in
    let taken = c.take_spare-chunk.ensures in
    let nothing = eqb-true _ 0 (sym c.is_empty.ensures ∙ c.if-is_empty.true) in
    let step : Leaves 1 old.items new.items (vec_capacity old) (vec_capacity new) c.args.spare.now c.take_spare-chunk.new.spare = record {
      grows = c.begin.ensures.weight;
      len = omega (arith, new.ok.0, c.begin.ensures.len);
      listed = c.begin.ensures.capacity;
      spare_len = omega (arith, taken.len);
      total = omega (arith, nothing, old.ok.0, new.ok.0, c.begin.ensures.len, taken.len);
      kept = omega (arith, taken.capacity);
    } in
    room_after step

pub returns-clause-room : goal.returns-clause-room
returns-clause-room g c =
    let old = c.args.chunks.now in
    let mid = c.home_for-at.new.chunks in
    let new = c.put_in.new.chunks in
    let found = c.home_for-at.ensures in
    let put = c.put_in.ensures in
    let step : Leaves 1 old.items new.items (vec_capacity old) (vec_capacity new) c.args.spare.now c.home_for-at.new.spare = record {
      grows = grows_on 1 old.items mid.items new.items found.weight put.weight;
      len = omega (arith, old.ok.0, new.ok.0, put.len, found.len);
      listed = omega (arith, put.capacity, found.capacity);
      spare_len = omega (arith, found.len, found.total);
      total = omega (arith, old.ok.0, new.ok.0, put.len, found.total);
      kept = omega (arith, found.spare_capacity);
    } in
    room_after step
