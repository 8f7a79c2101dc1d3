use Rattle.std.proofs.Common.{◌<◌, ◌≤◌, length, set, arith, subst, sym, length-set, Global}
use Rattle.std.specs.Vec.{vec_len, vec_capacity}
use Rattle.std.specs.declared.vec.Vec.{Vec}
use Rattle.chunked_sets.proofs.Omitting.{removed_inside, removed_whole}
use Rattle.chunked_sets.proofs.Rooms.{Leaves, grows_set, grows_removed, room_kept}
use Rattle.chunked_sets.proofs.removing.take_out.Goals as goal

pub returns-then-len-gt1-clause-out : goal.returns-then-len-gt1-clause-out
returns-then-len-gt1-clause-out g c =
    let v = c.index_mut.result.now in
    let there = c.index_mut.ensures.value in
    let found : c.args.found < vec_len v = subst (λ (chunk : Vec g.row.K.Denot Global). c.args.found < vec_len chunk) (sym there) (c.requires.inside v) in
    removed_inside c.args.chunks.now.items c.args.at v c.args.found (omega arith) there (omega (arith, found, v.ok.0)) c.remove.new.self c.remove.ensures.items

pub returns-clause-out : goal.returns-clause-out
returns-clause-out g c =
    let v = c.index.result.now in
    let there = c.index.ensures in
    let found : c.args.found < vec_len v = subst (λ (chunk : Vec g.row.K.Denot Global). c.args.found < vec_len chunk) (sym there) (c.requires.inside v) in
    let few : length v.items ≤ 1 = omega (arith, v.ok.0, c.if-len-gt1.false, c.len.ensures) in
    rw c.remove-chunk.ensures.items (removed_whole c.args.chunks.now.items c.args.at v c.args.found (omega arith) there (omega (arith, found, v.ok.0)) few)

pub returns-then-len-gt1-clause-room : goal.returns-then-len-gt1-clause-room
returns-then-len-gt1-clause-room g c = λ k room.
    let old = c.args.chunks.now in
    let w = c.remove.new.self in
    let step : Leaves 0 old.items (set old.items c.args.at w) (vec_capacity old) (vec_capacity old) c.args.spare.now c.args.spare.now = record {
      grows = grows_set 0 old.items c.args.at c.index_mut.result.now w (omega (arith, old.ok.0)) c.index_mut.ensures.value (omega (arith, c.remove.ensures.len));
      len = omega (arith, length-set old.items c.args.at w);
      listed = omega arith;
      spare_len = omega arith;
      total = omega (arith, length-set old.items c.args.at w);
      kept = omega arith;
    } in
    room_kept step k room

pub returns-clause-room : goal.returns-clause-room
returns-clause-room g c = λ k room.
    let old = c.args.chunks.now in
    let rest = c.remove-chunk.new.self in
    let removed = c.remove-chunk.ensures.items in
    let step : Leaves 0 old.items rest.items (vec_capacity old) (vec_capacity rest) c.args.spare.now c.keep.new.spare = record {
      grows = rw removed (grows_removed old.items c.args.at c.index.result.now (omega (arith, old.ok.0)) c.index.ensures);
      len = omega (arith, old.ok.0, rest.ok.0, c.remove-chunk.ensures.len);
      listed = omega (arith, c.remove-chunk.ensures.capacity);
      spare_len = omega (arith, c.keep.ensures.len);
      total = omega (arith, old.ok.0, rest.ok.0, c.remove-chunk.ensures.len, c.keep.ensures.kept);
      kept = c.keep.ensures.capacity;
    } in
    room_kept step k room
