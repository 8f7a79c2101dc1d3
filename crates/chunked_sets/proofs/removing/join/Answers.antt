use Rattle.std.proofs.Common.{◌≤◌, arith, add-one, set, length-set, vec_len, vec_capacity}
use Rattle.std.proofs.lemmas.Grind.{common_steps}
use Rattle.chunked_sets.proofs.Omitting.{joined}
use Rattle.chunked_sets.proofs.Rooms.{Leaves, grows_joined, room_kept}
use Rattle.chunked_sets.proofs.removing.join.Goals as goal

pub returns-then-len-le-JOINED-clause-same : goal.returns-then-len-le-JOINED-clause-same
returns-then-len-le-JOINED-clause-same g c =
    let removed = rw add-one at c.remove-next.ensures.items in
    let behind = rw add-one at c.remove-next.ensures.value in
    rw removed (joined c.args.chunks.now.items c.args.at c.index_mut.result.now c.remove-next.result c.append.new.self (omega arith) (rw removed at c.index_mut.ensures.value) behind
    (rw c.unwrap.ensures at c.append.ensures.items))

pub returns-then-len-le-JOINED-clause-room : goal.returns-then-len-le-JOINED-clause-room
returns-then-len-le-JOINED-clause-room g c = λ k room.
    let old = c.args.chunks.now in
    let rest = c.remove-next.new.self in
    let w = c.append.new.self in
    let now = set rest.items c.args.at w in
    let removed = rw add-one at c.remove-next.ensures.items in
    let behind = rw add-one at c.remove-next.ensures.value in
    let longer = rw c.unwrap.ensures at c.append.ensures.len in
    let fits : vec_len w ≤ 128 = grind (arith, common_steps) in
    let step : Leaves 0 old.items now (vec_capacity old) (vec_capacity rest) c.args.spare.now c.keep.new.spare = record {
      grows = rw removed (grows_joined old.items c.args.at c.index_mut.result.now c.remove-next.result w (omega arith) (rw removed at c.index_mut.ensures.value) behind longer fits);
      len = omega (arith, old.ok.0, rest.ok.0, length-set rest.items c.args.at w, c.remove-next.ensures.len);
      listed = omega (arith, c.remove-next.ensures.capacity);
      spare_len = omega (arith, c.keep.ensures.len);
      total = omega (arith, old.ok.0, rest.ok.0, length-set rest.items c.args.at w, c.remove-next.ensures.len, c.keep.ensures.kept);
      kept = c.keep.ensures.capacity;
    } in
    room_kept step k room
