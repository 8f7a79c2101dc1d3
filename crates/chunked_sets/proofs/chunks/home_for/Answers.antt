use Rattle.std.proofs.Common.{arith, vec_capacity}
use Rattle.chunked_sets.proofs.Rooms.{room_to_split}
use Rattle.chunked_sets.proofs.chunks.home_for.Goals as goal

pub take_spare-upper-requires-clause-one : goal.take_spare-upper-requires-clause-one
take_spare-upper-requires-clause-one g c =
    let home = rw c.deref.ensures.value at c.chunk_of-at.ensures in
    let free = room_to_split c.args.chunks.now.items (vec_capacity c.args.chunks.now) c.args.spare.now c.chunk_of-at.result c.index.result.now home.within c.index.ensures
    (omega (arith, c.if-len-lt-CHUNK.false, c.len.ensures)) c.requires.room in
    omega (arith, free.0)

pub split_for-requires-clause-room : goal.split_for-requires-clause-room
split_for-requires-clause-room g c =
    let home = rw c.deref.ensures.value at c.chunk_of-at.ensures in
    let free = room_to_split c.args.chunks.now.items (vec_capacity c.args.chunks.now) c.args.spare.now c.chunk_of-at.result c.index.result.now home.within c.index.ensures
    (omega (arith, c.if-len-lt-CHUNK.false, c.len.ensures)) c.requires.room in
    omega (arith, free.1, c.args.chunks.now.ok.0)

pub returns-clause-few : goal.returns-clause-few
returns-clause-few g c =
    let home = rw c.deref.ensures.value at c.chunk_of-at.ensures in
    let free = room_to_split c.args.chunks.now.items (vec_capacity c.args.chunks.now) c.args.spare.now c.chunk_of-at.result c.index.result.now home.within c.index.ensures
    (omega (arith, c.if-len-lt-CHUNK.false, c.len.ensures)) c.requires.room in
    omega (arith, free.2, c.args.chunks.now.ok.0, c.split_for.ensures.len)
