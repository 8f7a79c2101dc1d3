use Rattle.std.proofs.Common.{◌≤◌, ◌-◌, length, sym, subst, subst₂, arith, deque_capacity}
use Rattle.chunked_sets.specs.private.Rooms.{HasRoom}
use Rattle.chunked_sets.specs.private.Growth.{GrowsBy}
use Rattle.chunked_sets.specs.private.Passes.{in_order}
use Rattle.chunked_sets.proofs.Rooms.{room_to_split}
use Rattle.chunked_sets.proofs.Passing.{order_get, order_within, order_length}
use Rattle.chunked_sets.proofs.pass.make_space.Goals as goal

pub take_spare-upper-requires-clause-one : goal.take_spare-upper-requires-clause-one
take_spare-upper-requires-clause-one g c =
    let pass = c.seek.new.pass in
    let ring = pass.ring.items in
    let first = c.args.pass.now in
    let found = c.seek.ensures in
    let order = in_order pass.ahead ring pass.current in
    let le : pass.ahead ≤ length ring = omega (arith, found.ahead, pass.ring.ok.0) in
    let room = subst₂ (λ l capacity. HasRoom 1 l capacity c.args.spare.now) (sym found.same) (sym found.capacity) c.requires.room in
    let free = room_to_split order (deque_capacity pass.ring) c.args.spare.now (length ring - pass.ahead) pass.current (order_within ring pass.ahead pass.current le)
    (sym (order_get ring pass.ahead pass.current le pass.current)) (omega (arith, c.if-len-eq-CHUNK.true, c.len.ensures)) room in
    let size = order_length ring pass.ahead pass.current le in
    omega (arith, free.0)

pub returns-then-len-eq-CHUNK-clause-weight : goal.returns-then-len-eq-CHUNK-clause-weight
returns-then-len-eq-CHUNK-clause-weight g c =
    let new = c.split.new.pass in
    subst (λ l. GrowsBy 0 l (in_order new.ahead new.ring.items new.current)) c.seek.ensures.same c.split.ensures.weight

pub returns-then-len-eq-CHUNK-clause-listed : goal.returns-then-len-eq-CHUNK-clause-listed
returns-then-len-eq-CHUNK-clause-listed g c =
    let pass = c.seek.new.pass in
    let ring = pass.ring.items in
    let first = c.args.pass.now in
    let found = c.seek.ensures in
    let order = in_order pass.ahead ring pass.current in
    let le : pass.ahead ≤ length ring = omega (arith, found.ahead, pass.ring.ok.0) in
    let room = subst₂ (λ l capacity. HasRoom 1 l capacity c.args.spare.now) (sym found.same) (sym found.capacity) c.requires.room in
    let free = room_to_split order (deque_capacity pass.ring) c.args.spare.now (length ring - pass.ahead) pass.current (order_within ring pass.ahead pass.current le)
    (sym (order_get ring pass.ahead pass.current le pass.current)) (omega (arith, c.if-len-eq-CHUNK.true, c.len.ensures)) room in
    let size = order_length ring pass.ahead pass.current le in
    omega (arith, free.1, size, pass.ring.ok.0, c.split.ensures.len, c.split.ensures.capacity)

pub returns-then-len-eq-CHUNK-clause-few : goal.returns-then-len-eq-CHUNK-clause-few
returns-then-len-eq-CHUNK-clause-few g c =
    let pass = c.seek.new.pass in
    let ring = pass.ring.items in
    let first = c.args.pass.now in
    let found = c.seek.ensures in
    let order = in_order pass.ahead ring pass.current in
    let le : pass.ahead ≤ length ring = omega (arith, found.ahead, pass.ring.ok.0) in
    let room = subst₂ (λ l capacity. HasRoom 1 l capacity c.args.spare.now) (sym found.same) (sym found.capacity) c.requires.room in
    let free = room_to_split order (deque_capacity pass.ring) c.args.spare.now (length ring - pass.ahead) pass.current (order_within ring pass.ahead pass.current le)
    (sym (order_get ring pass.ahead pass.current le pass.current)) (omega (arith, c.if-len-eq-CHUNK.true, c.len.ensures)) room in
    let size = order_length ring pass.ahead pass.current le in
    omega (arith, free.2, size, pass.ring.ok.0, c.split.ensures.len)
