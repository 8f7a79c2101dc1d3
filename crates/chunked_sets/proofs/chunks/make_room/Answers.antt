use Rattle.std.proofs.Common.{◌≤◌, ◌+◌, ◌-◌, ◌⊎◌, length, vec_len, vec_capacity, ap, sym, subst, ◌∙◌, arith}
use Rattle.std.proofs.lemmas.Result.{on_ok_weaker}
use Rattle.chunked_sets.specs.private.Rooms.{IsLight, HasRoom}
use Rattle.chunked_sets.proofs.Rooms.{room_wider, room_for_each, room_for_all}
use Rattle.chunked_sets.proofs.chunks.make_room.Goals as goal

pub returns-then-more-count-clause-ok : goal.returns-then-more-count-clause-ok
returns-then-more-count-clause-ok g c =
    let count = c.args.count in
    let old = c.args.chunks.now in
    let now = c.reserve.new.self in
    let spare = c.add_spare.new.spare in
    let each = c.if-more-count.true in
    let make : c.enough_for-most.result - c.len-2.result ≤ vec_len spare → HasRoom count now.items (vec_capacity now) spare = λ free.
    room_for_each count now.items (vec_capacity now) spare (omega (arith, each, now.ok.0, c.in_ok-reserve.ensures.ok))
    (omega (arith, now.ok.0, c.reserve.ensures.len, c.if-count-len.false, c.len.ensures, c.requires.few)) (omega (arith, each, free)) in
    on_ok_weaker c.add_spare.result make c.add_spare.ensures.ok

pub returns-then-more-count-clause-room : goal.returns-then-more-count-clause-room
returns-then-more-count-clause-room g c =
    let old = c.args.chunks.now in
    let now = c.reserve.new.self in
    let added = c.add_spare.ensures in
    room_wider old.items now.items (vec_capacity old) (vec_capacity now) c.args.spare.now c.add_spare.new.spare c.reserve.ensures.items c.reserve.ensures.capacity added.len added.capacity

pub returns-in_err-reserve-2-clause-room : goal.returns-in_err-reserve-2-clause-room
returns-in_err-reserve-2-clause-room g c =
    let old = c.args.chunks.now in
    let now = c.reserve.new.self in
    room_wider old.items now.items (vec_capacity old) (vec_capacity now) c.args.spare.now c.reserve-2.new.self c.reserve.ensures.items c.reserve.ensures.capacity
    (omega (arith, c.reserve-2.ensures.len)) c.reserve-2.ensures.capacity

pub returns-clause-ok : goal.returns-clause-ok
returns-clause-ok g c =
    let count = c.args.count in
    let most = c.enough_for-most.result in
    let old = c.args.chunks.now in
    let now = c.reserve.new.self in
    let spare = c.add_spare-2.new.spare in
    let value = c.deref.ensures.value in
    let same = value ∙ sym c.reserve.ensures.items in
    let enough = subst (λ l. (length l + count ≤ most) ⊎ IsLight count l most) same c.enough_for-most.ensures.enough in
    let make : most - c.len-2.result ≤ vec_len spare → HasRoom count now.items (vec_capacity now) spare = λ free.
    room_for_all count most now.items (vec_capacity now) spare enough
    (omega (arith, now.ok.0, c.in_ok-reserve.ensures.ok, c.reserve.ensures.len, c.len-2.ensures))
    (omega (arith, ap length value, old.ok.0, c.enough_for-most.ensures.fewer, c.if-count-len.false, c.len.ensures, c.requires.few))
    (omega (arith, free, now.ok.0, c.reserve.ensures.len, c.len-2.ensures))
    (omega (arith, c.in_ok-reserve-2.ensures.ok, c.add_spare-2.ensures.capacity)) in
    on_ok_weaker c.add_spare-2.result make c.add_spare-2.ensures.ok

pub returns-clause-room : goal.returns-clause-room
returns-clause-room g c =
    let old = c.args.chunks.now in
    let now = c.reserve.new.self in
    room_wider old.items now.items (vec_capacity old) (vec_capacity now) c.args.spare.now c.add_spare-2.new.spare c.reserve.ensures.items c.reserve.ensures.capacity
    (omega (arith, c.reserve-2.ensures.len, c.add_spare-2.ensures.len)) (omega (arith, c.reserve-2.ensures.capacity, c.add_spare-2.ensures.capacity))
