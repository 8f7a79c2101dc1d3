use Rattle.std.proofs.Common.{◌≡◌, ◌+◌, [], sym, subst, arith, vec_len, vec_capacity, deque_len}
use Rattle.std.proofs.lemmas.List.{nil_from_length}
use Rattle.chunked_sets.specs.Chunks.{entries_of}
use Rattle.chunked_sets.proofs.Merges.{Remains, remains_first, remains_absent, remains_more, remains_none}
use Rattle.chunked_sets.proofs.Rooms.{room_less}
use Rattle.chunked_sets.proofs.pass.insert_each.Goals as goal

pub loop-entry-init : goal.loop-entry-init
loop-entry-init g c =
    let first = entries_of c.args.chunks.items in
    record {
      chunks = c.requires.chunks;
      sorted = c.requires.sorted;
      remains = subst (Remains g.K.Ord.cmp first c.args.others.items first) (sym c.from_vec-rest.ensures.items)
          (remains_first g.met.K.Ord.total g.met.K.Entry.exact first c.args.others.items c.requires.others_sorted c.requires.disjoint);
      few = c.requires.few;
      spare = c.requires.spare;
      room = λ k room. room_less (k + deque_len c.from_vec-rest.result) (k + vec_len c.args.others) c.args.chunks.items (vec_capacity c.args.chunks) c.args.spare.now (omega arith) room;
    }

pub insert_into-requires-clause-absent : goal.insert_into-requires-clause-absent
insert_into-requires-clause-absent g c =
    let now = entries_of c.loop-entry.all.items in
    remains_absent g.met.K.Ord.total g.met.K.Entry.exact (entries_of c.args.chunks.items) c.args.others.items now c.pop_front.new.self.items c.in-Some.entry
    (subst (Remains g.K.Ord.cmp (entries_of c.args.chunks.items) c.args.others.items now) c.in-Some.ensures.items c.loop-entry.invariant.remains)

pub insert_into-requires-clause-room : goal.insert_into-requires-clause-room
insert_into-requires-clause-room g c =
    let all = c.args.others in
    let now = c.loop-entry in
    let left = now.invariant.room 0 (room_less (0 + vec_len all) (vec_len all) c.args.chunks.items (vec_capacity c.args.chunks) c.args.spare.now (omega arith) c.requires.room) in
    room_less 1 (0 + deque_len now.rest) now.all.items (vec_capacity now.all) now.spare (omega (arith, c.in-Some.ensures.cases)) left

pub loop-entry-preserved : goal.loop-entry-preserved
loop-entry-preserved g c =
    let kept = c.loop-entry.invariant in
    let first = entries_of c.args.chunks.items in
    let now = entries_of c.loop-entry.all.items in
    let shorter = c.in-Some.ensures.cases in
    let added = c.insert_into.ensures in
    record {
      chunks = added.chunks;
      sorted = added.sorted;
      remains = remains_more g.met.K.Ord.total g.met.K.Entry.exact first c.args.others.items now (entries_of c.insert_into.new.chunks.items) c.pop_front.new.self.items c.in-Some.entry
          (subst (Remains g.K.Ord.cmp first c.args.others.items now) c.in-Some.ensures.items kept.remains) added.inserted added.entry_count;
      few = added.few;
      spare = added.spare;
      room = λ k room. added.room (k + deque_len c.pop_front.new.self) (room_less (k + deque_len c.pop_front.new.self + 1) (k + deque_len c.loop-entry.rest) c.loop-entry.all.items
          (vec_capacity c.loop-entry.all) c.loop-entry.spare (omega (arith, shorter)) (kept.room k room));
    }

pub returns-clause-room : goal.returns-clause-room
returns-clause-room g c = λ k room.
    let now = c.loop-entry in
    room_less k (k + deque_len now.rest) now.all.items (vec_capacity now.all) now.spare (omega arith) (now.invariant.room k room)

pub returns-clause-both : goal.returns-clause-both
returns-clause-both g c =
    let rest = c.loop-entry.rest in
    let nothing : rest.items ≡ [] = nil_from_length rest.items (omega (arith, rest.ok.0, c.in_default.ensures.cases.0)) in
    remains_none g.met.K.Ord.total g.met.K.Entry.exact (entries_of c.args.chunks.items) c.args.others.items (entries_of c.loop-entry.all.items)
    (subst (Remains g.K.Ord.cmp (entries_of c.args.chunks.items) c.args.others.items (entries_of c.loop-entry.all.items)) nothing c.loop-entry.invariant.remains)
