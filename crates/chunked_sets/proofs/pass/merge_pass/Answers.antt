use Rattle.std.proofs.Common.{◌≡◌, ◌+◌, [], drop, ap, sym, subst, subst₂, ◌∙◌, arith, vec_len, vec_capacity, deque_len, deque_capacity}
use Rattle.std.specs.List.Sorted.{IsStrictlySortedBy}
use Rattle.std.proofs.lemmas.List.{nil_from_length}
use Rattle.rbac_sets.specs.Sets.{from_list}
use Rattle.chunked_sets.specs.Chunks.{entries_of}
use Rattle.chunked_sets.specs.private.Chunks.{AreChunks}
use Rattle.chunked_sets.specs.private.Rooms.{HasRoom}
use Rattle.chunked_sets.specs.private.Passes.{in_order}
use Rattle.chunked_sets.proofs.ChunkLists.{sorted_first}
use Rattle.chunked_sets.proofs.Merges.{Remains, remains_first, remains_absent, remains_more, remains_none, passed_rest, each_trivial}
use Rattle.chunked_sets.proofs.Rooms.{room_less}
use Rattle.chunked_sets.proofs.pass.merge_pass.Goals as goal

pub loop-entry-init : goal.loop-entry-init
loop-entry-init g c =
    let first = entries_of c.args.chunks.items in
    let others = c.args.others.items in
    let same = c.start-pass.ensures.same in
    let pass = c.start-pass.result in
    record {
      chunks = subst AreChunks (sym same) c.requires.chunks;
      sorted = subst (λ l. IsStrictlySortedBy g.K.Ord.cmp (entries_of l)) (sym same) c.requires.sorted;
      remains = subst (Remains g.K.Ord.cmp first others (entries_of (in_order pass.ahead pass.ring.items pass.current))) (sym c.from_vec-rest.ensures.items)
          (subst (λ l. Remains g.K.Ord.cmp first others (entries_of l) others) (sym same)
          (remains_first g.met.K.Ord.total g.met.K.Entry.exact first others c.requires.others_sorted c.requires.disjoint));
      passed = each_trivial g.K.Ord.cmp (entries_of (drop pass.ahead pass.ring.items)) c.from_vec-rest.result.items (ap entries_of c.start-pass.ensures.first);
      ahead = c.start-pass.ensures.ahead;
      listed = omega (arith, c.args.chunks.ok);
      few = omega arith;
      spare = c.requires.spare;
      room = λ k room.
          let less = room_less (k + deque_len c.from_vec-rest.result) (k + vec_len c.args.others) c.args.chunks.items (vec_capacity c.args.chunks) c.args.spare.now (omega arith) room in
          subst₂ (λ l capacity. HasRoom (k + deque_len c.from_vec-rest.result) l capacity c.args.spare.now) (sym same) (sym c.start-pass.ensures.capacity) less;
    }

pub put-requires-clause-absent : goal.put-requires-clause-absent
put-requires-clause-absent g c =
    let pass = c.loop-entry.pass in
    let now = entries_of (in_order pass.ahead pass.ring.items pass.current) in
    remains_absent g.met.K.Ord.total g.met.K.Entry.exact (entries_of c.args.chunks.items) c.args.others.items now c.pop_front.new.self.items c.in-Some.entry
    (subst (Remains g.K.Ord.cmp (entries_of c.args.chunks.items) c.args.others.items now) c.in-Some.ensures.items c.loop-entry.invariant.remains)

pub put-requires-clause-room : goal.put-requires-clause-room
put-requires-clause-room g c =
    let all = c.args.others in
    let now = c.loop-entry in
    let pass = now.pass in
    let left = now.invariant.room 0 (room_less (0 + vec_len all) (vec_len all) c.args.chunks.items (vec_capacity c.args.chunks) c.args.spare.now (omega arith) c.requires.room) in
    room_less 1 (0 + deque_len now.rest) (in_order pass.ahead pass.ring.items pass.current) (deque_capacity pass.ring) now.spare (omega (arith, c.in-Some.ensures.cases)) left

pub loop-entry-preserved : goal.loop-entry-preserved
loop-entry-preserved g c =
    let kept = c.loop-entry.invariant in
    let first = entries_of c.args.chunks.items in
    let pass = c.loop-entry.pass in
    let now = entries_of (in_order pass.ahead pass.ring.items pass.current) in
    let new = c.put.new.pass in
    let rest = c.pop_front.new.self.items in
    let shorter = c.in-Some.ensures.cases in
    let added = c.put.ensures in
    let remains = subst (Remains g.K.Ord.cmp first c.args.others.items now) c.in-Some.ensures.items kept.remains in
    record {
      chunks = added.chunks;
      sorted = added.sorted;
      remains = remains_more g.met.K.Ord.total g.met.K.Entry.exact first c.args.others.items now
          (entries_of (in_order new.ahead new.ring.items new.current)) rest c.in-Some.entry remains added.inserted added.entry_count;
      passed = passed_rest g.met.K.Ord.total (entries_of (drop new.ahead new.ring.items)) rest c.in-Some.entry added.passed (sorted_first g.K.Ord.cmp c.in-Some.entry rest remains.sorted);
      ahead = added.ahead;
      listed = added.listed;
      few = added.few;
      spare = added.spare;
      room = λ k room. added.room (k + deque_len c.pop_front.new.self) (room_less (k + deque_len c.pop_front.new.self + 1) (k + deque_len c.loop-entry.rest)
          (in_order pass.ahead pass.ring.items pass.current) (deque_capacity pass.ring) c.loop-entry.spare (omega (arith, shorter)) (kept.room k room));
    }

pub returns-clause-room : goal.returns-clause-room
returns-clause-room g c = λ k room.
    let now = c.loop-entry in
    let pass = now.pass in
    let left = room_less k (k + deque_len now.rest) (in_order pass.ahead pass.ring.items pass.current) (deque_capacity pass.ring) now.spare (omega arith) (now.invariant.room k room) in
    subst₂ (λ l capacity. HasRoom k l capacity now.spare) (sym c.finish.ensures.same) (sym c.finish.ensures.capacity) left

pub returns-clause-both : goal.returns-clause-both
returns-clause-both g c =
    let first = entries_of c.args.chunks.items in
    let others = c.args.others.items in
    let rest = c.loop-entry.rest in
    let pass = c.loop-entry.pass in
    let now = entries_of (in_order pass.ahead pass.ring.items pass.current) in
    let nothing : rest.items ≡ [] = nil_from_length rest.items (omega (arith, rest.ok.0, c.in_default.ensures.cases.0)) in
    ap (λ l. from_list {R = g.K.Ord.cmp} (entries_of l)) c.finish.ensures.same
    ∙ remains_none g.met.K.Ord.total g.met.K.Entry.exact first others now (subst (Remains g.K.Ord.cmp first others now) nothing c.loop-entry.invariant.remains)
