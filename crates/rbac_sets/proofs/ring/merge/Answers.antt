use Rattle.std.proofs.Common.{rules, ◌≡◌, ◌+◌, ◌-◌, ◌∷◌, length, sym, ap, subst, ◌∙◌, arith}
use Rattle.std.specs.VecDeque.{deque_len}
use Rattle.std.specs.List.Sorted.{IsStrictlySortedBy}
use Rattle.rbac_sets.specs.Sets.{from_list}
use Rattle.rbac_sets.proofs.SetLaws.{no_items}
use Rattle.rbac_sets.proofs.Merging.{merging_starts, merging_tail, merging_step, merging_ends}
use Rattle.rbac_sets.proofs.ring.merge.Goals as goal

pub loop-other-init : goal.loop-other-init
loop-other-init g c = record {
  merging = merging_starts g.met.K.Ord.total _ _ _ c.from_vec-ring.ensures.items c.requires.sorted c.requires.others_sorted c.requires.disjoint;
  within = omega arith;
  total = omega (arith, c.from_vec-ring.ensures.len);
  room = c.from_vec-ring.ensures.capacity;
}

pub count_below-below-requires-clause-sorted : goal.count_below-below-requires-clause-sorted
count_below-below-requires-clause-sorted g c = merging_tail g.met.K.Ord.total _ _ _ _ _ c.loop-other.invariant.merging

pub loop-other-preserved : goal.loop-other-preserved
loop-other-preserved g c =
    let kept = c.loop-other.invariant in
    let size : deque_len c.loop-other.ring ≡ length c.loop-other.ring.items = search rules in
    let pushed : deque_len c.push_front.new.self ≡ deque_len c.rotate_right.new.self + 1 = rw c.unwrap.ensures at c.push_front.ensures.len in
    let popped = c.in-Some.ensures.cases in
    record {
      merging = merging_step g.met.K.Ord.total c.args.entries.items c.args.others.items c.loop-other.ring.items c.push_front.new.self.items
          c.loop-other.others.items c.pop.new.self.items c.in-Some.other c.loop-other.placed c.count_below-below.result c.len.result
          (deque_len c.loop-other.ring - (c.len.result - c.loop-other.placed - c.count_below-below.result)) kept.merging c.in-Some.ensures.items (c.len.ensures ∙ size)
          (omega (arith, c.len.ensures, c.count_below-below.ensures.within)) c.count_below-below.ensures.point (omega (arith, c.len.ensures, c.count_below-below.ensures.within))
          (rw c.unwrap.ensures at c.push_front.ensures.items ∙ ap (λ l. c.in-Some.other ∷ l) c.rotate_right.ensures.items);
      within = omega (arith, pushed, c.rotate_right.ensures.len, c.len.ensures, c.count_below-below.ensures.within);
      total = omega (arith, pushed, c.rotate_right.ensures.len, popped, kept.total);
      room = c.push_front.ensures.in_place (omega (arith, popped, c.rotate_right.ensures.len, c.rotate_right.ensures.capacity, kept.total, kept.room, c.requires.room))
          ∙ c.rotate_right.ensures.capacity ∙ kept.room;
    }

pub returns-clause-both : goal.returns-clause-both
returns-clause-both g c =
    let none = no_items c.loop-other.others.items (search rules) in
    let ends = merging_ends g.met.K.Ord.total _ _ _ _ _ c.loop-other.invariant.merging none g.met.K.Entry.exact in
    ap (from_list {R = g.K.Ord.cmp}) (c.into_vec.ensures.items ∙ c.rotate_left.ensures.items) ∙ ends.1

pub returns-clause-sorted : goal.returns-clause-sorted
returns-clause-sorted g c =
    let none = no_items c.loop-other.others.items (search rules) in
    let ends = merging_ends g.met.K.Ord.total _ _ _ _ _ c.loop-other.invariant.merging none g.met.K.Entry.exact in
    subst (IsStrictlySortedBy g.K.Ord.cmp) (sym (c.into_vec.ensures.items ∙ c.rotate_left.ensures.items)) ends.0
