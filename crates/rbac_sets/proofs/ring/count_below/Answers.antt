use Rattle.std.proofs.Common.{rules, ◌≡◌, length, sym, ap, ◌∙◌, arith}
use Rattle.std.specs.Ordering.{is_lt}
use Rattle.std.specs.VecDeque.{deque_len}
use Rattle.rbac_sets.proofs.Merging.{below_up_to, not_below_from}
use Rattle.rbac_sets.proofs.ring.count_below.Goals as goal

pub loop-low-preserved-then-is_lt : goal.loop-low-preserved-then-is_lt
loop-low-preserved-then-is_lt g c =
    let kept = c.loop-low.invariant in
    let size : deque_len c.args.ring.now ≡ length c.args.ring.now.items = search rules in
    record {
      order = omega arith;
      within = kept.within;
      some = kept.some;
      below = below_up_to g.met.K.Ord.total c.args.ring.now.items c.args.start c.next_place-at.result c.args.other.now c.index.result.now c.requires.sorted
          (omega (arith, kept.within, size, c.next_place-at.ensures.1)) c.index.ensures (sym (c.is_lt.ensures ∙ ap is_lt c.cmp.ensures) ∙ c.if-is_lt.true);
      not_below = kept.not_below;
    }

pub loop-low-preserved : goal.loop-low-preserved
loop-low-preserved g c =
    let kept = c.loop-low.invariant in
    let size : deque_len c.args.ring.now ≡ length c.args.ring.now.items = search rules in
    record {
      order = omega arith;
      within = omega (arith, kept.within, c.next_place-at.ensures.1);
      some = search rules;
      below = kept.below;
      not_below = not_below_from g.met.K.Ord.total c.args.ring.now.items c.args.start c.next_place-at.result c.args.other.now c.index.result.now c.requires.sorted
          (omega (arith, kept.within, size, c.next_place-at.ensures.1)) c.index.ensures (sym (c.is_lt.ensures ∙ ap is_lt c.cmp.ensures) ∙ c.if-is_lt.false);
    }
