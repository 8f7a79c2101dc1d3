use Rattle.std.proofs.Common.{◌≡◌, ◌+◌, ◌∙◌, arith, rules, sym}
use Rattle.rbac_sets.specs.SetRemoval.{around}
use Rattle.rbac_sets.proofs.Gaps.{around-swapped}
use Rattle.rbac_sets.proofs.removal.move_down.Goals as goal

pub loop-moved-preserved : goal.loop-moved-preserved
loop-moved-preserved g c =
    let start = c.args.start + c.loop-moved.moved in
    let end = c.args.end + c.loop-moved.moved in
    let one : start + 1 ≡ c.args.start + (c.loop-moved.moved + 1) = omega arith in
    let two : end + 1 ≡ c.args.end + (c.loop-moved.moved + 1) = omega arith in
    record {
      within = omega arith;
      same = sym (λ i. around (one i) (two i) c.swap.new.self.items)
          ∙ around-swapped c.loop-moved.entries.items c.swap.new.self.items start end (omega arith) (search rules) c.swap.ensures.by_index.3 ∙ c.loop-moved.invariant.same;
      len = c.swap.ensures.len ∙ c.loop-moved.invariant.len;
      capacity = c.swap.ensures.capacity ∙ c.loop-moved.invariant.capacity;
    }
