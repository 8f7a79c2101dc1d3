use Rattle.std.proofs.Common.{◌≡◌, ◌-◌, true, false, arith, rules, length, vec_len, take, drop, length-drop, ap, subst, sym}
use Rattle.std.specs.List.Sorted.{IsStrictlySortedBy, IsPartitionPoint}
use Rattle.std.specs.Ordering.{is_lt}
use Rattle.rbac_sets.proofs.Runs.{take_whole}
use Rattle.rbac_sets.proofs.Gaps.{sorted-last, below_first, passed-around}
use Rattle.rbac_sets.proofs.removal.pass.Goals as goal

pub count_less-count-requires : goal.count_less-count-requires
count_less-count-requires g c =
    let xs = c.args.entries.now.items in
    let end = c.args.end in
    let whole : take (length xs - end) (drop end xs) ≡ drop end xs = take_whole (length xs - end) (drop end xs) (omega (arith, length-drop end xs)) in
    let sorted = sorted-last g.K.Ord.cmp (take c.args.start xs) (drop end xs) c.requires.sorted in
    rw c.deref.ensures.value (below_first g.met.K.Ord.total (take (length xs - end) (drop end xs)) (g.P.Probe.entry c.args.probe) (subst (IsStrictlySortedBy g.K.Ord.cmp) (sym whole) sorted))

pub returns-clause-passed : goal.returns-clause-passed
returns-clause-passed g c =
    let xs = c.args.entries.now.items in
    let x = g.P.Probe.entry c.args.probe in
    let end = c.args.end in
    let count = c.count_less-count.result in
    let whole : take (length xs - end) (drop end xs) ≡ drop end xs = take_whole (length xs - end) (drop end xs) (omega (arith, length-drop end xs)) in
    let size : vec_len c.args.entries.now ≡ length xs = search rules in
    let size_now : vec_len c.move_down.new.entries ≡ length c.move_down.new.entries.items = search rules in
    let within = rw c.deref.ensures.value at c.count_less-count.ensures.within in
    let point = rw c.deref.ensures.value at c.count_less-count.ensures.point in
    passed-around g.K.Ord.cmp xs c.move_down.new.entries.items x c.args.start end count c.requires.gap.0 (omega (arith, within, ap length whole, length-drop end xs, size, c.requires.gap.1))
    (omega (arith, size, size_now, c.move_down.ensures.len)) c.move_down.ensures.same c.requires.below
    (subst (λ l. IsPartitionPoint (λ y. is_lt (g.K.Ord.cmp y x) ≡ true) (λ y. is_lt (g.K.Ord.cmp y x) ≡ false) l count) whole point)
