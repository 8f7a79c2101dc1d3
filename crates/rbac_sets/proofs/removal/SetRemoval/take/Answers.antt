use Rattle.std.proofs.Common.{◌≡◌, ◌-◌, arith, rules, length, vec_len, take, drop, ◌++◌, length-drop, ap, subst, sym, ◌∙◌}
use Rattle.std.specs.List.Sorted.{IsStrictlySortedBy}
use Rattle.std.proofs.lemmas.Bool.{true≢false}
use Rattle.std.proofs.lemmas.List.{drop-drop}
use Rattle.rbac_sets.specs.Sets.{from_list}
use Rattle.rbac_sets.specs.private.Gaps.{IsFirst}
use Rattle.rbac_sets.proofs.InOrder.{all_take}
use Rattle.rbac_sets.proofs.Runs.{take_whole}
use Rattle.rbac_sets.proofs.Gaps.{taken_first, taken_none}
use Rattle.rbac_sets.proofs.removal.SetRemoval.take.Goals as goal

pub invariant_of-self : goal.invariant_of-self
invariant_of-self g c =
    let xs = c.move_gap-start.new.entries.items in
    let start = c.move_gap-start.result.0 in
    let end = c.move_gap-start.result.1 in
    let x = g.P.Probe.entry c.args.probe in
    let sorted = subst (IsStrictlySortedBy g.K.Ord.cmp) (sym c.move_gap-start.ensures.same) c.self.invariant.2 in
    let whole : take (length xs - end) (drop end xs) ≡ drop end xs = take_whole (length xs - end) (drop end xs) (omega (arith, length-drop end xs)) in
    let first : IsFirst g.K.Ord.cmp x (drop end xs) = subst (IsFirst g.K.Ord.cmp x) whole (rw c.deref.ensures.value at (c.is_first-is_there.ensures.0 (search rules))) in
    let taken = taken_first g.met.K.Ord.total g.met.K.Entry.exact (take start xs) (drop end xs) x sorted first in
    let size : vec_len c.move_gap-start.new.entries ≡ length xs = search rules in
    (omega arith, omega (arith, taken.0, size, length-drop end xs), subst (λ l. IsStrictlySortedBy g.K.Ord.cmp (take start xs ++ l)) (drop-drop 1 end xs) taken.1)

pub returns-then-is_there-clause-was_there : goal.returns-then-is_there-clause-was_there
returns-then-is_there-clause-was_there g c =
    let xs = c.move_gap-start.new.entries.items in
    let start = c.move_gap-start.result.0 in
    let end = c.move_gap-start.result.1 in
    let x = g.P.Probe.entry c.args.probe in
    let sorted = subst (IsStrictlySortedBy g.K.Ord.cmp) (sym c.move_gap-start.ensures.same) c.self.invariant.2 in
    let whole : take (length xs - end) (drop end xs) ≡ drop end xs = take_whole (length xs - end) (drop end xs) (omega (arith, length-drop end xs)) in
    let first : IsFirst g.K.Ord.cmp x (drop end xs) = subst (IsFirst g.K.Ord.cmp x) whole (rw c.deref.ensures.value at (c.is_first-is_there.ensures.0 (search rules))) in
    let taken = taken_first g.met.K.Ord.total g.met.K.Entry.exact (take start xs) (drop end xs) x sorted first in
    rw (c.if-is_there.true, ← c.self.view_is, ← c.move_gap-start.ensures.same) (sym taken.2)

pub returns-then-is_there-clause-removed : goal.returns-then-is_there-clause-removed
returns-then-is_there-clause-removed g c =
    let xs = c.move_gap-start.new.entries.items in
    let start = c.move_gap-start.result.0 in
    let end = c.move_gap-start.result.1 in
    let x = g.P.Probe.entry c.args.probe in
    let sorted = subst (IsStrictlySortedBy g.K.Ord.cmp) (sym c.move_gap-start.ensures.same) c.self.invariant.2 in
    let whole : take (length xs - end) (drop end xs) ≡ drop end xs = take_whole (length xs - end) (drop end xs) (omega (arith, length-drop end xs)) in
    let first : IsFirst g.K.Ord.cmp x (drop end xs) = subst (IsFirst g.K.Ord.cmp x) whole (rw c.deref.ensures.value at (c.is_first-is_there.ensures.0 (search rules))) in
    let taken = taken_first g.met.K.Ord.total g.met.K.Entry.exact (take start xs) (drop end xs) x sorted first in
    rw (← c.self.view_is, ← c.move_gap-start.ensures.same) (ap (λ l. from_list {R = g.K.Ord.cmp} (take start xs ++ l)) (sym (drop-drop 1 end xs)) ∙ taken.3)

pub returns-else-is_there-clause-was_there : goal.returns-else-is_there-clause-was_there
returns-else-is_there-clause-was_there g c =
    let xs = c.move_gap-start.new.entries.items in
    let start = c.move_gap-start.result.0 in
    let end = c.move_gap-start.result.1 in
    let x = g.P.Probe.entry c.args.probe in
    let sorted = subst (IsStrictlySortedBy g.K.Ord.cmp) (sym c.move_gap-start.ensures.same) c.self.invariant.2 in
    let whole : take (length xs - end) (drop end xs) ≡ drop end xs = take_whole (length xs - end) (drop end xs) (omega (arith, length-drop end xs)) in
    let asked = rw c.deref.ensures.value at c.is_first-is_there.ensures.1 in
    let none : IsFirst g.K.Ord.cmp x (drop end xs) → ⊥ = λ first. true≢false (sym (asked (subst (IsFirst g.K.Ord.cmp x) (sym whole) first)) ∙ c.if-is_there.false) in
    let taken = taken_none g.met.K.Ord.total g.met.K.Entry.exact (take start xs) (drop end xs) x sorted (all_take _ xs start (search rules) c.move_gap-start.ensures.passed.0) c.move_gap-start.ensures.passed.1 none in
    rw (c.if-is_there.false, ← c.self.view_is, ← c.move_gap-start.ensures.same) (sym taken.0)

pub returns-else-is_there-clause-removed : goal.returns-else-is_there-clause-removed
returns-else-is_there-clause-removed g c =
    let xs = c.move_gap-start.new.entries.items in
    let start = c.move_gap-start.result.0 in
    let end = c.move_gap-start.result.1 in
    let x = g.P.Probe.entry c.args.probe in
    let sorted = subst (IsStrictlySortedBy g.K.Ord.cmp) (sym c.move_gap-start.ensures.same) c.self.invariant.2 in
    let whole : take (length xs - end) (drop end xs) ≡ drop end xs = take_whole (length xs - end) (drop end xs) (omega (arith, length-drop end xs)) in
    let asked = rw c.deref.ensures.value at c.is_first-is_there.ensures.1 in
    let none : IsFirst g.K.Ord.cmp x (drop end xs) → ⊥ = λ first. true≢false (sym (asked (subst (IsFirst g.K.Ord.cmp x) (sym whole) first)) ∙ c.if-is_there.false) in
    let taken = taken_none g.met.K.Ord.total g.met.K.Entry.exact (take start xs) (drop end xs) x sorted (all_take _ xs start (search rules) c.move_gap-start.ensures.passed.0) c.move_gap-start.ensures.passed.1 none in
    rw (← c.self.view_is, ← c.move_gap-start.ensures.same) taken.1
