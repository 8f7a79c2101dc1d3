use Rattle.std.proofs.Common.{arith, ap, sym, ◌∙◌, rules}
use Rattle.std.specs.Ordering.{is_lt}
use Rattle.rbac_sets.proofs.Runs.{none_behind}
use Rattle.rbac_sets.proofs.removal.bound_of_less.Goals.{then-loop-bound-test+else-is_lt, else-loop-bound-test}
use Rattle.rbac_sets.proofs.removal.bound_of_less.Goals as goal

pub returns-clause-behind : goal.returns-clause-behind
returns-clause-behind g c = elim c.loop-bound-test.branch [
  | then-loop-bound-test+else-is_lt w ↦
      none_behind (λ y. is_lt (g.K.Ord.cmp y (g.P.Probe.entry c.args.probe))) c.args.entries.now c.loop-bound.bound c.min.result w.index-entries-bound.result
      c.requires (search rules) w.index-entries-bound.is (ap is_lt (sym w.compare.ensures) ∙ sym w.is_lt.ensures ∙ w.if-is_lt.false) c.min.ensures
  | else-loop-bound-test w ↦ λ k d from below. absurd (omega (arith, c.min.ensures, w.loop-bound-test))
]
