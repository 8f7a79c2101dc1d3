use Rattle.std.proofs.Common.{arith, ap, sym, ◌∙◌, rules}
use Rattle.std.specs.Ordering.{is_eq}
use Rattle.rbac_sets.proofs.Runs.{none_behind}
use Rattle.rbac_sets.proofs.sorted_set.bound_of_first.Goals.{then-loop-bound-test+else-is_eq, else-loop-bound-test}
use Rattle.rbac_sets.proofs.sorted_set.bound_of_first.Goals as goal

pub returns-clause-behind : goal.returns-clause-behind
returns-clause-behind g c = elim c.loop-bound-test.branch [
  | then-loop-bound-test+else-is_eq w ↦
      none_behind (λ y. is_eq (g.P.Prefix.place c.args.prefix y)) c.args.entries.now c.loop-bound.bound c.min.result w.index-entries-bound.result c.requires (search rules) w.index-entries-bound.is (ap is_eq (sym w.compare.ensures) ∙ sym w.is_eq.ensures ∙ w.if-is_eq.false) c.min.ensures
  | else-loop-bound-test w ↦ λ k d from below. absurd (omega (arith, c.min.ensures, w.loop-bound-test))
]
