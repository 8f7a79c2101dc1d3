use Rattle.std.proofs.Common.{◌≡◌, sym, subst, ◌∙◌}
use Rattle.admin_mgr.specs.StateWithRoom.{StateWithRoom}
use Rattle.admin_mgr.specs.private.OneRow.{after_changes}
use Rattle.admin_mgr.specs.Good.{IsGood}
use Rattle.admin_mgr.specs.StateNames.{AreNamed}
use Rattle.admin_mgr.proofs.PlanRows.CommitLaws.{free, leads, leads_edges}
use Rattle.admin_mgr.proofs.StateAfter.NamedLaws.{named_turns}
use Rattle.admin_mgr.proofs.Verdicts.VerdictLaws.{none_unless_some}
use Rattle.admin_mgr.proofs.state.State.commit.Goals as goal

pub change-requires-clause-free : goal.change-requires-clause-free
change-requires-clause-free c = rw (c.self.view_is) (free _ c.requires.planned.0 _ c.requires.planned.1.rows)

pub returns-in-Some-clause-state : goal.returns-in-Some-clause-state
returns-in-Some-clause-state c T to =
    let made : c.change.new.self.facts ≡ after_changes c.args.self.now.facts c.args.plan.changes.items = rw (← c.self.view_is) c.change.ensures.facts in
    c.commit_order.ensures ∙ leads_edges c.args.self.now.facts T c.args.plan c.in-Some.order to c.in-Some.is c.change.new.self.facts made

pub invariant_of-self : goal.invariant_of-self
invariant_of-self c =
    let to = c.requires.planned.1 in
    let named : AreNamed c.args.self.now.facts = subst (λ (k : StateWithRoom). AreNamed k.facts) c.self.view_is c.self.invariant.1 in
    subst (λ S. IsGood S × AreNamed S) (sym (returns-in-Some-clause-state c c.requires.planned.0 to))
    (to.good, named_turns c.args.self.now.facts c.requires.planned.0 c.args.plan.changes.items to.rows named c.recall_names.ensures)

pub returns-in_default-clause-state : goal.returns-in_default-clause-state
returns-in_default-clause-state c T to =
    let made : c.change.new.self.facts ≡ after_changes c.args.self.now.facts c.args.plan.changes.items = rw (← c.self.view_is) c.change.ensures.facts in
    leads c.args.self.now.facts T c.args.plan to (none_unless_some _ c.in_default.not-Some) c.change.new.self.facts made

pub invariant_of-self-in_default : goal.invariant_of-self-in_default
invariant_of-self-in_default c =
    let to = c.requires.planned.1 in
    let made : c.change.new.self.facts ≡ after_changes c.args.self.now.facts c.args.plan.changes.items = rw (← c.self.view_is) c.change.ensures.facts in
    let named : AreNamed c.args.self.now.facts = subst (λ (k : StateWithRoom). AreNamed k.facts) c.self.view_is c.self.invariant.1 in
    subst (λ S. IsGood S × AreNamed S) (sym (leads c.args.self.now.facts c.requires.planned.0 c.args.plan to (none_unless_some _ c.in_default.not-Some) c.change.new.self.facts made))
    (to.good, named_turns c.args.self.now.facts c.requires.planned.0 c.args.plan.changes.items to.rows named c.recall_names.ensures)
