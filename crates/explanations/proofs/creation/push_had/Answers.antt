use Rattle.std.proofs.Common.{[], ◌∷◌, ◌++◌, sym, ◌∙◌}
use Rattle.rbac_sets.specs.Sets.{Pair}
use Rattle.admin_mgr.specs.private.HolderRoles.{is_reached_from}
use Rattle.explanations.proofs.SessionCreation.{pushed_all, pushed_more, pushed_same}
use Rattle.explanations.proofs.creation.push_had.Goals as goal
use Rattle.explanations.proofs.creation.push_had.Goals.{then-is_reached_from+in_ok-copy+in_ok-copy-2+in_ok-push, else-is_reached_from}

pub loop-member-preserved : goal.loop-member-preserved
loop-member-preserved c = elim c.if-is_reached_from.branch [
  | then-is_reached_from+in_ok-copy+in_ok-copy-2+in_ok-push w ↦ rw w.pairs-is (
      pushed_more (λ (member : Pair). is_reached_from c.args.order.now.edges c.args.roles.now member.1) c.args.members.now c.loop-member.member-index c.args.pairs.now.items
      c.member-item.result c.loop-member-test.true c.member-item.is c.loop-member.pairs.items c.loop-member.invariant
      (sym c.is_reached_from.ensures ∙ w.if-is_reached_from.true) w.push.new.self.items
      (w.in_ok-push.ensures.items ∙ (λ i. c.loop-member.pairs.items ++ (w.in_ok-copy.ensures.ok i, w.in_ok-copy-2.ensures.ok i) ∷ [])))
  | else-is_reached_from w ↦ rw w.pairs-is (
      pushed_same (λ (member : Pair). is_reached_from c.args.order.now.edges c.args.roles.now member.1) c.args.members.now c.loop-member.member-index c.args.pairs.now.items
      c.member-item.result c.loop-member-test.true c.member-item.is c.loop-member.pairs.items c.loop-member.invariant
      (sym c.is_reached_from.ensures ∙ w.if-is_reached_from.false))
]

pub returns-clause-ok : goal.returns-clause-ok
returns-clause-ok c = pushed_all (λ (member : Pair). is_reached_from c.args.order.now.edges c.args.roles.now member.1) c.args.members.now c.loop-member.member-index c.args.pairs.now.items
    c.loop-member.pairs.items c.loop-member.invariant c.loop-member-test.false
