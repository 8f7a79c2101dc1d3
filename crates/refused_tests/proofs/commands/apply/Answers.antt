use Rattle.std.proofs.Common.{sym, subst}
use Rattle.admin_mgr.specs.PlanEffect.{LeadsTo}
use Rattle.admin_mgr.specs.After.{after}
use Rattle.refused_tests.proofs.commands.apply.Goals as goal

-- The plan still leads to the state after the command once room is made.
pub commit-requires-clause-planned : goal.commit-requires-clause-planned
commit-requires-clause-planned c =
    let T = after c.args.state.now.facts c.args.command.now in
    (T, subst (λ S. LeadsTo S c.in_ok-plan.plan T) (sym c.make_room.ensures.keeps) c.in_ok-plan.ensures.planned.leads)
