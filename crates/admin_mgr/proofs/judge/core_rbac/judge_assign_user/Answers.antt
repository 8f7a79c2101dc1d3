use Rattle.std.proofs.Common.{sym, ◌∙◌, ap}
use Rattle.std.specs.Option.{option_map}
use Rattle.rbac_sets.specs.Sets.{Cardinality, contains, members}
use Rattle.rbac_sets.specs.declared.refusal.Refusal.TheVariants.{NoUser}
use Rattle.admin_mgr.specs.Assignment.{assign_user_refusals, assignment_refusals, after_assignment}
use Rattle.admin_mgr.specs.private.HolderRoles.{run_of, find_with_one}
use Rattle.admin_mgr.proofs.Verdicts.TouchLaws.{assignment_violates}
use Rattle.rbac_sets.specs.declared.refusal.Refusal.TheVariants.{StaticSeparation}
use Rattle.admin_mgr.specs.Refusals.{violates_static}
use Rattle.admin_mgr.specs.Verdict.{verdict, refusals}
use Rattle.admin_mgr.proofs.Verdicts.VerdictLaws.{passed, refuse_unless-None, stopped, last_decides, none_unless_some}
use Rattle.admin_mgr.proofs.judge.core_rbac.judge_assign_user.Goals as goal

pub returns-in-Some : goal.returns-in-Some
unfolding verdict refusals assignment_refusals
returns-in-Some c = stopped (assign_user_refusals c.args.state.now.facts (c.args.user.now, c.args.role.now)) (violates_static (after_assignment c.args.state.now.facts (c.args.user.now, c.args.role.now))) c.in-Some.refusal (sym c.refuse_assignment.ensures ∙ c.in-Some.is)

pub returns : goal.returns
unfolding verdict refusals assignment_refusals
returns c =
    let none = sym c.refuse_assignment.ensures ∙ none_unless_some _ c.in_default.not-Some in
    let all_passed = passed (assign_user_refusals c.args.state.now.facts (c.args.user.now, c.args.role.now)) none in
    c.in_ok-named.ensures
    ∙ ap (λ o. option_map StaticSeparation (option_map (λ (entry : Cardinality). entry.0) o)) (c.first_with_one-violated.ensures
    ∙ (λ i. find_with_one (c.order.ensures i) ((c.with_first-held.ensures ∙ ap (λ s. run_of s c.args.user.now) c.assignments.ensures) i) c.args.role.now (c.ssd_members.ensures i) ((c.as_slice-sets.ensures ∙ ap members c.ssd_cardinalities.ensures) i)))
    ∙ sym (assignment_violates c.args.state.now.facts c.recall_good.ensures c.args.user.now c.args.role.now (refuse_unless-None (contains c.args.state.now.facts.users c.args.user.now) NoUser all_passed.0))
    ∙ sym (last_decides (assign_user_refusals c.args.state.now.facts (c.args.user.now, c.args.role.now)) (violates_static (after_assignment c.args.state.now.facts (c.args.user.now, c.args.role.now))) none)
