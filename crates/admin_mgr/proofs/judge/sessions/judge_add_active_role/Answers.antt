use Rattle.std.proofs.Common.{sym, ◌∙◌, ap}
use Rattle.std.specs.Option.{option_map}
use Rattle.rbac_sets.specs.Sets.{Cardinality, contains, members}
use Rattle.rbac_sets.specs.declared.refusal.Refusal.TheVariants.{NotOwner, NotAuthorized}
use Rattle.admin_mgr.specs.After.{after}
use Rattle.admin_mgr.specs.Authorization.{is_authorized}
use Rattle.admin_mgr.specs.private.HolderRoles.{run_of, find_with_one}
use Rattle.admin_mgr.specs.Verdict.{add_active_role_refusals}
use Rattle.admin_mgr.proofs.Verdicts.SessionCommandLaws.{activated_violates}
use Rattle.rbac_sets.specs.declared.command.Command.TheVariants.{AddActiveRole}
use Rattle.rbac_sets.specs.declared.refusal.Refusal.TheVariants.{DynamicSeparation}
use Rattle.admin_mgr.specs.Refusals.{violates_dynamic}
use Rattle.admin_mgr.specs.Verdict.{verdict, refusals}
use Rattle.admin_mgr.proofs.Verdicts.VerdictLaws.{passed, refuse_unless-None, stopped, last_decides, none_unless_some}
use Rattle.admin_mgr.proofs.judge.sessions.judge_add_active_role.Goals as goal

pub returns-in-Some : goal.returns-in-Some
unfolding verdict refusals
returns-in-Some c = stopped (add_active_role_refusals c.args.state.now.facts c.args.user.now c.args.session.now c.args.role.now) (violates_dynamic (after c.args.state.now.facts (AddActiveRole c.args.user.now c.args.session.now c.args.role.now))) c.in-Some.refusal (sym c.refuse_activation.ensures ∙ c.in-Some.is)

pub returns : goal.returns
unfolding verdict refusals
returns c =
    let none = sym c.refuse_activation.ensures ∙ none_unless_some _ c.in_default.not-Some in
    let all_passed = passed (add_active_role_refusals c.args.state.now.facts c.args.user.now c.args.session.now c.args.role.now) none in
    c.in_ok-named.ensures
    ∙ ap (λ o. option_map DynamicSeparation (option_map (λ (entry : Cardinality). entry.0) o)) (c.first_with_one-violated.ensures
    ∙ (λ i. find_with_one (c.order.ensures i) ((c.with_first-held.ensures ∙ ap (λ s. run_of s c.args.session.now) c.active.ensures) i) c.args.role.now (c.dsd_members.ensures i) ((c.as_slice-sets.ensures ∙ ap members c.dsd_cardinalities.ensures) i)))
    ∙ sym (activated_violates c.args.state.now.facts c.recall_good.ensures c.args.user.now c.args.session.now c.args.role.now
    (refuse_unless-None (contains c.args.state.now.facts.sessions (c.args.session.now, c.args.user.now)) NotOwner all_passed.1.1.1.0)
    (refuse_unless-None (is_authorized c.args.state.now.facts c.args.user.now c.args.role.now) NotAuthorized all_passed.1.1.1.1.1.0))
    ∙ sym (last_decides (add_active_role_refusals c.args.state.now.facts c.args.user.now c.args.session.now c.args.role.now) (violates_dynamic (after c.args.state.now.facts (AddActiveRole c.args.user.now c.args.session.now c.args.role.now))) none)
