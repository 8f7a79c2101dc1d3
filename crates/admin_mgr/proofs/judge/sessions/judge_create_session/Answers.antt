use Rattle.std.proofs.Common.{sym, ◌∙◌, ap}
use Rattle.std.specs.Option.{option_map}
use Rattle.rbac_sets.specs.Sets.{Cardinality, name_cmp, contains, members, all}
use Rattle.rbac_sets.specs.SortedSet.{set_of}
use Rattle.rbac_sets.specs.declared.refusal.Refusal.TheVariants.{NoUser, SessionExists, NotAuthorized, UserLocked}
use Rattle.admin_mgr.specs.private.HolderRoles.{find_with_all}
use Rattle.admin_mgr.specs.After.{after}
use Rattle.admin_mgr.specs.RbacState.{has_session}
use Rattle.admin_mgr.specs.Authorization.{is_authorized}
use Rattle.admin_mgr.specs.Verdict.{create_session_refusals}
use Rattle.admin_mgr.proofs.Verdicts.SessionCommandLaws.{create_session}
use Rattle.rbac_sets.specs.declared.command.Command.TheVariants.{CreateSession}
use Rattle.rbac_sets.specs.declared.refusal.Refusal.TheVariants.{DynamicSeparation}
use Rattle.admin_mgr.specs.Refusals.{violates_dynamic}
use Rattle.admin_mgr.specs.Verdict.{verdict, refusals}
use Rattle.admin_mgr.proofs.Verdicts.VerdictLaws.{passed, refuse_if-None, refuse_unless-None, stopped, last_decides, none_unless_some}
use Rattle.admin_mgr.proofs.judge.sessions.judge_create_session.Goals as goal

pub returns-in-Some : goal.returns-in-Some
unfolding verdict refusals
returns-in-Some c = stopped (create_session_refusals c.args.state.now.facts c.args.user.now (set_of name_cmp c.args.roles.now) c.args.session.now) (violates_dynamic (after c.args.state.now.facts (CreateSession c.args.user.now c.args.roles.now c.args.session.now))) c.in-Some.refusal (sym c.refuse_session.ensures ∙ c.in-Some.is)

pub returns : goal.returns
unfolding verdict refusals
returns c =
    let none = sym c.refuse_session.ensures ∙ none_unless_some _ c.in_default.not-Some in
    let all_passed = passed (create_session_refusals c.args.state.now.facts c.args.user.now (set_of name_cmp c.args.roles.now) c.args.session.now) none in
    c.in_ok-named.ensures
    ∙ ap (λ o. option_map DynamicSeparation (option_map (λ (entry : Cardinality). entry.0) o)) (c.first_with_all-violated.ensures
    ∙ (λ i. find_with_all (c.order.ensures i) (c.as_slice-names.ensures i) (c.dsd_members.ensures i) ((c.as_slice-sets.ensures ∙ ap members c.dsd_cardinalities.ensures) i)))
    ∙ sym (create_session c.args.state.now.facts c.recall_good.ensures c.args.user.now c.args.roles.now c.args.session.now
    (refuse_if-None (has_session c.args.state.now.facts c.args.session.now) SessionExists all_passed.1.1.0)
    (refuse_unless-None (contains c.args.state.now.facts.users c.args.user.now) NoUser all_passed.0)
    (refuse_if-None (contains c.args.state.now.facts.locked c.args.user.now) UserLocked all_passed.1.1.1.1.0)
    (refuse_unless-None (all (is_authorized c.args.state.now.facts c.args.user.now) (set_of name_cmp c.args.roles.now)) NotAuthorized all_passed.1.1.1.0))
    ∙ sym (last_decides (create_session_refusals c.args.state.now.facts c.args.user.now (set_of name_cmp c.args.roles.now) c.args.session.now) (violates_dynamic (after c.args.state.now.facts (CreateSession c.args.user.now c.args.roles.now c.args.session.now))) none)
