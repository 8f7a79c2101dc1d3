use Rattle.std.proofs.Common.{◌≡◌, sym, ◌∙◌, ap, subst, ◌++◌, ◌∷◌, [], Ok, Err}
use Rattle.std.specs.Prelude.{IfOk, slice_get}
use Rattle.std.specs.List.{list_all}
use Rattle.std.specs.Option.{option_map}
use Rattle.rbac_sets.specs.Sets.{Pair, all, contains, members}
use Rattle.rbac_sets.specs.declared.command.Command.TheVariants.{AddActiveRole}
use Rattle.rbac_sets.specs.declared.refusal.Refusal.TheVariants.{DynamicSeparation, NoRole, NotAuthorized, NotOwner}
use Rattle.admin_mgr.specs.After.{after}
use Rattle.admin_mgr.specs.Authorization.{is_authorized}
use Rattle.admin_mgr.specs.Refusals.{first}
use Rattle.admin_mgr.specs.Verdict.{add_active_role_refusals, refusals, verdict}
use Rattle.admin_mgr.specs.private.HolderRoles.{run_of}
use Rattle.admin_mgr.proofs.Verdicts.VerdictLaws.{none_unless_some, passed, refuse_unless-None}
use Rattle.explanations.specs.Conflicts.{activation_refusals, dynamic_violations}
use Rattle.explanations.specs.private.Found.{violated_with}
use Rattle.explanations.proofs.SessionViolations.{activation_violations, dynamic_refusal_of_first}
use Rattle.explanations.proofs.NumberedHolders.{active_are_there, dynamic_members_are_there, run_there}
use Rattle.explanations.proofs.conflicts.violated_by_activation.Goals as goal

pub violated_with-requires-clause-held : goal.violated_with-requires-clause-held
violated_with-requires-clause-held c =
    let S = c.args.state.now.facts in
    ap (list_all (λ (pair : Pair). contains S.roles pair.1)) (c.with_first-held.ensures ∙ ap (λ s. run_of s c.args.session.now) c.active.ensures)
    ∙ run_there S.roles S.active (active_are_there S c.recall_good.ensures.well_formed) c.args.session.now

pub violated_with-requires-clause-more : goal.violated_with-requires-clause-more
violated_with-requires-clause-more c =
    let all_passed = passed (activation_refusals c.args.state.now.facts c.args.user.now c.args.session.now c.args.role.now) (sym c.refuse_activation.ensures ∙ none_unless_some _ c.in_default.not-Some) in
    refuse_unless-None (contains c.args.state.now.facts.roles c.args.role.now) NoRole all_passed.1.1.0

pub violated_with-requires-clause-members : goal.violated_with-requires-clause-members
violated_with-requires-clause-members c =
    let S = c.args.state.now.facts in
    ap (all (λ (pair : Pair). contains S.roles pair.1)) c.dsd_members.ensures ∙ dynamic_members_are_there S c.recall_good.ensures.well_formed

pub returns-clause-value : goal.returns-clause-value
returns-clause-value c =
    let all_passed = passed (activation_refusals c.args.state.now.facts c.args.user.now c.args.session.now c.args.role.now) (sym c.refuse_activation.ensures ∙ none_unless_some _ c.in_default.not-Some) in
    subst (λ names. IfOk c.violated_with.result (λ found. found.items ≡ names))
    ((λ i. violated_with c.args.state.now.facts.edges ((c.with_first-held.ensures ∙ ap (λ s. run_of s c.args.session.now) c.active.ensures) i) c.args.role.now (c.dsd_members.ensures i)
    ((c.as_slice-sets.ensures ∙ ap members c.dsd_cardinalities.ensures) i))
    ∙ sym (activation_violations c.args.state.now.facts c.recall_good.ensures c.args.user.now c.args.session.now c.args.role.now
    (refuse_unless-None (contains c.args.state.now.facts.sessions (c.args.session.now, c.args.user.now)) NotOwner all_passed.1.1.1.0)
    (refuse_unless-None (is_authorized c.args.state.now.facts c.args.user.now c.args.role.now) NotAuthorized all_passed.1.1.1.1.0)))
    c.violated_with.ensures.ok

pub returns-clause-verdict : goal.returns-clause-verdict
unfolding verdict refusals
returns-clause-verdict c =
    let S = c.args.state.now.facts in
    let T = after S (AddActiveRole c.args.user.now c.args.session.now c.args.role.now) in
    elim c.violated_with.result as (λ r. IfOk r (λ found. found.items ≡ dynamic_violations T)
    → IfOk r (λ found. verdict S (AddActiveRole c.args.user.now c.args.session.now c.args.role.now)
    ≡ first (add_active_role_refusals S c.args.user.now c.args.session.now c.args.role.now ++ option_map DynamicSeparation (slice_get found.items 0) ∷ []))) [
      | Ok found ↦ λ is. ap (λ o. first (add_active_role_refusals S c.args.user.now c.args.session.now c.args.role.now ++ o ∷ []))
          (dynamic_refusal_of_first T ∙ ap (λ names. option_map DynamicSeparation (slice_get names 0)) (sym is))
      | Err refusal ↦ λ is. is
    ] (returns-clause-value c)
