use Rattle.std.proofs.Common.{◌≡◌, false, sym, ◌∙◌, ap, subst, ◌++◌, ◌∷◌, [], Ok, Err}
use Rattle.std.specs.Prelude.{IfOk, slice_get}
use Rattle.std.specs.Option.{option_map}
use Rattle.rbac_sets.specs.Sets.{Bytes, Pair, all, contains, members, name_cmp}
use Rattle.rbac_sets.specs.SortedSet.{set_of}
use Rattle.rbac_sets.specs.declared.command.Command.TheVariants.{CreateSession}
use Rattle.rbac_sets.specs.declared.refusal.Refusal.TheVariants.{DynamicSeparation, NotAuthorized, NoUser, UserLocked}
use Rattle.admin_mgr.specs.After.{after}
use Rattle.admin_mgr.specs.Authorization.{is_authorized}
use Rattle.admin_mgr.specs.RbacState.{has_session}
use Rattle.admin_mgr.specs.Refusals.{first}
use Rattle.admin_mgr.specs.Verdict.{create_session_refusals, refusals, verdict}
use Rattle.admin_mgr.proofs.Verdicts.VerdictLaws.{none_unless_some, passed, refuse_if-None, refuse_unless-None}
use Rattle.explanations.specs.Conflicts.{creation_refusals, violated_members}
use Rattle.explanations.specs.private.Found.{violated_with_roles}
use Rattle.explanations.proofs.SessionCreation.{creation_refusal, creation_violations}
use Rattle.explanations.proofs.creation.violated_by_creation.Goals as goal

pub returns-clause-value : goal.returns-clause-value
returns-clause-value c =
    let S = c.args.state.now.facts in
    let R = set_of name_cmp c.args.roles.now in
    let all_passed = passed (creation_refusals S c.args.user.now R) (sym c.refuse_creation.ensures ∙ none_unless_some _ c.in_default.not-Some) in
    elim c.violated_with_roles.result as (λ r. IfOk r (λ pairs. pairs.items ≡ violated_with_roles S.edges (members R) S.dsd.members (members S.dsd.cardinalities))
    → IfOk r (λ pairs. (session : Bytes) → has_session S session ≡ false → pairs.items ≡ violated_members (after S (CreateSession c.args.user.now c.args.roles.now session)) session)) [
      | Ok pairs ↦ λ is session new. is ∙ sym (creation_violations S c.recall_good.ensures c.args.user.now c.args.roles.now session new
          (refuse_unless-None (contains S.users c.args.user.now) NoUser all_passed.0)
          (refuse_if-None (contains S.locked c.args.user.now) UserLocked all_passed.1.1.1.0)
          (refuse_unless-None (all (is_authorized S c.args.user.now) R) NotAuthorized all_passed.1.1.0))
      | Err refusal ↦ λ is. is
    ] (subst (λ found. IfOk c.violated_with_roles.result (λ pairs. pairs.items ≡ found))
    (λ i. violated_with_roles (c.order.ensures i) (c.as_slice.ensures i) (c.dsd_members.ensures i) ((c.as_slice-sets.ensures ∙ ap members c.dsd_cardinalities.ensures) i))
    c.violated_with_roles.ensures.ok)

pub returns-clause-verdict : goal.returns-clause-verdict
unfolding verdict refusals
returns-clause-verdict c =
    let S = c.args.state.now.facts in
    let R = set_of name_cmp c.args.roles.now in
    let all_passed = passed (creation_refusals S c.args.user.now R) (sym c.refuse_creation.ensures ∙ none_unless_some _ c.in_default.not-Some) in
    elim c.violated_with_roles.result as (λ r. IfOk r (λ pairs. pairs.items ≡ violated_with_roles S.edges (members R) S.dsd.members (members S.dsd.cardinalities))
    → IfOk r (λ pairs. (session : Bytes) → has_session S session ≡ false → verdict S (CreateSession c.args.user.now c.args.roles.now session)
    ≡ first (create_session_refusals S c.args.user.now R session ++ option_map DynamicSeparation (option_map (λ (pair : Pair). pair.0) (slice_get pairs.items 0)) ∷ []))) [
      | Ok pairs ↦ λ is session new. ap (λ o. first (create_session_refusals S c.args.user.now R session ++ o ∷ []))
          (creation_refusal S c.recall_good.ensures c.args.user.now c.args.roles.now session new
          (refuse_unless-None (contains S.users c.args.user.now) NoUser all_passed.0)
          (refuse_if-None (contains S.locked c.args.user.now) UserLocked all_passed.1.1.1.0)
          (refuse_unless-None (all (is_authorized S c.args.user.now) R) NotAuthorized all_passed.1.1.0)
          ∙ ap (λ found. option_map DynamicSeparation (option_map (λ (pair : Pair). pair.0) (slice_get found 0))) (sym is))
      | Err refusal ↦ λ is. is
    ] (subst (λ found. IfOk c.violated_with_roles.result (λ pairs. pairs.items ≡ found))
    (λ i. violated_with_roles (c.order.ensures i) (c.as_slice.ensures i) (c.dsd_members.ensures i) ((c.as_slice-sets.ensures ∙ ap members c.dsd_cardinalities.ensures) i))
    c.violated_with_roles.ensures.ok)
