use Rattle.std.proofs.Common.{◌≡◌, map, sym, ◌∙◌, ap, subst, ◌++◌, ◌∷◌, [], Ok, Err}
use Rattle.std.specs.Prelude.{IfOk, slice_get}
use Rattle.std.specs.Option.{option_map}
use Rattle.rbac_sets.specs.Sets.{Pair, all, contains, members}
use Rattle.rbac_sets.specs.declared.command.Command.TheVariants.{AddInheritance}
use Rattle.rbac_sets.specs.declared.refusal.Refusal.TheVariants.{DynamicSeparation, Cycle, NoRole}
use Rattle.role_order.specs.Order.{geq}
use Rattle.admin_mgr.specs.After.{after}
use Rattle.admin_mgr.specs.Refusals.{first, violates_static}
use Rattle.admin_mgr.specs.Verdict.{add_inheritance_refusals, refusals, verdict}
use Rattle.admin_mgr.proofs.Verdicts.VerdictLaws.{none_unless_some, passed, refuse_if-None, refuse_unless-None}
use Rattle.explanations.specs.Conflicts.{dynamic_conflicts, inheritance_refusals}
use Rattle.explanations.specs.private.Found.{conflicts_with, first_with}
use Rattle.explanations.proofs.InheritanceConflicts.{sessions_below, dynamic_refusal_listed}
use Rattle.explanations.proofs.NumberedHolders.{active_are_there, dynamic_members_are_there}
use Rattle.explanations.proofs.inheritance.violated_in_sessions.Goals as goal

pub conflicts_below-requires-clause-pairs : goal.conflicts_below-requires-clause-pairs
conflicts_below-requires-clause-pairs c =
    let S = c.args.state.now.facts in
    ap (all (λ (pair : Pair). contains S.roles pair.1)) c.active.ensures ∙ active_are_there S c.recall_good.ensures.well_formed

pub conflicts_below-requires-clause-more : goal.conflicts_below-requires-clause-more
conflicts_below-requires-clause-more c =
    let S = c.args.state.now.facts in
    let all_passed = passed (inheritance_refusals S c.args.asc.now c.args.desc.now) (sym c.refuse_inheritance.ensures ∙ none_unless_some _ c.in_default.not-Some) in
    refuse_unless-None (contains S.roles c.args.desc.now) NoRole all_passed.1.0

pub conflicts_below-requires-clause-members : goal.conflicts_below-requires-clause-members
conflicts_below-requires-clause-members c =
    let S = c.args.state.now.facts in
    ap (all (λ (pair : Pair). contains S.roles pair.1)) c.dsd_members.ensures ∙ dynamic_members_are_there S c.recall_good.ensures.well_formed

pub returns-clause-value : goal.returns-clause-value
returns-clause-value c =
    let S = c.args.state.now.facts in
    let all_passed = passed (inheritance_refusals S c.args.asc.now c.args.desc.now) (sym c.refuse_inheritance.ensures ∙ none_unless_some _ c.in_default.not-Some) in
    let sessions = ap (map (λ one. one.now)) c.deref.ensures.value ∙ c.in_ok-sessions.ensures in
    subst (λ conflicts. IfOk c.conflicts_below.result (λ found. found.items ≡ conflicts))
    ((λ i. conflicts_with (first_with S.edges (c.active.ensures i) c.args.desc.now (sessions i)) (c.dsd_members.ensures i) ((c.as_slice-sets.ensures ∙ ap members c.dsd_cardinalities.ensures) i))
    ∙ sym (sessions_below S c.recall_good.ensures c.args.asc.now c.args.desc.now (refuse_if-None (geq S.edges c.args.desc.now c.args.asc.now) Cycle all_passed.1.1.0)))
    c.conflicts_below.ensures.ok

pub returns-clause-verdict : goal.returns-clause-verdict
unfolding verdict refusals
returns-clause-verdict c =
    let S = c.args.state.now.facts in
    let T = after S (AddInheritance c.args.asc.now c.args.desc.now) in
    elim c.conflicts_below.result as (λ r. IfOk r (λ found. found.items ≡ dynamic_conflicts T)
    → IfOk r (λ found. verdict S (AddInheritance c.args.asc.now c.args.desc.now)
    ≡ first (add_inheritance_refusals S c.args.asc.now c.args.desc.now ++ violates_static T ∷ option_map DynamicSeparation (option_map (λ (conflict : Pair). conflict.0) (slice_get found.items 0)) ∷ []))) [
      | Ok found ↦ λ is. ap (λ o. first (add_inheritance_refusals S c.args.asc.now c.args.desc.now ++ violates_static T ∷ o ∷ []))
          (dynamic_refusal_listed T ∙ ap (λ conflicts. option_map DynamicSeparation (option_map (λ (conflict : Pair). conflict.0) (slice_get conflicts 0))) (sym is))
      | Err refusal ↦ λ is. is
    ] (returns-clause-value c)
