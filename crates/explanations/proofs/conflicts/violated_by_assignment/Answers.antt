use Rattle.std.proofs.Common.{◌≡◌, sym, ◌∙◌, ap, subst, ◌++◌, ◌∷◌, [], Ok, Err}
use Rattle.std.specs.Prelude.{IfOk, IsTrue, slice_get}
use Rattle.std.specs.List.{list_all}
use Rattle.std.specs.Option.{option_map}
use Rattle.rbac_sets.specs.Sets.{Pair, all, contains, members}
use Rattle.rbac_sets.specs.declared.command.Command.TheVariants.{AssignUser}
use Rattle.rbac_sets.specs.declared.refusal.Refusal.TheVariants.{StaticSeparation}
use Rattle.admin_mgr.specs.Assignment.{after_assignment, assign_user_refusals, assignment_refusals}
use Rattle.admin_mgr.specs.Refusals.{first}
use Rattle.admin_mgr.specs.Verdict.{refusals, verdict}
use Rattle.admin_mgr.specs.private.HolderRoles.{run_of}
use Rattle.explanations.specs.Conflicts.{static_violations}
use Rattle.explanations.specs.private.Found.{violated_with}
use Rattle.explanations.proofs.ViolatedSets.{assignment_violations, refusal_of_first}
use Rattle.explanations.proofs.NumberedHolders.{assigned_are_there, run_there, static_members_are_there}
use Rattle.explanations.proofs.conflicts.violated_by_assignment.Goals as goal

pub violated_with-requires-clause-held : goal.violated_with-requires-clause-held
violated_with-requires-clause-held c =
    let S = c.args.state.now.facts in
    ap (list_all (λ (pair : Pair). contains S.roles pair.1)) (c.with_first-held.ensures ∙ ap (λ s. run_of s c.args.user.now) c.assignments.ensures)
    ∙ run_there S.roles S.assignments (assigned_are_there S c.recall_good.ensures.well_formed) c.args.user.now

pub violated_with-requires-clause-more : goal.violated_with-requires-clause-more
violated_with-requires-clause-more c =
    ap (λ roles. contains roles c.args.role.now) (sym c.roles.ensures) ∙ sym c.contains-2.ensures ∙ c.if-not-contains-2.false

pub violated_with-requires-clause-members : goal.violated_with-requires-clause-members
violated_with-requires-clause-members c =
    let S = c.args.state.now.facts in
    ap (all (λ (pair : Pair). contains S.roles pair.1)) c.ssd_members.ensures ∙ static_members_are_there S c.recall_good.ensures.well_formed

pub returns-clause-value : goal.returns-clause-value
returns-clause-value c =
    let is_user : IsTrue (contains c.args.state.now.facts.users c.args.user.now) = ap (λ users. contains users c.args.user.now) (sym c.users.ensures) ∙ sym c.contains.ensures ∙ c.if-not-contains.false in
    subst (λ names. IfOk c.violated_with.result (λ found. found.items ≡ names))
    ((λ i. violated_with c.args.state.now.facts.edges ((c.with_first-held.ensures ∙ ap (λ s. run_of s c.args.user.now) c.assignments.ensures) i) c.args.role.now (c.ssd_members.ensures i)
    ((c.as_slice-sets.ensures ∙ ap members c.ssd_cardinalities.ensures) i))
    ∙ sym (assignment_violations c.args.state.now.facts c.recall_good.ensures c.args.user.now c.args.role.now is_user))
    c.violated_with.ensures.ok

pub returns-clause-verdict : goal.returns-clause-verdict
unfolding verdict refusals assignment_refusals
returns-clause-verdict c =
    let T = after_assignment c.args.state.now.facts (c.args.user.now, c.args.role.now) in
    elim c.violated_with.result as (λ r. IfOk r (λ found. found.items ≡ static_violations T)
    → IfOk r (λ found. verdict c.args.state.now.facts (AssignUser c.args.user.now c.args.role.now)
    ≡ first (assign_user_refusals c.args.state.now.facts (c.args.user.now, c.args.role.now) ++ option_map StaticSeparation (slice_get found.items 0) ∷ []))) [
      | Ok found ↦ λ is. ap (λ o. first (assign_user_refusals c.args.state.now.facts (c.args.user.now, c.args.role.now) ++ o ∷ []))
          (refusal_of_first T ∙ ap (λ names. option_map StaticSeparation (slice_get names 0)) (sym is))
      | Err refusal ↦ λ is. is
    ] (returns-clause-value c)
