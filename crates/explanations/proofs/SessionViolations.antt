-- All dynamic sets that one more role of a session violates, by tests of the state before.
use Rattle.std.proofs.Common.{◌≡◌, ◌||◌, ◌∙◌, ap, inl, inr}
use Rattle.std.specs.Prelude.{IsTrue}
use Rattle.rbac_sets.specs.Sets.{Bytes, any, contains, insert, members, seconds}
use Rattle.rbac_sets.specs.declared.command.Command.TheVariants.{AddActiveRole}
use Rattle.rbac_sets.specs.declared.refusal.Refusal.TheVariants.{DynamicSeparation}
use Rattle.role_order.specs.Order.{geq}
use Rattle.role_order.proofs.Members.{same_or_other}
use Rattle.admin_mgr.specs.After.{after, changed}
use Rattle.admin_mgr.specs.Authorization.{is_authorized, is_session_role}
use Rattle.admin_mgr.specs.Good.{IsGood}
use Rattle.admin_mgr.specs.RbacState.{RbacState}
use Rattle.admin_mgr.specs.Refusals.{violates_dynamic}
use Rattle.admin_mgr.specs.Separation.{is_kept_dynamically}
use Rattle.admin_mgr.specs.private.HolderRoles.{is_reached, run_of}
use Rattle.admin_mgr.proofs.StateAfter.SessionLaws.{none_ends_where}
use Rattle.admin_mgr.proofs.Verdicts.AuthorizationLaws.{session_reached}
use Rattle.admin_mgr.proofs.Verdicts.SessionCommandLaws.{activated_goes_on, activated_owned, more_active}
use Rattle.admin_mgr.proofs.Verdicts.TouchLaws.{any_insert, with_sessions, OthersStay, session_violates}
use Rattle.admin_mgr.proofs.Verdicts.ViolationLaws.{with_one-others, with_one-own}
use Rattle.std.specs.Option.{option_map}
use Rattle.std.specs.Prelude.{slice_get}
use Rattle.explanations.specs.Conflicts.{dynamic_violations}
use Rattle.explanations.specs.private.Found.{violated_with}
use Rattle.explanations.proofs.ViolatedSets.{least_is_first, violated_are}

module _ (S : RbacState) (good : IsGood S) (user session role : Bytes) (owner : IsTrue (contains S.sessions (session, user))) (authorized : IsTrue (is_authorized S user role)) where
  others_stay : OthersStay S S.sessions (insert S.active (session, role)) session
  others_stay other someone there = elim (same_or_other other session) [
    | inl same ↦ inl same
    | inr apart ↦ inr (there, with_one-others S.active session role other apart)
  ]

  activated_roles : (q : Bytes) → is_session_role (with_sessions S S.sessions (insert S.active (session, role))) session q ≡ (is_reached S.edges (run_of S.active session) q || geq S.edges role q)
  unfolding with_sessions
  activated_roles q =
      ap (any (λ a. geq S.edges a q)) (with_one-own S.active session role)
      ∙ any_insert (λ a. geq S.edges a q) (seconds S.active session) role
      ∙ ap (λ b. b || geq S.edges role q) (session_reached S session q)

  pub activation_violations : dynamic_violations (after S (AddActiveRole user session role)) ≡ violated_with S.edges (run_of S.active session) role S.dsd.members (members S.dsd.cardinalities)
  unfolding after changed more_active with_sessions
  activation_violations =
      ap dynamic_violations (none_ends_where (with_sessions S S.sessions (insert S.active (session, role)))
      (activated_goes_on S good user session role owner authorized) (activated_owned S good user session role owner authorized))
      ∙ violated_are (is_kept_dynamically (with_sessions S S.sessions (insert S.active (session, role)))) S.dsd _ (λ x there.
      session_violates S good S.sessions (insert S.active (session, role)) session user owner others_stay (λ q. is_reached S.edges (run_of S.active session) q || geq S.edges role q) activated_roles x there)

-- the refusal for separation names the first of them
pub dynamic_refusal_of_first : (S : RbacState) → violates_dynamic S ≡ option_map DynamicSeparation (slice_get (dynamic_violations S) 0)
dynamic_refusal_of_first S = ap (option_map DynamicSeparation) (least_is_first (is_kept_dynamically S) S.dsd)
