-- The rows that the commands on separation of duty sets insert and remove lead to the state after them.
use Rattle.std.proofs.Common.{◌≡◌, ◌≢◌, ℕ, [], ◌∷◌, refl, sym, subst, ap, ◌∙◌}
use Rattle.std.specs.Prelude.{List, Some, None}
use Rattle.rbac_sets.specs.Sets.{Bytes, name_cmp, members}
use Rattle.rbac_sets.specs.SortedSet.{Stored, set_of}
use Rattle.rbac_sets.specs.declared.command.Command.{Command}
use Rattle.rbac_sets.specs.declared.row.Row.TheVariants.{PairRow, SetRow}
use Rattle.rbac_sets.specs.declared.row.Change.{Change}
use Rattle.rbac_sets.specs.declared.row.Change.TheVariants.{Put, Take}
use Rattle.admin_mgr.specs.declared.plan.Plan.{Plan}
use Rattle.admin_mgr.specs.declared.separation_of_duty.SeparationOfDuty.{SeparationOfDuty}
use Rattle.admin_mgr.specs.declared.separation_of_duty.SeparationOfDuty.TheVariants.{Static, Dynamic}
use Rattle.admin_mgr.specs.RbacState.{RbacState, Separation, cardinality_of}
use Rattle.admin_mgr.specs.private.SeparationOfDuty.{sets_of, with_sets, member_rows, cardinality_rows, create_set, add_member, delete_member, set_cardinality, delete_set}
use Rattle.admin_mgr.specs.private.HolderRoles.{run_of}
use Rattle.admin_mgr.specs.Assignment.{no_tally}
use Rattle.admin_mgr.specs.Run.{tally}
use Rattle.admin_mgr.specs.After.{after}
use Rattle.admin_mgr.specs.Verdict.{verdict}
use Rattle.admin_mgr.specs.Changes.{Turns}
use Rattle.admin_mgr.specs.PlanEffect.{tally_of_report, IsPlanOf}
use Rattle.admin_mgr.specs.Good.{IsGood, IsSeparation}
use Rattle.admin_mgr.specs.private.PlanChanges.{pair_row, take_all, put_all}
use Rattle.admin_mgr.proofs.Verdicts.SetCommandViolations.{formed_sets, after_create_set, after_add_member, after_delete_member, after_set_cardinality, after_delete_set}
use Rattle.admin_mgr.proofs.PlanRows.PlanLaws.{plan_of}
use Rattle.admin_mgr.proofs.StateAfter.SetCommandLaws.{same_sets, can_create_set, can_add, can_delete, can_number, can_delete_set, good_after_create_set, good_after_add_member, good_after_delete_member, good_after_set_cardinality, after_same_cardinality, good_after_delete_set}
use Rattle.admin_mgr.proofs.PlanRows.SetRows.{ssd_member_rows, ssd_cardinality_rows, dsd_member_rows, dsd_cardinality_rows}
use Rattle.admin_mgr.proofs.PlanRows.SeparationTurns.{IsKindOfSets, no_set_without_cardinality, turns_add_member, turns_delete_member, turns_create_set, turns_set_cardinality, turns_delete_set}
use Rattle.admin_mgr.proofs.PlanRows.StepLaws.{steps_nothing}
use Rattle.admin_mgr.proofs.PlanRows.TurnLaws.{turns_taking}

-- the sets of each kind have rows of their own
kind_of_sets : (duty : SeparationOfDuty) → IsKindOfSets (member_rows duty) (cardinality_rows duty) (sets_of duty) (with_sets duty)
kind_of_sets Static = record {
  member_rows = ssd_member_rows;
  cardinality_rows = ssd_cardinality_rows;
  got = λ S s. refl;
  again = λ S s t. refl;
}
kind_of_sets Dynamic = record {
  member_rows = dsd_member_rows;
  cardinality_rows = dsd_cardinality_rows;
  got = λ S s. refl;
  again = λ S s t. refl;
}

-- what holds of both kinds holds of either
by_duty : (P : SeparationOfDuty → Type 0) → P Static → P Dynamic → (duty : SeparationOfDuty) → P duty
by_duty P static dynamic Static = static
by_duty P static dynamic Dynamic = dynamic

-- the hierarchy stays the same
same_edges : (duty : SeparationOfDuty) (S : RbacState) (other : Separation) → S.edges ≡ (with_sets duty S other).edges
same_edges Static S other = refl
same_edges Dynamic S other = refl

module _ (duty : SeparationOfDuty) (S : RbacState) (good : IsGood S) (plan : Plan) (report : tally_of_report plan.report ≡ no_tally) (none : plan.order ≡ None) where
  -- a plan whose changes lead to other sets is a plan of the command after which the state has these sets
  plan_of_sets : (command : Command) (changes : List Change) (other : Separation) → tally S command ≡ no_tally → plan.changes.items ≡ changes → after S command ≡ with_sets duty S other → IsGood (after S command) →
      Turns (with_sets duty S (sets_of duty S)) changes (with_sets duty S other) → IsPlanOf S command plan
  plan_of_sets command changes other untold items is well turns =
      let from = subst (λ T. Turns T changes (with_sets duty S other)) (same_sets duty S) turns in
      plan_of S command plan changes untold items report (subst (Turns S changes) (sym is) from) well none (same_edges duty S other ∙ ap (λ T. T.edges) (sym is))

  module _ (name : Bytes) where
    abbrev sets : Separation
    sets = sets_of duty S

    abbrev formed : IsSeparation S.roles sets
    formed = formed_sets duty S good

    -- a set is created: its cardinality and its members are inserted
    pub plan_of_create_set : (roles : Stored Bytes) (n : ℕ) → verdict S (create_set duty name roles n) ≡ None →
        plan.changes.items ≡ Put (SetRow (cardinality_rows duty) name n) ∷ put_all (λ role. PairRow (member_rows duty) name role) (members (set_of name_cmp roles)) → IsPlanOf S (create_set duty name roles n) plan
    unfolding tally
    plan_of_create_set roles n accepted items = plan_of_sets (create_set duty name roles n) _ _ (by_duty (λ kind. tally S (create_set kind name roles n) ≡ no_tally) refl refl duty) items (after_create_set duty S good name roles n) (good_after_create_set duty S name good roles n accepted)
        (turns_create_set (kind_of_sets duty) S sets name S.roles formed (set_of name_cmp roles) n (can_create_set duty S name roles n accepted).absent)

    -- a member is added: its row is inserted
    pub plan_of_add_member : (role : Bytes) → verdict S (add_member duty name role) ≡ None → plan.changes.items ≡ Put (PairRow (member_rows duty) name role) ∷ [] → IsPlanOf S (add_member duty name role) plan
    unfolding tally
    plan_of_add_member role accepted items = plan_of_sets (add_member duty name role) _ _ (by_duty (λ kind. tally S (add_member kind name role) ≡ no_tally) refl refl duty) items (after_add_member duty S good name role) (good_after_add_member duty S name good role accepted)
        (turns_add_member (kind_of_sets duty) S sets name role (can_add duty S name role accepted).absent)

    -- a member is deleted: its row is removed
    pub plan_of_delete_member : (role : Bytes) → verdict S (delete_member duty name role) ≡ None → plan.changes.items ≡ Take (PairRow (member_rows duty) name role) ∷ [] → IsPlanOf S (delete_member duty name role) plan
    unfolding tally
    plan_of_delete_member role accepted items = plan_of_sets (delete_member duty name role) _ _ (by_duty (λ kind. tally S (delete_member kind name role) ≡ no_tally) refl refl duty) items (after_delete_member duty S good name role) (good_after_delete_member duty S name good role accepted)
        (turns_delete_member (kind_of_sets duty) S sets name role (can_delete duty S name role accepted).is_member)

    untold_cardinality : (kind : SeparationOfDuty) (n : ℕ) → tally S (set_cardinality kind name n) ≡ no_tally
    unfolding tally
    untold_cardinality Static n = refl
    untold_cardinality Dynamic n = refl

    -- another cardinality is set: the old one is removed, and the new one inserted
    pub plan_of_set_cardinality : (before n : ℕ) → verdict S (set_cardinality duty name n) ≡ None → cardinality_of sets name ≡ Some before → before ≢ n →
        plan.changes.items ≡ Take (SetRow (cardinality_rows duty) name before) ∷ Put (SetRow (cardinality_rows duty) name n) ∷ [] → IsPlanOf S (set_cardinality duty name n) plan
    plan_of_set_cardinality before n accepted told other items =
        plan_of_sets (set_cardinality duty name n) _ _ (untold_cardinality duty n) items (after_set_cardinality duty S good name n) (good_after_set_cardinality duty S name good n accepted)
        (turns_set_cardinality (kind_of_sets duty) S sets name S.roles formed before n told other)

    -- the same cardinality is set: nothing changes
    pub plan_of_same_cardinality : (n : ℕ) → verdict S (set_cardinality duty name n) ≡ None → cardinality_of sets name ≡ Some n → plan.changes.items ≡ [] → IsPlanOf S (set_cardinality duty name n) plan
    plan_of_same_cardinality n accepted told items =
        let same = after_same_cardinality duty S name good n told in
        plan_of S (set_cardinality duty name n) plan [] (untold_cardinality duty n) items report (subst (Turns S []) (sym same) (turns_taking (steps_nothing S))) (good_after_set_cardinality duty S name good n accepted) none
        (ap (λ T. T.edges) (sym same))

    -- a set is deleted: its cardinality and its members are removed
    pub plan_of_delete_set : (n : ℕ) → cardinality_of sets name ≡ Some n →
        plan.changes.items ≡ Take (SetRow (cardinality_rows duty) name n) ∷ take_all (pair_row (member_rows duty)) (run_of sets.members name) → IsPlanOf S (delete_set duty name) plan
    unfolding tally
    plan_of_delete_set n told items = plan_of_sets (delete_set duty name) _ _ (by_duty (λ kind. tally S (delete_set kind name) ≡ no_tally) refl refl duty) items (after_delete_set duty S good name) (good_after_delete_set duty S name good)
        (turns_delete_set (kind_of_sets duty) S sets name S.roles formed n told)

-- ---- a set that has no cardinality

module _ (duty : SeparationOfDuty) (S : RbacState) (name : Bytes) (untold : cardinality_of (sets_of duty S) name ≡ None) where
  -- no accepted command sets another one
  pub none_set : (n : ℕ) → verdict S (set_cardinality duty name n) ≡ None → ⊥
  none_set n accepted = no_set_without_cardinality (sets_of duty S) name untold (can_number duty S name n accepted).there

  -- no accepted command deletes it
  pub none_deleted : verdict S (delete_set duty name) ≡ None → ⊥
  none_deleted accepted = no_set_without_cardinality (sets_of duty S) name untold (can_delete_set duty S name accepted)
