-- What holds after a deassignment or a revocation in force.
use Rattle.std.proofs.Common.{◌≡◌, Bool, false, refl, sym, ◌∙◌, ap, subst, inl, inr}
use Rattle.std.specs.Prelude.{◌⊎◌, ◌&&◌, IsTrue, not}
use Rattle.std.proofs.lemmas.Bool.{true≢false, and_parts, false_from_ne_true}
use Rattle.rbac_sets.specs.Sets.{Bytes, Pair, contains, retain}
use Rattle.rbac_sets.specs.NameOrder.{name_total, name_exact, pair_total, pair_exact, triple_total, triple_exact}
use Rattle.rbac_sets.proofs.SetLaws.{contains-remove, contains-retain, any-Decides, image-Decides, tie_Decides}
use Rattle.rbac_sets.specs.declared.command.Command.TheVariants.{DeassignUser, RevokePermission}
use Rattle.role_order.specs.Order.{geq}
use Rattle.admin_mgr.specs.RbacState.{RbacState}
use Rattle.admin_mgr.specs.Assignment.{end_sessions}
use Rattle.admin_mgr.specs.Authorization.{authorized_users, is_authorized, session_roles, has_access}
use Rattle.admin_mgr.specs.After.{changed, after}
use Rattle.admin_mgr.specs.OfficeRun.{assigns, grants_to}
use Rattle.role_tables.specs.OfficeHistory.{DeassignedStays, RevokedStays}
use Rattle.role_tables.proofs.OfficeHistory.Known.{GoodnessLaws, EffectLaws}
use Rattle.role_tables.proofs.OfficeHistory.InForce.{away_in_force}
use Rattle.role_tables.proofs.OfficeHistory.Openings.{reached_opens, last_is_sound}

-- what wasn't there, and could only be added by something that isn't done, isn't there afterwards
absent : (was gives is : Bool) → (IsTrue is → IsTrue was ⊎ IsTrue gives) → gives ≡ false → was ≡ false → is ≡ false
absent was gives is comes none away = false_from_ne_true is (λ there. elim (comes there) [
  | inl old ↦ true≢false (sym old ∙ away)
  | inr new ↦ true≢false (sym new ∙ none)
])

-- ---- assignments

-- what is deassigned isn't assigned
after_deassignment : (user role : Bytes) (S : RbacState) → contains (after S (DeassignUser user role)).assignments (user, role) ≡ false
unfolding after changed end_sessions
after_deassignment user role S = contains-remove pair_total S.assignments (user, role) (user, role)
    ∙ ap (λ b. not b && contains S.assignments (user, role)) ((tie_Decides pair_total pair_exact (user, role) (user, role)).1 refl)

-- an authorized user is assigned to the role or to a senior of it
assigned_above : (T : RbacState) (user role : Bytes) → IsTrue (is_authorized T user role) →
    (other : Bytes) × IsTrue (contains T.assignments (user, other)) × IsTrue (geq T.edges other role)
unfolding authorized_users
assigned_above T user role authorized =
    let is_above : Pair → Bool = λ assignment. geq T.edges assignment.1 role in
    let found = (image-Decides pair_total pair_exact name_total name_exact (λ (assignment : Pair). assignment.0) (retain T.assignments is_above) user).0 authorized in
    let parts = and_parts _ _ (sym (contains-retain pair_total pair_exact T.assignments is_above found.0) ∙ found.1) in
    (found.0.1, subst (λ (name : Bytes). IsTrue (contains T.assignments (name, found.0.1))) found.2 parts.0, parts.1)

-- ---- grants

-- what is revoked isn't granted
after_revocation : (object operation role : Bytes) (S : RbacState) → contains (after S (RevokePermission object operation role)).grants (object, operation, role) ≡ false
unfolding after changed end_sessions
after_revocation object operation role S = contains-remove triple_total S.grants (object, operation, role) (object, operation, role)
    ∙ ap (λ b. not b && contains S.grants (object, operation, role)) ((tie_Decides triple_total triple_exact (object, operation, role) (object, operation, role)).1 refl)

-- ---- the laws

module _ (laws : GoodnessLaws) (effects : EffectLaws) where
  pub deassigned_stays : DeassignedStays
  deassigned_stays before last T reached user role in_force = record {
    assignment = away;
    sessions = λ session active owned activated.
        (let found = assigned_above T user active ((last_is_sound laws before last T reached).0.authorized session user active owned activated) in
        (found.0, (λ same. true≢false (sym (subst (λ (name : Bytes). IsTrue (contains T.assignments (user, name))) same found.1) ∙ away)), found.1, found.2));
  }
    where
      away : contains T.assignments (user, role) ≡ false
      away = away_in_force (λ (S : RbacState). contains S.assignments (user, role) ≡ false) (assigns user role) (DeassignUser user role)
          (λ S command. absent (contains S.assignments (user, role)) (assigns user role command) (contains (after S command).assignments (user, role)) (effects.assigned S command user role))
          (after_deassignment user role) (λ S was. was) _ before last T reached.are_runs (reached_opens laws before last T reached) in_force

  pub revoked_stays : RevokedStays
  unfolding has_access
  revoked_stays before last T reached object operation role in_force = record {
    grant = away;
    access = λ session allowed.
        (let found = (any-Decides name_total name_exact (λ (name : Bytes). contains T.grants (object, operation, name)) (session_roles T session)).0 allowed in
        (found.0, (λ same. true≢false (sym (subst (λ (name : Bytes). IsTrue (contains T.grants (object, operation, name))) same found.2) ∙ away)), found.1, found.2));
  }
    where
      away : contains T.grants (object, operation, role) ≡ false
      away = away_in_force (λ (S : RbacState). contains S.grants (object, operation, role) ≡ false) (grants_to object operation role) (RevokePermission object operation role)
          (λ S command. absent (contains S.grants (object, operation, role)) (grants_to object operation role command) (contains (after S command).grants (object, operation, role)) (effects.granted S command object operation role))
          (after_revocation object operation role) (λ S was. was) _ before last T reached.are_runs (reached_opens laws before last T reached) in_force
