-- What commands add to the assignments and to the grants, and that they keep the version.
use Rattle.std.proofs.Common.{◌≡◌, Bool, true, false, cond, List, [], ◌∷◌, refl, sym, ◌∙◌, ap, inl, inr}
use Rattle.std.specs.Prelude.{IsTrue, ◌⊎◌, ◌&&◌, is_none}
use Rattle.std.specs.List.{list_any}
use Rattle.std.proofs.lemmas.Bool.{and_parts, and_from, or_left, or_right}
use Rattle.rbac_sets.specs.Sets.{Bytes, Pair, Triples, contains, same_name}
use Rattle.rbac_sets.specs.NameOrder.{name_total, name_exact, pair_total, pair_exact, triple_total, triple_exact}
use Rattle.rbac_sets.proofs.SetLaws.{contains-retain, contains-remove, contains-insert-Decides, tie_Decides}
use Rattle.rbac_sets.specs.declared.command.Command.TheVariants.{DeleteRole, DeletePermission, GrantPermission, RevokePermission, AssignUser, DeassignUser, DeleteUser, ImportAssignments}
use Rattle.admin_mgr.specs.RbacState.{RbacState}
use Rattle.admin_mgr.specs.Assignment.{after_assignment, after_record, after_import, assignment_verdict, end_sessions}
use Rattle.admin_mgr.specs.After.{changed, after}
use Rattle.admin_mgr.specs.CommandLaws.{AssignedByCommand, GrantedByCommand, VersionStays}

-- the test holds of equal names
same : (a b : Bytes) → a ≡ b → IsTrue (same_name a b)
same a b = (tie_Decides name_total name_exact a b).1

-- ---- the assignments

module _ (user role : Bytes) where
  -- a record adds only its own pair
  record_adds : (S : RbacState) (pair : Pair) → IsTrue (contains (after_record S pair).assignments (user, role)) →
      IsTrue (contains S.assignments (user, role)) ⊎ IsTrue (same_name pair.0 user && same_name pair.1 role)
  unfolding after_record after_assignment end_sessions
  record_adds S pair = by (is_none (assignment_verdict S pair))
    where
      by : (b : Bool) → IsTrue (contains (cond b (after_assignment S pair) S).assignments (user, role)) →
          IsTrue (contains S.assignments (user, role)) ⊎ IsTrue (same_name pair.0 user && same_name pair.1 role)
      by true h = elim ((contains-insert-Decides pair_total pair_exact S.assignments pair (user, role)).0 h) [
        | inl one ↦ inr (and_from _ _ (same pair.0 user (λ i. (sym one i).0)) (same pair.1 role (λ i. (sym one i).1)))
        | inr old ↦ inl old
      ]
      by false h = inl h

  -- an import adds only the pairs of its records
  import_adds : (S : RbacState) (pairs : List Pair) → IsTrue (contains (after_import S pairs).assignments (user, role)) →
      IsTrue (contains S.assignments (user, role)) ⊎ IsTrue (list_any (λ (pair : Pair). same_name pair.0 user && same_name pair.1 role) pairs)
  unfolding after_import
  import_adds S [] h = inl h
  import_adds S (pair ∷ pairs) h = elim (import_adds (after_record S pair) pairs h) [
    | inl was ↦ elim (record_adds S pair was) [ inl old ↦ inl old | inr one ↦ inr (or_left _ _ one) ]
    | inr later ↦ inr (or_right _ _ later)
  ]

-- only assignUser and an import add an assignment
pub assigned_by_command : AssignedByCommand
unfolding after changed end_sessions
assigned_by_command S (DeleteUser gone) user role h = inl (and_parts _ _ (sym (contains-retain pair_total pair_exact S.assignments _ (user, role)) ∙ h)).0
assigned_by_command S (DeleteRole gone) user role h = inl (and_parts _ _ (sym (contains-retain pair_total pair_exact S.assignments _ (user, role)) ∙ h)).0
assigned_by_command S (DeassignUser from gone) user role h = inl (and_parts _ _ (sym (contains-remove pair_total S.assignments (from, gone) (user, role)) ∙ h)).1
assigned_by_command S (AssignUser to new) user role h = elim ((contains-insert-Decides pair_total pair_exact S.assignments (to, new) (user, role)).0 h) [
  | inl one ↦ inr (and_from _ _ (same to user (λ i. (sym one i).0)) (same new role (λ i. (sym one i).1)))
  | inr old ↦ inl old
]
assigned_by_command S (ImportAssignments pairs) user role h = import_adds user role S pairs.items h
assigned_by_command S _ user role h = inl h

-- ---- what an import keeps

-- an import keeps what each assignment keeps
pub import_keeps : {A : Type 0} (part : RbacState → A) → ((S : RbacState) (pair : Pair) → part (after_assignment S pair) ≡ part S) → (S : RbacState) (pairs : List Pair) →
    part (after_import S pairs) ≡ part S
unfolding after_import after_record
import_keeps part keeps S [] = refl
import_keeps {A} part keeps S (pair ∷ pairs) = import_keeps part keeps (after_record S pair) pairs ∙ by (is_none (assignment_verdict S pair))
  where
    by : (b : Bool) → part (cond b (after_assignment S pair) S) ≡ part S
    by true = keeps S pair
    by false = refl

-- it keeps the grants
grants_stay : (S : RbacState) (pair : Pair) → (after_assignment S pair).grants ≡ S.grants
unfolding after_assignment end_sessions
grants_stay S pair = refl

-- and the version
version_kept : (S : RbacState) (pair : Pair) → (after_assignment S pair).version ≡ S.version
unfolding after_assignment end_sessions
version_kept S pair = refl

-- ---- the grants

-- only grantPermission adds a grant
pub granted_by_command : GrantedByCommand
unfolding after changed end_sessions
granted_by_command S (DeleteRole gone) object operation role h = inl (and_parts _ _ (sym (contains-retain triple_total triple_exact S.grants _ (object, operation, role)) ∙ h)).0
granted_by_command S (DeletePermission on gone) object operation role h =
    inl (and_parts _ _ (sym (contains-retain triple_total triple_exact S.grants _ (object, operation, role)) ∙ h)).0
granted_by_command S (RevokePermission on gone from) object operation role h =
    inl (and_parts _ _ (sym (contains-remove triple_total S.grants (on, gone, from) (object, operation, role)) ∙ h)).1
granted_by_command S (GrantPermission on new to) object operation role h =
    elim ((contains-insert-Decides triple_total triple_exact S.grants (on, new, to) (object, operation, role)).0 h) [
      | inl one ↦ inr (and_from _ _ (and_from _ _ (same on object (λ i. (sym one i).0)) (same new operation (λ i. (sym one i).1))) (same to role (λ i. (sym one i).2)))
      | inr old ↦ inl old
    ]
granted_by_command S (ImportAssignments pairs) object operation role h =
    inl (sym (ap (λ (grants : Triples). contains grants (object, operation, role)) (import_keeps (λ T. T.grants) grants_stay S pairs.items)) ∙ h)
granted_by_command S _ object operation role h = inl h

-- ---- the version

-- no command changes it
pub version_stays : VersionStays
unfolding after changed end_sessions
version_stays S (ImportAssignments pairs) = import_keeps (λ T. T.version) version_kept S pairs.items
version_stays S _ = refl
