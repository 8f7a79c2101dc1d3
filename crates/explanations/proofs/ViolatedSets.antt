-- All sets that a state violates, by tests of the state before a command.
use Rattle.std.proofs.Common.{◌≡◌, ◌≢◌, ℕ, ◌<◌, Bool, cond, not, ◌||◌, List, [], ◌∷◌, map, refl, sym, ◌∙◌, ap, subst, inl, inr}
use Rattle.std.specs.Prelude.{IsTrue, nat_lt, count_by, slice_get}
use Rattle.std.specs.Option.{option_map}
use Rattle.std.specs.List.{filter, list_any}
use Rattle.std.specs.Ordering.{eq_by_cmp}
use Rattle.std.specs.Cmp.{both_ways}
use Rattle.std.proofs.lemmas.Bool.{or_cases, or_left, or_right, ltb-true, lt-ltb}
use Rattle.rbac_sets.specs.NameOrder.{cardinality_total, cardinality_exact}
use Rattle.rbac_sets.specs.Sets.{Bytes, Pair, Names, Cardinality, cardinality_cmp, contains, count, members}
use Rattle.rbac_sets.proofs.Lists.{find_filter}
use Rattle.rbac_sets.proofs.Members.{members-retain}
use Rattle.rbac_sets.proofs.SetLaws.{tie_Decides, contains-members}
use Rattle.rbac_sets.specs.declared.refusal.Refusal.TheVariants.{StaticSeparation}
use Rattle.role_order.specs.Order.{geq}
use Rattle.role_order.proofs.Members.{same_or_other}
use Rattle.role_order.proofs.Runs.{count_seconds}
use Rattle.admin_mgr.specs.Assignment.{after_assignment, end_sessions}
use Rattle.admin_mgr.specs.Authorization.{authorized_users, is_authorized}
use Rattle.admin_mgr.specs.Good.{IsGood}
use Rattle.admin_mgr.specs.RbacState.{RbacState, Separation, members_of}
use Rattle.admin_mgr.specs.Refusals.{violates_static}
use Rattle.admin_mgr.specs.Separation.{is_kept_statically, least_violated}
use Rattle.admin_mgr.specs.private.HolderRoles.{is_reached, reached_with, run_of}
use Rattle.admin_mgr.proofs.Verdicts.AuthorizationLaws.{authorized_reached}
use Rattle.admin_mgr.proofs.Verdicts.SeparationLaws.{kept_statically}
use Rattle.admin_mgr.proofs.Verdicts.TouchLaws.{authorized-assigned, with_assignment}
use Rattle.explanations.specs.Conflicts.{static_violations, violated_sets}

-- two tests that agree on a list keep the same
filter_same : (p q : Cardinality → Bool) (xs : List Cardinality) → ((x : Cardinality) → IsTrue (list_any (eq_by_cmp cardinality_cmp x) xs) → p x ≡ q x) → filter p xs ≡ filter q xs
filter_same p q [] same = refl
filter_same p q (x ∷ xs) same =
    (λ i. cond (same x (or_left (eq_by_cmp cardinality_cmp x x) _ ((tie_Decides cardinality_total cardinality_exact x x).1 refl)) i) (x ∷ filter p xs) (filter p xs))
    ∙ ap (λ rest. cond (q x) (x ∷ rest) rest) (filter_same p q xs (λ y there. same y (or_right (eq_by_cmp cardinality_cmp y x) _ there)))

-- the violated sets, by another test of the sets that are there
pub violated_are : (is_kept : Names → ℕ → Bool) (separation : Separation) (test : Cardinality → Bool)
    → ((x : Cardinality) → IsTrue (contains separation.cardinalities x) → not (is_kept (members_of separation x.0) x.1) ≡ test x)
    → violated_sets is_kept separation ≡ map (λ (x : Cardinality). x.0) (filter test (members separation.cardinalities))
unfolding violated_sets
violated_are is_kept separation test same =
    ap (map (λ (x : Cardinality). x.0))
    (members-retain cardinality_total cardinality_exact separation.cardinalities (λ (x : Cardinality). not (is_kept (members_of separation x.0) x.1))
    ∙ filter_same (λ (x : Cardinality). not (is_kept (members_of separation x.0) x.1)) test (members separation.cardinalities)
    (λ x there. same x (contains-members separation.cardinalities x ∙ there)))

first_of_map : {X Y : Type 0} (f : X → Y) (xs : List X) → slice_get (map f xs) 0 ≡ option_map f (slice_get xs 0)
first_of_map f [] = refl
first_of_map f (x ∷ xs) = refl

-- the least violated set is the first of them
pub least_is_first : (is_kept : Names → ℕ → Bool) (separation : Separation) → least_violated is_kept separation ≡ slice_get (violated_sets is_kept separation) 0
unfolding least_violated violated_sets
least_is_first is_kept separation =
    ap (option_map (λ (x : Cardinality). x.0)) (find_filter (λ (x : Cardinality). not (is_kept (members_of separation x.0) x.1)) (members separation.cardinalities)
    ∙ ap (λ xs. slice_get xs 0) (sym (members-retain cardinality_total cardinality_exact separation.cardinalities (λ (x : Cardinality). not (is_kept (members_of separation x.0) x.1)))))
    ∙ sym (first_of_map (λ (x : Cardinality). x.0) _)

-- ---- a user is assigned one more role

others_as_before : (S : RbacState) (user role other : Bytes) → (other ≢ user) → (q : Bytes) → is_authorized (with_assignment S (user, role)) other q ≡ is_authorized S other q
others_as_before S user role other apart q = both_ways _ _
    (λ h. elim ((authorized-assigned S user role other q).0 h) [ inl was ↦ was | inr new ↦ absurd (apart new.0) ])
    (λ h. (authorized-assigned S user role other q).1 (inl h))

user_reached : (S : RbacState) (user role q : Bytes) → is_authorized (with_assignment S (user, role)) user q ≡ (is_reached S.edges (run_of S.assignments user) q || geq S.edges role q)
user_reached S user role q =
    both_ways (is_authorized (with_assignment S (user, role)) user q) (is_authorized S user q || geq S.edges role q)
    (λ h. elim ((authorized-assigned S user role user q).0 h) [ inl was ↦ or_left (is_authorized S user q) _ was | inr new ↦ or_right (is_authorized S user q) _ new.1 ])
    (λ h. (authorized-assigned S user role user q).1 (elim (or_cases (is_authorized S user q) (geq S.edges role q) h) [ inl was ↦ inl was | inr new ↦ inr (refl, new) ]))
    ∙ ap (λ b. b || geq S.edges role q) (authorized_reached S user q)

module _ (S : RbacState) (good : IsGood S) (user role : Bytes) (is_user : IsTrue (contains S.users user)) where
  -- only this user has to be counted again
  kept_by_user : (x : Cardinality) → IsTrue (contains S.ssd.cardinalities x) →
      is_kept_statically (with_assignment S (user, role)) (members_of S.ssd x.0) x.1 ≡ nat_lt (count (is_authorized (with_assignment S (user, role)) user) (members_of S.ssd x.0)) x.1
  unfolding with_assignment
  kept_by_user x there = both_ways _ _
      (λ h. lt-ltb _ _ ((kept_statically (with_assignment S (user, role)) (members_of S.ssd x.0) x.1).0 h user is_user))
      (λ h. (kept_statically (with_assignment S (user, role)) (members_of S.ssd x.0) x.1).1 (λ other _. elim (same_or_other other user) [
        | inl same ↦ subst (λ u. count (is_authorized (with_assignment S (user, role)) u) (members_of S.ssd x.0) < x.1) (sym same) (ltb-true _ _ h)
        | inr apart ↦ subst (λ k. k < x.1) (λ i. count (λ q. sym (others_as_before S user role other apart q) i) (members_of S.ssd x.0)) (good.static_separation x.0 other x.1 there)
      ]))

  pub assignment_violations : static_violations (after_assignment S (user, role))
      ≡ map (λ (x : Cardinality). x.0) (filter (λ (x : Cardinality). not (nat_lt (reached_with S.edges (run_of S.assignments user) role (run_of S.ssd.members x.0)) x.1)) (members S.ssd.cardinalities))
  unfolding after_assignment end_sessions is_kept_statically authorized_users with_assignment
  assignment_violations = violated_are (is_kept_statically (with_assignment S (user, role))) S.ssd _ (λ x there.
      ap not (kept_by_user x there)
      ∙ ap (λ k. not (nat_lt k x.1)) (count_seconds (is_authorized (with_assignment S (user, role)) user) S.ssd.members x.0
      ∙ (λ i. count_by (λ (m : Pair). user_reached S user role m.1 i) (run_of S.ssd.members x.0))))

-- the refusal for separation names the first of them
pub refusal_of_first : (S : RbacState) → violates_static S ≡ option_map StaticSeparation (slice_get (static_violations S) 0)
refusal_of_first S = ap (option_map StaticSeparation) (least_is_first (is_kept_statically S) S.ssd)
