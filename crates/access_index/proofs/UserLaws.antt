-- A decision about a user by rows of bits is the decision of the state.
use Rattle.std.proofs.Common.{◌≡◌, ◌⊎◌, ℕ, Bool, true, false, not, ◌&&◌, [], ◌∷◌, inl, inr, refl, sym, ◌∙◌, ap, subst}
use Rattle.std.specs.Prelude.{IsTrue, Some, None}
use Rattle.std.specs.Cmp.{both_ways}
use Rattle.std.proofs.lemmas.Bool.{true≢false, false_from_ne_true, cases_Bool, and_parts, and_from}
use Rattle.rbac_sets.specs.Sets.{Bytes, Pair, any, contains, retain, same_name}
use Rattle.rbac_sets.specs.NameOrder.{name_total, name_exact, pair_total, pair_exact}
use Rattle.rbac_sets.proofs.SetLaws.{any-Decides, contains-retain, image-Decides, tie_Decides}
use Rattle.rbac_sets.specs.declared.refusal.Refusal.TheVariants.{NoUser, NoObject, NoOperation}
use Rattle.role_order.specs.Order.{Geq, geq, here}
use Rattle.role_order.proofs.Deciding.{geq-Decides}
use Rattle.admin_mgr.specs.RbacState.{RbacState}
use Rattle.admin_mgr.specs.Rows.{has_row}
use Rattle.admin_mgr.specs.Refusals.{first, refuse_unless}
use Rattle.admin_mgr.specs.Good.{IsGood}
use Rattle.admin_mgr.specs.Authorization.{authorized_roles, authorized_users, is_authorized}
use Rattle.admin_mgr.specs.UserAccess.{could_have_access, stands_alone}
use Rattle.review_mgr.specs.Questions.{user_refused, user_refusals, has_operation}
use Rattle.review_mgr.proofs.AccessByRuns.{any_second}
use Rattle.bit_tables.proofs.ByName.{same_bytes}
use Rattle.access_index.specs.declared.index.AccessIndex.{AccessIndex}
use Rattle.access_index.specs.Decision.{IsUserDecision}
use Rattle.access_index.specs.Following.{Follow}
use Rattle.access_index.specs.private.Reaching.{Reaches}
use Rattle.access_index.specs.Index.{Indexes, number_of, is_used, is_below, rows_of, assigned_bits, grant_bits, is_assigned}
use Rattle.access_index.proofs.FindLaws.{granted-is, granted_at, junior_bit}
use Rattle.access_index.proofs.FollowLaws.{some-is}

assigned-is : (S : RbacState) (user role : Bytes) → is_assigned (rows_of S) user role ≡ contains S.assignments (user, role)
unfolding has_row
assigned-is S user role = refl

unrefused_if : (S : RbacState) (user operation object : Bytes) → contains S.users user ≡ true → contains S.objects object ≡ true → has_operation S operation ≡ true → user_refused S user operation object ≡ None
unfolding user_refused user_refusals
unrefused_if S user operation object a b c = λ i. first (refuse_unless (a i) NoUser ∷ refuse_unless (b i) NoObject ∷ refuse_unless (c i) NoOperation ∷ [])

module _ (index : AccessIndex) (S : RbacState) (keeps : Indexes index S) (user operation object : Bytes) where
  -- a role of the user's row is assigned to the user
  assigned_at : (n : ℕ) → IsTrue (assigned_bits index user n) → (role : Bytes) × (number_of index role ≡ Some n) × IsTrue (contains S.assignments (user, role))
  assigned_at n bit =
      let used : IsTrue (is_used index n) = elim (cases_Bool (is_used index n)) [ inl is ↦ is | inr out ↦ absurd (true≢false (sym bit ∙ keeps.assigned.unused user n out)) ] in
      let owner = keeps.numbers.has_role n used in
      (owner.0, owner.1, sym (assigned-is S user owner.0) ∙ sym (keeps.assigned.same user owner.0 n owner.1) ∙ bit)

  -- a row that is empty
  pub none_assigned : ((n : ℕ) → assigned_bits index user n ≡ false) → (role : Bytes) → contains S.assignments (user, role) ≡ false
  none_assigned none role = false_from_ne_true (contains S.assignments (user, role)) (λ is.
      let fact = assigned-is S user role ∙ is in
      let at = keeps.assigned.numbered user role fact in
      true≢false (sym fact ∙ sym (keeps.assigned.same user role at.0 at.1) ∙ none at.0))

  -- what is in the index is there
  unrefused : IsGood S → (n m : ℕ) → IsTrue (assigned_bits index user n) → IsTrue (grant_bits index (object, operation) m) → user_refused S user operation object ≡ None
  unrefused good n m of_user in_grant =
      let assigned = assigned_at n of_user in
      let granted = granted_at index S keeps user operation object m in_grant in
      let permission = (good.well_formed.grants object operation granted.0 granted.2).0 in
      unrefused_if S user operation object (good.well_formed.assignments user assigned.0 assigned.2).0 (good.well_formed.permissions object operation permission)
      (any_second S.permissions object operation permission)

  -- an assigned role, and a granted one that is the same or a junior of it and isn't barred
  Usable : Type 0
  Usable = (a : Bytes) × (r : Bytes) × IsTrue (contains S.assignments (user, a)) × IsTrue (geq S.edges a r) × IsTrue (contains S.grants (object, operation, r)) × IsTrue (stands_alone S r)

  could : Bool
  could = any (λ role. contains S.grants (object, operation, role) && stands_alone S role) (authorized_roles S user)

  could_if : IsGood S → Usable → could ≡ true
  unfolding Usable could authorized_roles authorized_users
  could_if good (a, r, assigned, above, granted, alone) =
      let authorized : IsTrue (is_authorized S user r) =
      (image-Decides pair_total pair_exact name_total name_exact (λ (p : Pair). p.0) (retain S.assignments (λ p. geq S.edges p.1 r)) user).1
      ((user, a), contains-retain pair_total pair_exact S.assignments (λ (p : Pair). geq S.edges p.1 r) (user, a) ∙ and_from _ _ assigned above, refl) in
      (any-Decides name_total name_exact (λ role. contains S.grants (object, operation, role) && stands_alone S role) (authorized_roles S user)).1
      (r, contains-retain name_total name_exact S.roles (is_authorized S user) r ∙ and_from _ _ (good.well_formed.grants object operation r granted).1 authorized, and_from _ _ granted alone)

  usable_if : could ≡ true → Usable
  unfolding Usable could authorized_roles authorized_users
  usable_if access =
      let found = (any-Decides name_total name_exact (λ role. contains S.grants (object, operation, role) && stands_alone S role) (authorized_roles S user)).0 access in
      let r = found.0 in
      let parts = and_parts _ _ (sym (contains-retain name_total name_exact S.roles (is_authorized S user) r) ∙ found.1) in
      let both = and_parts _ _ found.2 in
      let by = (image-Decides pair_total pair_exact name_total name_exact (λ (p : Pair). p.0) (retain S.assignments (λ p. geq S.edges p.1 r)) user).0 parts.1 in
      let held = and_parts _ _ (sym (contains-retain pair_total pair_exact S.assignments (λ (p : Pair). geq S.edges p.1 r) by.0) ∙ by.1) in
      (by.0.1, r, subst (λ u. IsTrue (contains S.assignments (u, by.0.1))) by.2 held.0, held.1, both.0, both.1)

  module _ (assigned granted barred : ℕ → Bool) (has_assigned : (n : ℕ) → assigned n ≡ assigned_bits index user n) (has_granted : (n : ℕ) → granted n ≡ grant_bits index (object, operation) n)
      (is_barred : Follow (Unit {0}) (number_of index) (is_used index) (λ _. barred) (λ _ role. not (stands_alone S role))) where
    -- a granted one that isn't barred
    abbrev usable : ℕ → Bool
    usable n = granted n && not (barred n)

    not_not : (b : Bool) → not (not b) ≡ b
    not_not true = refl
    not_not false = refl

    usable_from : Reaches index.juniors.items assigned usable → Usable
    unfolding Usable
    usable_from (i, j, of_user, below, in_usable) =
        let both = and_parts (granted j) (not (barred j)) in_usable in
        let a = assigned_at i (sym (has_assigned i) ∙ of_user) in
        let r = granted_at index S keeps user operation object j (sym (has_granted j) ∙ both.0) in
        let above : IsTrue (geq S.edges a.0 r.0) = elim below [
          | inl same ↦ (geq-Decides S.edges a.0 r.0).1 (subst (λ x. Geq S.edges a.0 x) (keeps.numbers.one_role a.0 r.0 i a.1 (r.1 ∙ ap (λ n. Some n) (sym same))) here)
          | inr bit ↦ (and_parts _ _ (sym (junior_bit index S keeps user operation object a.0 r.0 i j a.1 r.1) ∙ bit)).0
        ] in
        (a.0, r.0, a.2, above, r.2, sym (ap not (is_barred.same tt r.0 j r.1) ∙ not_not (stands_alone S r.0)) ∙ both.1)

    reaches_from : Usable → Reaches index.juniors.items assigned usable
    unfolding Usable
    reaches_from (a, r, is_held, above, is_granted_to, alone) =
        let fact_a = assigned-is S user a ∙ is_held in
        let fact_r = granted-is S (object, operation) r ∙ is_granted_to in
        let at_a = keeps.assigned.numbered user a fact_a in
        let at_r = keeps.grants.numbered (object, operation) r fact_r in
        let i = at_a.0 in
        let j = at_r.0 in
        let below : (i ≡ j) ⊎ IsTrue (is_below index.juniors.items i j) = elim (same_bytes a r) [
          | inl same ↦ inl (some-is i j (sym at_a.1 ∙ ap (number_of index) same ∙ at_r.1))
          | inr differ ↦ inr (junior_bit index S keeps user operation object a r i j at_a.1 at_r.1 ∙ and_from _ _ above (ap not (false_from_ne_true (same_name a r) (λ is. differ ((tie_Decides name_total name_exact a r).0 is)))))
        ] in
        let free : not (barred j) ≡ true = ap not (is_barred.same tt r j at_r.1) ∙ not_not (stands_alone S r) ∙ alone in
        (i, j, has_assigned i ∙ keeps.assigned.same user a i at_a.1 ∙ fact_a, below, and_from _ _ (has_granted j ∙ keeps.grants.same (object, operation) r j at_r.1 ∙ fact_r) free)

    pub user_decision : IsGood S → (n m : ℕ) → IsTrue (assigned n) → IsTrue (granted m) → (access : Bool) → (access ≡ true → Reaches index.juniors.items assigned usable) → (Reaches index.juniors.items assigned usable → access ≡ true)
        → IsUserDecision S user operation object access
    unfolding could_have_access could
    user_decision good n m of_user in_granted access told tells = record {
      unrefused = unrefused good n m (sym (has_assigned n) ∙ of_user) (sym (has_granted m) ∙ in_granted);
      access_is = ap (λ b. not (contains S.locked user) && b) (both_ways could access (λ is. tells (reaches_from (usable_if is))) (λ is. could_if good (usable_from (told is))));
    }
