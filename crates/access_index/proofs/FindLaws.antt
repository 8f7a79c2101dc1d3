-- A decision by rows of bits is the decision of the state.
use Rattle.std.proofs.Common.{◌≡◌, ◌⊎◌, ℕ, ◌+◌, ◌<◌, ◌≤◌, Bool, true, false, not, List, [], ◌∷◌, inl, inr, refl, sym, ◌∙◌, ap, subst, arith}
use Rattle.std.specs.Prelude.{IsTrue, Some, None}
use Rattle.std.specs.Cmp.{both_ways}
use Rattle.std.proofs.lemmas.Bool.{true≢false, false_from_ne_true, cases_Bool, cases_eq, cases_lt, and_parts, and_from}
use Rattle.bit_rows.specs.declared.row.BitRow.{BitRow}
use Rattle.rbac_sets.specs.Sets.{Bytes, Pair, contains, same_name}
use Rattle.rbac_sets.specs.NameOrder.{name_total, name_exact, pair_total, pair_exact}
use Rattle.rbac_sets.proofs.SetLaws.{any-Decides, contains-retain, tie_Decides, seconds-Decides}
use Rattle.rbac_sets.specs.declared.refusal.Refusal.TheVariants.{NoSession, NoObject, NoOperation}
use Rattle.role_order.specs.Order.{Geq, geq, here}
use Rattle.role_order.proofs.Deciding.{geq-Decides}
use Rattle.admin_mgr.specs.RbacState.{RbacState, active_roles, has_session}
use Rattle.admin_mgr.specs.Rows.{has_row, is_above}
use Rattle.admin_mgr.specs.Refusals.{first, refuse_unless}
use Rattle.admin_mgr.specs.Good.{IsGood}
use Rattle.admin_mgr.specs.Authorization.{has_access, session_roles, is_session_role}
use Rattle.review_mgr.specs.Questions.{refused, refusals, has_operation}
use Rattle.review_mgr.specs.declared.query.Query.TheVariants.{CheckAccess}
use Rattle.review_mgr.proofs.AccessByRuns.{any_second}
use Rattle.access_index.specs.declared.index.AccessIndex.{AccessIndex}
use Rattle.access_index.specs.Decision.{IsDecision}
use Rattle.access_index.specs.private.Reaching.{Reaches}
use Rattle.access_index.specs.Index.{Indexes, number_of, is_used, is_below, is_below_number, rows_of, session_bits, grant_bits, is_activated, is_granted, is_junior}
use Rattle.bit_tables.proofs.ByName.{same_bytes}
use Rattle.access_index.proofs.FollowLaws.{some-is}

-- ---- the facts as rows

activated-is : (S : RbacState) (session role : Bytes) → is_activated (rows_of S) session role ≡ contains S.active (session, role)
unfolding has_row
activated-is S session role = refl

pub granted-is : (S : RbacState) (p : Pair) (role : Bytes) → is_granted (rows_of S) p role ≡ contains S.grants (p.0, p.1, role)
unfolding has_row
granted-is S p role = refl

pub junior-is : (S : RbacState) (senior role : Bytes) → is_junior (rows_of S) senior role ≡ is_above S senior role
unfolding has_row
junior-is S senior role = refl

-- ---- no refusal

unrefused_if : (S : RbacState) (session operation object : Bytes) → has_session S session ≡ true → contains S.objects object ≡ true → has_operation S operation ≡ true → refused S (CheckAccess session operation object) ≡ None
unfolding refused refusals
unrefused_if S session operation object a b c = λ i. first (refuse_unless (a i) NoSession ∷ refuse_unless (b i) NoObject ∷ refuse_unless (c i) NoOperation ∷ [])

-- ---- a decision

module _ (index : AccessIndex) (S : RbacState) (keeps : Indexes index S) (session operation object : Bytes) where
  -- a role of the session's row was activated
  activated_at : (n : ℕ) → IsTrue (session_bits index session n) → (role : Bytes) × (number_of index role ≡ Some n) × IsTrue (contains S.active (session, role))
  activated_at n bit =
      let used : IsTrue (is_used index n) = elim (cases_Bool (is_used index n)) [ inl is ↦ is | inr out ↦ absurd (true≢false (sym bit ∙ keeps.sessions.unused session n out)) ] in
      let owner = keeps.numbers.has_role n used in
      (owner.0, owner.1, sym (activated-is S session owner.0) ∙ sym (keeps.sessions.same session owner.0 n owner.1) ∙ bit)

  pub granted_at : (n : ℕ) → IsTrue (grant_bits index (object, operation) n) → (role : Bytes) × (number_of index role ≡ Some n) × IsTrue (contains S.grants (object, operation, role))
  granted_at n bit =
      let used : IsTrue (is_used index n) = elim (cases_Bool (is_used index n)) [ inl is ↦ is | inr out ↦ absurd (true≢false (sym bit ∙ keeps.grants.unused (object, operation) n out)) ] in
      let owner = keeps.numbers.has_role n used in
      (owner.0, owner.1, sym (granted-is S (object, operation) owner.0) ∙ sym (keeps.grants.same (object, operation) owner.0 n owner.1) ∙ bit)

  -- a row that is empty
  pub not_active : ((n : ℕ) → session_bits index session n ≡ false) → (role : Bytes) → contains S.active (session, role) ≡ false
  not_active none role = false_from_ne_true (contains S.active (session, role)) (λ is.
      let fact = activated-is S session role ∙ is in
      let at = keeps.sessions.numbered session role fact in
      true≢false (sym fact ∙ sym (keeps.sessions.same session role at.0 at.1) ∙ none at.0))

  pub not_granted : ((n : ℕ) → grant_bits index (object, operation) n ≡ false) → (role : Bytes) → contains S.grants (object, operation, role) ≡ false
  not_granted none role = false_from_ne_true (contains S.grants (object, operation, role)) (λ is.
      let fact = granted-is S (object, operation) role ∙ is in
      let at = keeps.grants.numbered (object, operation) role fact in
      true≢false (sym fact ∙ sym (keeps.grants.same (object, operation) role at.0 at.1) ∙ none at.0))

  -- what is in the index is there
  unrefused : IsGood S → (n m : ℕ) → IsTrue (session_bits index session n) → IsTrue (grant_bits index (object, operation) m) → refused S (CheckAccess session operation object) ≡ None
  unrefused good n m in_session in_grant =
      let active = activated_at n in_session in
      let granted = granted_at m in_grant in
      let owner = good.well_formed.owned session active.0 active.2 in
      let permission = (good.well_formed.grants object operation granted.0 granted.2).0 in
      unrefused_if S session operation object
      ((any-Decides pair_total pair_exact (λ (pair : Pair). same_name pair.0 session) S.sessions).1 ((session, owner.0), owner.1, (tie_Decides name_total name_exact session session).1 refl))
      (good.well_formed.permissions object operation permission)
      (any_second S.permissions object operation permission)

  -- an activated role, and a granted one that is the same or a junior of it
  Grants : Type 0
  Grants = (a : Bytes) × (r : Bytes) × IsTrue (contains S.active (session, a)) × IsTrue (geq S.edges a r) × IsTrue (contains S.grants (object, operation, r))

  access_if : IsGood S → Grants → has_access S session operation object ≡ true
  unfolding Grants has_access session_roles
  access_if good (a, r, active, above, granted) =
      let of_session : is_session_role S session r ≡ true =
      (any-Decides name_total name_exact (λ x. geq S.edges x r) (active_roles S session)).1 (a, (seconds-Decides S.active session a).1 active, above) in
      (any-Decides name_total name_exact (λ role. contains S.grants (object, operation, role)) (session_roles S session)).1
      (r, contains-retain name_total name_exact S.roles (is_session_role S session) r ∙ and_from _ _ (good.well_formed.grants object operation r granted).1 of_session, granted)

  grants_if : has_access S session operation object ≡ true → Grants
  unfolding Grants has_access session_roles
  grants_if access =
      let found = (any-Decides name_total name_exact (λ role. contains S.grants (object, operation, role)) (session_roles S session)).0 access in
      let r = found.0 in
      let parts = and_parts _ _ (sym (contains-retain name_total name_exact S.roles (is_session_role S session) r) ∙ found.1) in
      let above = (any-Decides name_total name_exact (λ x. geq S.edges x r) (active_roles S session)).0 parts.1 in
      (above.0, r, (seconds-Decides S.active session above.0).0 above.1, above.2, found.2)

  -- the bit of a junior
  pub junior_bit : (a r : Bytes) (i j : ℕ) → number_of index a ≡ Some i → number_of index r ≡ Some j → is_below index.juniors.items i j ≡ is_above S a r
  junior_bit a r i j at_a at_r =
      sym (ap (λ number. is_below_number index.juniors.items number j) at_a) ∙ keeps.juniors.same a r j at_r ∙ junior-is S a r

  module _ (active granted : ℕ → Bool) (has_active : (n : ℕ) → active n ≡ session_bits index session n) (has_granted : (n : ℕ) → granted n ≡ grant_bits index (object, operation) n) where
    grants_from : Reaches index.juniors.items active granted → Grants
    unfolding Grants
    grants_from (i, j, in_active, below, in_granted) =
        let a = activated_at i (sym (has_active i) ∙ in_active) in
        let r = granted_at j (sym (has_granted j) ∙ in_granted) in
        let above : IsTrue (geq S.edges a.0 r.0) = elim below [
          | inl same ↦ (geq-Decides S.edges a.0 r.0).1 (subst (λ x. Geq S.edges a.0 x) (keeps.numbers.one_role a.0 r.0 i a.1 (r.1 ∙ ap (λ n. Some n) (sym same))) here)
          | inr bit ↦ (and_parts _ _ (sym (junior_bit a.0 r.0 i j a.1 r.1) ∙ bit)).0
        ] in
        (a.0, r.0, a.2, above, r.2)

    reaches_from : Grants → Reaches index.juniors.items active granted
    unfolding Grants
    reaches_from (a, r, is_active, above, is_granted_to) =
        let fact_a = activated-is S session a ∙ is_active in
        let fact_r = granted-is S (object, operation) r ∙ is_granted_to in
        let at_a = keeps.sessions.numbered session a fact_a in
        let at_r = keeps.grants.numbered (object, operation) r fact_r in
        let i = at_a.0 in
        let j = at_r.0 in
        let below : (i ≡ j) ⊎ IsTrue (is_below index.juniors.items i j) = elim (same_bytes a r) [
          | inl same ↦ inl (some-is i j (sym at_a.1 ∙ ap (number_of index) same ∙ at_r.1))
          | inr differ ↦ inr (junior_bit a r i j at_a.1 at_r.1 ∙ and_from _ _ above (ap not (false_from_ne_true (same_name a r) (λ is. differ ((tie_Decides name_total name_exact a r).0 is)))))
        ] in
        (i, j, has_active i ∙ keeps.sessions.same session a i at_a.1 ∙ fact_a, below, has_granted j ∙ keeps.grants.same (object, operation) r j at_r.1 ∙ fact_r)

    pub decision : IsGood S → (n m : ℕ) → IsTrue (active n) → IsTrue (granted m) → (access : Bool) → (access ≡ true → Reaches index.juniors.items active granted) → (Reaches index.juniors.items active granted → access ≡ true)
        → IsDecision S session operation object access
    decision good n m in_active in_granted access told tells = record {
      unrefused = unrefused good n m (sym (has_active n) ∙ in_active) (sym (has_granted m) ∙ in_granted);
      access_is = both_ways access (has_access S session operation object) (λ is. access_if good (grants_from (told is))) (λ is. tells (reaches_from (grants_if is)));
    }

-- ---- what active numbers reach

-- no active number below the first one reaches a granted one
abbrev pub NoneReached : List BitRow → (active granted : ℕ → Bool) → ℕ → Type 0
NoneReached rows active granted from = (i j : ℕ) → i < from → IsTrue (active i) → ((i ≡ j) ⊎ IsTrue (is_below rows i j)) → IsTrue (granted j) → ⊥

-- nor does the next one
pub none_more : (rows : List BitRow) (active granted : ℕ → Bool) (from number : ℕ) → ((m : ℕ) → from ≤ m → m < number → active m ≡ false) → granted number ≡ false
    → ((n : ℕ) × IsTrue (is_below rows number n) × IsTrue (granted n) → ⊥) → NoneReached rows active granted from → NoneReached rows active granted (number + 1)
none_more rows active granted from number between own apart before i j near there how is = elim (cases_lt i from) [
  | inl low ↦ before i j low there how is
  | inr high ↦ elim (cases_eq i number) [
    | inl same ↦ elim how [
      | inl itself ↦ true≢false (sym is ∙ ap granted (sym itself ∙ same) ∙ own)
      | inr below ↦ apart (j, ap (λ k. is_below rows k j) (sym same) ∙ below, is)
    ]
    | inr differ ↦ true≢false (sym there ∙ between i high (omega (arith, near, differ)))
  ]
]

-- no number is left
pub none_reached : (rows : List BitRow) (active granted : ℕ → Bool) (from : ℕ) → ((m : ℕ) → from ≤ m → active m ≡ false) → NoneReached rows active granted from → Reaches rows active granted → ⊥
none_reached rows active granted from none before (i, j, there, how, is) = elim (cases_lt i from) [
  | inl low ↦ before i j low there how is
  | inr high ↦ true≢false (sym there ∙ none i high)
]
