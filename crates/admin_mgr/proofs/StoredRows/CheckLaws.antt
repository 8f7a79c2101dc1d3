-- The first check that fails.
use Rattle.std.proofs.Common.{◌≡◌, ℕ, zero, suc, ◌+◌, ◌<◌, ◌≤◌, Bool, true, false, cond, ◌&&◌, refl, sym, ◌∙◌, ap, subst, inl, inr, arith}
use Rattle.std.specs.Prelude.{IsTrue, ◌↔◌, ◌⊎◌, nat_eq, Option, Some, None, List}
use Rattle.std.proofs.lemmas.Bool.{and_parts, and_from, cases_lt, eqb-true, true≢false}
use Rattle.rbac_sets.specs.Sets.{Pair, contains, same_name}
use Rattle.rbac_sets.specs.NameOrder.{name_total, name_exact, pair_total, pair_exact}
use Rattle.rbac_sets.proofs.SetLaws.{any-Decides, tie_Decides}
use Rattle.rbac_sets.specs.declared.kind.Kind.{Kind}
use Rattle.rbac_sets.specs.declared.row.Row.{Row}
use Rattle.rbac_sets.specs.declared.refusal.Refusal.{Refusal}
use Rattle.rbac_sets.specs.declared.refusal.Refusal.TheVariants.{TooMany, Memory, Damaged}
use Rattle.admin_mgr.specs.Good.{IsWellFormed}
use Rattle.admin_mgr.specs.StoredSets.{StoredSets, gathered}
use Rattle.admin_mgr.specs.RowChecks.{Choose, AreReadable, Passes, RefusesSets, RefusesRows, IsStateOf, first_exceeded}
use Rattle.admin_mgr.specs.private.CheckTests.{is_complete, have_one_user, has_cardinalities, have_authorized_users, are_kept_statically, are_kept_dynamically, have_unlocked_users, early_refusal, late_refusal}
use Rattle.admin_mgr.proofs.StoredRows.TestLaws.{complete, one_user, cardinalities_fit, authorized_users_are, static_sets_are, dynamic_sets_are, unlocked_users_are, RefusesOrder}
use Rattle.admin_mgr.proofs.StoredRows.WithinLimits.{within_limits}
use Rattle.admin_mgr.proofs.StoredRows.StoredLaws.{occur_once, rows_are_among, one_cardinality, no_locks}

-- each check before this number passes
abbrev pub PassBefore : StoredSets → ℕ → Type 0
PassBefore g number = (earlier : ℕ) → earlier < number → Passes g earlier

-- the only check before the second is that the rows are readable
pub before_two : (g : StoredSets) → PassBefore g 2
before_two g zero less = tt
before_two g (suc zero) less = tt
before_two g (suc (suc k)) less = absurd (omega (arith, less))

-- one more check
pub before_next : (g : StoredSets) (number : ℕ) → PassBefore g number → Passes g number → PassBefore g (number + 1)
before_next g number before passes earlier less = elim (cases_lt earlier number) [
  | inl sooner ↦ before earlier sooner
  | inr no_sooner ↦ let same : number ≡ earlier = omega (arith, less, no_sooner) in subst (Passes g) same passes
]

-- values are equal if `Some` of both are
some_is : {X : Type 0} (x y : X) → ◌≡◌ {A = Option X} (Some x) (Some y) → x ≡ y
some_is {X} x y h = ap at h
  where
    at : Option X → X
    at (Some z) = z
    at None = x

-- a refusal by one check, or otherwise by those after it
by_test : (g : StoredSets) (number : ℕ) (b : Bool) (rest : Option Refusal) (refusal : Refusal) → 3 ≤ number → PassBefore g number → IsTrue b ↔ Passes g number →
    (PassBefore g (number + 1) → rest ≡ Some refusal → RefusesSets g refusal) → cond b rest (Some (Damaged number)) ≡ Some refusal → RefusesSets g refusal
by_test g number true rest refusal three before tells later h = later (before_next g number before (tells.0 refl)) h
by_test g number false rest refusal three before tells later h =
    subst (RefusesSets g) (some_is (Damaged number) refusal h) (three, record { passed = before; failed = λ passes. true≢false (sym (tells.1 passes)) })

-- there is no refusal only if the test holds and nothing after it refuses
by_tests : (b : Bool) (rest : Option Refusal) (refusal : Refusal) → cond b rest (Some refusal) ≡ None → IsTrue b × (rest ≡ None)
by_tests true rest refusal h = (refl, h)
by_tests false rest refusal h = cc

-- ---- the checks before those of the hierarchy

-- the refusal by the first limit that is exceeded, otherwise by the checks after it
abbrev early : StoredSets → Option Kind → Option Refusal
early g (Some kind) = Some (TooMany kind)
early g None = cond (is_complete g) (cond (have_one_user g.facts) None (Some (Damaged 4))) (Some (Damaged 3))

-- the limits are checked first
early_is : (g : StoredSets) (found : Option Kind) → first_exceeded g.facts ≡ found → early_refusal g ≡ early g found
early_is g found is = ap (early g) is

-- there is no refusal in `None`
none_refused : {X : Type 0} (x : X) {A : Type 0} → ◌≡◌ {A = Option X} None (Some x) → A
none_refused x h = cc

-- an early refusal is that of the first check that fails
pub early_is_first_failure : (g : StoredSets) (refusal : Refusal) → early_refusal g ≡ Some refusal → RefusesSets g refusal
early_is_first_failure g refusal h = by (first_exceeded g.facts) refl
  where
    by : (found : Option Kind) → first_exceeded g.facts ≡ found → RefusesSets g refusal
    by (Some kind) is = subst (RefusesSets g) (some_is (TooMany kind) refusal (sym (early_is g (Some kind) is) ∙ h)) is
    by None is = by_test g 3 (is_complete g) (cond (have_one_user g.facts) None (Some (Damaged 4))) refusal (omega arith) (before_next g 2 (before_two g) (within_limits g.facts is)) (complete g)
        (λ before. by_test g 4 (have_one_user g.facts) None refusal (omega arith) before (one_user g.facts) (λ _ none. none_refused refusal none))
        (sym (early_is g None is) ∙ h)

-- if nothing is refused early, the checks before the fifth pass
pub early_passed : (g : StoredSets) → early_refusal g ≡ None → PassBefore g 5
early_passed g h = by (first_exceeded g.facts) refl
  where
    by : (found : Option Kind) → first_exceeded g.facts ≡ found → PassBefore g 5
    by (Some kind) is = let wrong : Some (TooMany kind) ≡ None = sym (early_is g (Some kind) is) ∙ h in cc
    by None is =
        let third = by_tests (is_complete g) (cond (have_one_user g.facts) None (Some (Damaged 4))) (Damaged 3) (sym (early_is g None is) ∙ h) in
        let fourth = by_tests (have_one_user g.facts) None (Damaged 4) third.1 in
        before_next g 4 (before_next g 3 (before_next g 2 (before_two g) (within_limits g.facts is)) ((complete g).0 third.0)) ((one_user g.facts).0 fourth.0)

-- ---- the hierarchy

-- a refusal by the hierarchy is that of the first check that fails
pub order_is_first_failure : (g : StoredSets) (refusal : Refusal) → PassBefore g 5 → RefusesOrder g refusal → RefusesSets g refusal
order_is_first_failure g refusal before (inl memory) = subst (RefusesSets g) (sym memory) tt
order_is_first_failure g refusal before (inr (inl five)) = subst (RefusesSets g) (sym five.0) (omega arith, record { passed = before; failed = five.1 })
order_is_first_failure g refusal before (inr (inr six)) = subst (RefusesSets g) (sym six.0) (omega arith, record { passed = before_next g 5 before six.1; failed = six.2 })

-- ---- the checks after those of the hierarchy

-- rows that pass the checks before the eighth make a well-formed state
well_formed : (version : ℕ) (rows : List Row) → AreReadable version rows → PassBefore (gathered version rows) 8 → IsWellFormed (gathered version rows).facts
unfolding gathered
well_formed version rows readable before =
    let g = gathered version rows in
    let all = before 3 (omega arith) in
    let numbers = before 7 (omega arith) in
    record {
      permissions = all.permissions;
      assignments = all.assignments;
      grants = all.grants;
      edges = all.edges;
      sessions = all.sessions;
      one_owner = before 4 (omega arith);
      active = λ session role there. (all.active session role there).1;
      owned = λ session role there.
          (let one = (any-Decides pair_total pair_exact (λ (pair : Pair). same_name pair.0 session) g.facts.sessions).0 (all.active session role there).0 in
          (one.0.1, subst (λ name. IsTrue (contains g.facts.sessions (name, one.0.1))) ((tie_Decides name_total name_exact one.0.0 session).0 one.2) one.1));
      locked = all.locked;
      ssd = record { members = all.ssd; cardinality = numbers.0; one_cardinality = one_cardinality 1 rows readable.keys };
      dsd = record { members = all.dsd; cardinality = numbers.1; one_cardinality = one_cardinality 2 rows readable.keys };
    }

-- two tests at once
both : (A B : Bool) {P Q : Type 0} → IsTrue A ↔ P → IsTrue B ↔ Q → IsTrue (A && B) ↔ (P × Q)
both A B p q = (λ h. (let parts = and_parts A B h in (p.0 parts.0, q.0 parts.1)), λ h. and_from _ _ (p.1 h.0) (q.1 h.1))

module _ (version : ℕ) (rows : List Row) (readable : AreReadable version rows) where
  -- a late refusal is that of the first check that fails
  pub late_is_first_failure : (refusal : Refusal) → PassBefore (gathered version rows) 7 → late_refusal (gathered version rows).facts ≡ Some refusal → RefusesSets (gathered version rows) refusal
  late_is_first_failure refusal before h =
      let g = gathered version rows in
      let S = g.facts in
      by_test g 7 (has_cardinalities S.ssd && has_cardinalities S.dsd) _ refusal (omega arith) before (both _ _ (cardinalities_fit S.ssd) (cardinalities_fit S.dsd))
      (λ eight. by_test g 8 (have_authorized_users S) _ refusal (omega arith) eight (authorized_users_are S)
      (λ nine. by_test g 9 (are_kept_statically S) _ refusal (omega arith) nine (static_sets_are S (well_formed version rows readable eight))
      (λ ten. by_test g 10 (are_kept_dynamically S) _ refusal (omega arith) ten (dynamic_sets_are S)
      (λ eleven. by_test g 11 (have_unlocked_users S) None refusal (omega arith) eleven (unlocked_users_are S)
      (λ _ none. none_refused refusal none)))))
      h

  -- if nothing is refused late, all checks pass
  pub late_passed : PassBefore (gathered version rows) 7 → late_refusal (gathered version rows).facts ≡ None → PassBefore (gathered version rows) 12
  late_passed before h =
      let g = gathered version rows in
      let S = g.facts in
      let seven = by_tests (has_cardinalities S.ssd && has_cardinalities S.dsd) _ (Damaged 7) h in
      let eight = by_tests (have_authorized_users S) _ (Damaged 8) seven.1 in
      let nine = by_tests (are_kept_statically S) _ (Damaged 9) eight.1 in
      let ten = by_tests (are_kept_dynamically S) _ (Damaged 10) nine.1 in
      let eleven = by_tests (have_unlocked_users S) None (Damaged 11) ten.1 in
      let to_eight = before_next g 7 before ((both _ _ (cardinalities_fit S.ssd) (cardinalities_fit S.dsd)).0 seven.0) in
      before_next g 11 (before_next g 10 (before_next g 9 (before_next g 8 to_eight
      ((authorized_users_are S).0 eight.0))
      ((static_sets_are S (well_formed version rows readable to_eight)).0 nine.0))
      ((dynamic_sets_are S).0 ten.0))
      ((unlocked_users_are S).0 eleven.0)

  -- if every check passes, the state is good and has these rows
  pub is_state_of : (version ≡ 1) ⊎ (version ≡ 2) → PassBefore (gathered version rows) 12 → IsStateOf version rows (gathered version rows).facts
  unfolding gathered
  is_state_of known all = record {
    version_is = refl;
    stored = record { rows_are = rows_are_among version rows readable.known (all 6 (omega arith)); once = occur_once rows readable.keys };
    good = record {
      well_formed = well_formed version rows readable (λ k less. all k (omega (arith, less)));
      acyclic = all 5 (omega arith);
      static_separation = all 9 (omega arith);
      dynamic_separation = all 10 (omega arith);
      authorized = all 8 (omega arith);
      unlocked = all 11 (omega arith);
      limits = all 2 (omega arith);
      version = known;
      no_locks = no_locks version rows readable;
    };
  }

-- ---- the refusals of rows

-- a refusal of the sets is one of the rows
pub refuses_rows : (version : ℕ) (rows : List Row) (refusal : Refusal) → AreReadable version rows → RefusesSets (gathered version rows) refusal → RefusesRows version rows refusal
refuses_rows version rows Memory readable told = tt
refuses_rows version rows (Damaged number) readable told = by (nat_eq number 1) refl
  where
    by : (b : Bool) → nat_eq number 1 ≡ b → Choose b (AreReadable version rows → ⊥) (AreReadable version rows × RefusesSets (gathered version rows) (Damaged number))
    by true e = let least = told.0 in let one = eqb-true number 1 e in absurd (omega (arith, least, one))
    by false e = (readable, told)
refuses_rows version rows (TooMany kind) readable told = (readable, told)
refuses_rows version rows _ readable told = absurd told
