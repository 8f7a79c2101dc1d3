-- Separation of duty by the roles of each user or session: with another cardinality, and with one more role.
use Rattle.std.proofs.Common.{◌≡◌, ℕ, ◌+◌, ◌<◌, ◌≤◌, Bool, true, false, cond, not, ◌||◌, ◌&&◌, List, [], ◌∷◌, ◌++◌, map, refl, sym, ◌∙◌, ap, subst, arith}
use Rattle.std.specs.Prelude.{IsTrue, Option, Some, None, count_by, find, nat_lt, unwrap_or}
use Rattle.std.specs.Option.{option_map}
use Rattle.std.specs.List.{list_any, list_all}
use Rattle.std.specs.FinMap as finmap
use Rattle.std.specs.Ordering.{eq_by_cmp}
use Rattle.std.proofs.lemmas.Bool.{and_parts, or_left, or_right, ltb-true, lt-ltb, true≢false, false_from_ne_true}
use Rattle.std.proofs.lemmas.List.Folds.{list_all-map}
use Rattle.std.proofs.lemmas.List.Sums.{fold-append}
use Rattle.rbac_sets.specs.Sets.{Bytes, Pair, Pairs, Names, Cardinality, cardinality_cmp, same_name, contains, members, insert, retain, seconds, len, count, all}
use Rattle.rbac_sets.specs.NameOrder.{name_total, name_exact, cardinality_total, cardinality_exact}
use Rattle.rbac_sets.proofs.SetLaws.{tie_Decides, contains-members, contains-insert, contains-retain, seconds-Decides, same_set}
use Rattle.rbac_sets.proofs.Lists.{count_map}
use Rattle.rbac_sets.proofs.Members.{count-len}
use Rattle.admin_mgr.specs.declared.separation_of_duty.SeparationOfDuty.{SeparationOfDuty}
use Rattle.admin_mgr.specs.declared.separation_of_duty.SeparationOfDuty.TheVariants.{Static, Dynamic}
use Rattle.admin_mgr.specs.RbacState.{RbacState, Separation, members_of, cardinality_of}
use Rattle.admin_mgr.specs.Separation.{is_kept_statically, is_kept_dynamically}
use Rattle.admin_mgr.specs.private.SeparationOfDuty.{sets_of, is_kept}
use Rattle.admin_mgr.specs.Good.{IsGood}
use Rattle.admin_mgr.specs.private.HolderRoles.{run_of, is_reached, reached_roles, reached_members}
use Rattle.admin_mgr.specs.private.Holders.{runs_of}
use Rattle.admin_mgr.proofs.Verdicts.AuthorizationLaws.{authorized_roles_count, session_roles_count, reached_seconds}
use Rattle.admin_mgr.proofs.Verdicts.SetCommandViolations.{kept_sets}

-- ---- the cardinality of a set

found_there : (p : Cardinality → Bool) (xs : List Cardinality) (x : Cardinality) → find p xs ≡ Some x → IsTrue (list_any (eq_by_cmp cardinality_cmp x) xs) × IsTrue (p x)
found_there p [] x h = cc
found_there p (y ∷ xs) x h = step (found_there p xs x) (p y) refl h
  where
    step : (find p xs ≡ Some x → IsTrue (list_any (eq_by_cmp cardinality_cmp x) xs) × IsTrue (p x)) → (b : Bool) → p y ≡ b → cond b (Some y) (find p xs) ≡ Some x
        → IsTrue (list_any (eq_by_cmp cardinality_cmp x) (y ∷ xs)) × IsTrue (p x)
    step rest true e h =
        let same : y ≡ x = ap (λ o. unwrap_or o x) h in
        (or_left (eq_by_cmp cardinality_cmp x y) _ ((tie_Decides cardinality_total cardinality_exact x y).1 (sym same)), ap p (sym same) ∙ e)
    step rest false e h = let later = rest h in (or_right (eq_by_cmp cardinality_cmp x y) _ later.0, later.1)

numbered : (p : Cardinality → Bool) (xs : List Cardinality) (n : ℕ) (o : Option Cardinality) → find p xs ≡ o → option_map (λ (x : Cardinality). x.1) o ≡ Some n
    → (x : Cardinality) × (find p xs ≡ Some x) × (x.1 ≡ n)
numbered p xs n None is h = cc
numbered p xs n (Some x) is h = (x, is, ap (λ o. unwrap_or o n) h)

-- the cardinality that is found is the set's
pub cardinality_there : (separation : Separation) (name : Bytes) (n : ℕ) → cardinality_of separation name ≡ Some n → IsTrue (contains separation.cardinalities (name, n))
unfolding cardinality_of
cardinality_there separation name n told =
    let test : Cardinality → Bool = λ entry. same_name entry.0 name in
    let one = numbered test (members separation.cardinalities) n (find test (members separation.cardinalities)) refl told in
    let found = found_there test (members separation.cardinalities) one.0 one.1 in
    let same : one.0 ≡ (name, n) = λ i. ((tie_Decides name_total name_exact one.0.0 name).0 found.1 i, one.2 i) in
    subst (λ x. IsTrue (contains separation.cardinalities x)) same (contains-members separation.cardinalities one.0 ∙ found.0)

-- ---- when a set is not violated

-- two tests agree on a list if they agree wherever a third holds, and that holds of each entry
pub same_where : {X : Type 0} (holds p q : X → Bool) (xs : List X) → list_all holds xs ≡ true → ((x : X) → holds x ≡ true → p x ≡ q x) → list_all p xs ≡ list_all q xs
same_where holds p q [] each same = refl
same_where holds p q (x ∷ xs) each same = let parts = and_parts (holds x) _ each in λ i. same x parts.0 i && same_where holds p q xs parts.1 same i

-- a set is not violated exactly if each user or session has fewer of its roles than its cardinality
pub kept_by_runs : (duty : SeparationOfDuty) (S : RbacState) (roles : Names) (n : ℕ) →
    is_kept duty S roles n ≡ list_all (λ held. nat_lt (reached_roles S.edges held (members roles)) n) (runs_of duty S)
unfolding is_kept_statically is_kept_dynamically all
kept_by_runs Static S roles n =
    (λ i. list_all (λ user. nat_lt (authorized_roles_count S user roles i) n) (members S.users)) ∙ sym (list_all-map (λ held. nat_lt (reached_roles S.edges held (members roles)) n) (run_of S.assignments) (members S.users))
kept_by_runs Dynamic S roles n =
    (λ i. list_all (λ (session : Pair). nat_lt (session_roles_count S session.0 roles i) n) (members S.sessions))
    ∙ sym (list_all-map (λ held. nat_lt (reached_roles S.edges held (members roles)) n) (λ (session : Pair). run_of S.active session.0) (members S.sessions))

pub kept_members : (duty : SeparationOfDuty) (S : RbacState) (separation : Separation) (name : Bytes) (n : ℕ) →
    is_kept duty S (members_of separation name) n ≡ list_all (λ held. nat_lt (reached_members S.edges held (run_of separation.members name)) n) (runs_of duty S)
kept_members duty S separation name n =
    kept_by_runs duty S (members_of separation name) n ∙ (λ i. list_all (λ held. nat_lt (reached_seconds S.edges held separation.members name i) n) (runs_of duty S))

-- no set of a good state is violated
pub kept_before : (duty : SeparationOfDuty) (S : RbacState) → IsGood S → (x : Cardinality) → IsTrue (contains (sets_of duty S).cardinalities x) →
    list_all (λ held. nat_lt (reached_members S.edges held (run_of (sets_of duty S).members x.0)) x.1) (runs_of duty S) ≡ true
kept_before duty S good x there = sym (kept_members duty S (sets_of duty S) x.0 x.1) ∙ kept_sets duty S good x there

-- nor is it with a larger cardinality
pub larger : (duty : SeparationOfDuty) (S : RbacState) → IsGood S → (name : Bytes) (before n : ℕ) → IsTrue (contains (sets_of duty S).cardinalities (name, before)) → before ≤ n →
    is_kept duty S (members_of (sets_of duty S) name) n ≡ true
larger duty S good name before n there more =
    let kept = kept_before duty S good (name, before) there in
    kept_members duty S (sets_of duty S) name n
    ∙ same_where _ _ _ (runs_of duty S) kept (λ held fewer. (let few = ltb-true _ _ fewer in lt-ltb _ _ (omega (arith, few, more))) ∙ sym fewer)
    ∙ kept

-- ---- one more role

with_test : (same a b : Bool) → ((same || a) && b) ≡ cond same b (a && b)
with_test true a b = refl
with_test false a b = refl

with_kept : (same a b : Bool) → (same ≡ true → b ≡ true) → cond same b (a && b) ≡ (same || a && b)
with_kept true a b one = one refl
with_kept false a b one = refl

with_left : (same a b : Bool) → (same ≡ true → b ≡ false) → cond same b (a && b) ≡ (a && b)
with_left true a true one = absurd (true≢false (one refl))
with_left true true false one = refl
with_left true false false one = refl
with_left false a b one = refl

module _ (p : Bytes → Bool) (roles : Names) (role : Bytes) (absent : contains roles role ≡ false) where
  count_insert : (b : Bool) → p role ≡ b → count p (insert roles role) ≡ cond b (count p roles + 1) (count p roles)
  unfolding insert len contains
  count_insert true is =
      let same : retain (insert roles role) p ≡ insert (retain roles p) role = same_set name_total name_exact (retain (insert roles role) p) (insert (retain roles p) role) (λ y.
      contains-retain name_total name_exact (insert roles role) p y
      ∙ ap (λ b. b && p y) (contains-insert name_total roles role y)
      ∙ with_test (same_name y role) (contains roles y) (p y)
      ∙ with_kept (same_name y role) (contains roles y) (p y) (λ tie. ap p ((tie_Decides name_total name_exact y role).0 tie) ∙ is)
      ∙ ap (λ b. same_name y role || b) (sym (contains-retain name_total name_exact roles p y))
      ∙ sym (contains-insert name_total (retain roles p) role y)) in
      let new : contains (retain roles p) role ≡ false = contains-retain name_total name_exact roles p role ∙ ap (λ b. b && p role) absent in
      count-len name_total name_exact p (insert roles role)
      ∙ ap len same
      ∙ finmap.len-insert name_total (retain roles p) role tt
      ∙ ap (λ b. cond b (len (retain roles p)) (len (retain roles p) + 1)) new
      ∙ ap (λ k. k + 1) (sym (count-len name_total name_exact p roles))
  count_insert false is =
      let same : retain (insert roles role) p ≡ retain roles p = same_set name_total name_exact (retain (insert roles role) p) (retain roles p) (λ y.
      contains-retain name_total name_exact (insert roles role) p y
      ∙ ap (λ b. b && p y) (contains-insert name_total roles role y)
      ∙ with_test (same_name y role) (contains roles y) (p y)
      ∙ with_left (same_name y role) (contains roles y) (p y) (λ tie. ap p ((tie_Decides name_total name_exact y role).0 tie) ∙ is)
      ∙ sym (contains-retain name_total name_exact roles p y)) in
      count-len name_total name_exact p (insert roles role) ∙ ap len same ∙ sym (count-len name_total name_exact p roles)

  -- if there were fewer than n, only those with the new role have to be counted again
  fewer_with : (n : ℕ) → count p roles < n → (not (p role) || nat_lt (count p roles + 1) n) ≡ nat_lt (count p (insert roles role)) n
  fewer_with n fewer = by (p role) refl
    where
      by : (b : Bool) → p role ≡ b → (not b || nat_lt (count p roles + 1) n) ≡ nat_lt (count p (insert roles role)) n
      by true is = sym (ap (λ k. nat_lt k n) (count_insert true is))
      by false is = sym (ap (λ k. nat_lt k n) (count_insert false is) ∙ lt-ltb (count p roles) n fewer)

no_member : (pairs : Pairs) (name role : Bytes) → contains pairs (name, role) ≡ false → contains (seconds pairs name) role ≡ false
no_member pairs name role absent = false_from_ne_true (contains (seconds pairs name) role) (λ h. true≢false (sym ((seconds-Decides pairs name role).0 h) ∙ absent))

pub with_member : (duty : SeparationOfDuty) (S : RbacState) → IsGood S → (name role : Bytes) (n : ℕ) → IsTrue (contains (sets_of duty S).cardinalities (name, n)) → contains (sets_of duty S).members (name, role) ≡ false →
    list_all (λ held. not (is_reached S.edges held role) || nat_lt (reached_members S.edges held (run_of (sets_of duty S).members name) + 1) n) (runs_of duty S)
    ≡ is_kept duty S (insert (members_of (sets_of duty S) name) role) n
unfolding count
with_member duty S good name role n there absent =
    let pairs = (sets_of duty S).members in
    same_where _ _ _ (runs_of duty S) (kept_before duty S good (name, n) there) (λ held fewer.
    let same = reached_seconds S.edges held pairs name in
    ap (λ k. not (is_reached S.edges held role) || nat_lt (k + 1) n) (sym same)
    ∙ fewer_with (is_reached S.edges held) (seconds pairs name) role (no_member pairs name role absent) n (ltb-true _ _ (ap (λ k. nat_lt k n) same ∙ fewer)))
    ∙ sym (kept_by_runs duty S (insert (seconds pairs name) role) n)

-- of the members and one more role, those that pass a test
count_more : {X : Type 0} (p : Bytes → Bool) (name : X → Bytes) (xs : List X) (role : Bytes) → count_by p (map name xs ++ role ∷ []) ≡ count_by (λ x. p (name x)) xs + cond (p role) 1 0
count_more p name xs role = fold-append (λ k x. k + cond (p x) 1 0) 0 (map name xs) (role ∷ []) ∙ ap (λ k. k + cond (p role) 1 0) (count_map name p xs)

fewer_by : (b : Bool) (k n : ℕ) → k < n → nat_lt (k + cond b 1 0) n ≡ (not b || nat_lt (k + 1) n)
fewer_by true k n fewer = refl
fewer_by false k n fewer = lt-ltb (k + 0) n (omega (arith, fewer))

-- with one more role, a set is kept if each user or session has fewer of the members and this role, counted together
pub kept_with_names : (duty : SeparationOfDuty) (S : RbacState) → IsGood S → (name role : Bytes) (n : ℕ) → IsTrue (contains (sets_of duty S).cardinalities (name, n)) → contains (sets_of duty S).members (name, role) ≡ false →
    list_all (λ held. nat_lt (reached_roles S.edges held (map (λ (pair : Pair). pair.1) (run_of (sets_of duty S).members name) ++ role ∷ [])) n) (runs_of duty S)
    ≡ is_kept duty S (insert (members_of (sets_of duty S) name) role) n
kept_with_names duty S good name role n there absent =
    let pairs = run_of (sets_of duty S).members name in
    same_where _ _ _ (runs_of duty S) (kept_before duty S good (name, n) there) (λ held fewer.
    ap (λ k. nat_lt k n) (count_more (is_reached S.edges held) (λ (pair : Pair). pair.1) pairs role)
    ∙ fewer_by (is_reached S.edges held role) (reached_members S.edges held pairs) n (ltb-true _ _ fewer))
    ∙ with_member duty S good name role n there absent
