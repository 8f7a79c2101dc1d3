-- Readable rows: what their sets have, and what they don't have.
use Rattle.std.proofs.Common.{◌≡◌, ◌≢◌, ℕ, Bool, true, false, cond, not, ◌&&◌, ◌||◌, List, [], ◌∷◌, refl, sym, ◌∙◌, ap, subst, inl, inr}
use Rattle.std.specs.Prelude.{IsTrue, ◌↔◌, nat_eq, is_some, if◌then◌else◌}
use Rattle.std.specs.List.{list_any, list_all}
use Rattle.std.specs.Ordering.{eq_by_cmp}
use Rattle.std.proofs.lemmas.Bool.{or_cases, or_left, or_right, and_parts, and_from, eqb-true, eq-eqb, not-true, true≢false, false_from_ne_true, or_parts, or_from}
use Rattle.std.specs.Cmp.{both_ways}
use Rattle.rbac_sets.specs.Sets.{Bytes, Pairs, Cardinality, cardinality_cmp, contains, from_list, same_name, empty}
use Rattle.rbac_sets.specs.NameOrder.{name_total, name_exact, cardinality_total, cardinality_exact}
use Rattle.rbac_sets.proofs.SetLaws.{contains-from_list, tie_Decides}
use Rattle.rbac_sets.specs.declared.row.Row.{Row}
use Rattle.rbac_sets.specs.declared.row.Row.TheVariants.{NameRow, PairRow, GrantRow, SetRow, LockedRow}
use Rattle.rbac_sets.specs.declared.row.TheConstants.Row.{USER, ROLE, OBJECT, PERMISSION, ASSIGNMENT, INHERITANCE, CLOSURE_PAIR, STATIC_MEMBER, DYNAMIC_MEMBER, SESSION, ACTIVATED_ROLE, STATIC_CARDINALITY, DYNAMIC_CARDINALITY}
use Rattle.rbac_sets.specs.Table.{table_of}
use Rattle.role_order.specs.Order.{Geq, geq, IsClosure}
use Rattle.role_order.proofs.Deciding.{geq-Decides}
use Rattle.admin_mgr.specs.RbacState.{RbacState}
use Rattle.admin_mgr.specs.Rows.{has_row}
use Rattle.admin_mgr.specs.Changes.{same_row}
use Rattle.admin_mgr.specs.StoredSets.{gathered, cardinalities_of, locks_of, is_known, is_among, same_key, HaveKeysOnce}
use Rattle.admin_mgr.specs.RowChecks.{AreReadable, OccurOnce}
use Rattle.admin_mgr.proofs.StoredRows.KeyLaws.{known_names, known_pairs, known_sets, names_among, pairs_among, grants_among, cardinalities_among, locks_among}

-- ---- a row that the version doesn't know

-- a kind that is not known is not this known one
unless : (known : ℕ → Bool) (k n : ℕ) (A rest : Bool) → known k ≡ false → known n ≡ true → rest ≡ false → (if nat_eq k n then A else rest) ≡ false
unless known k n A rest unknown known_n is = by (nat_eq k n) refl
  where
    by : (b : Bool) → nat_eq k n ≡ b → cond b A rest ≡ false
    by true e = absurd (true≢false (sym known_n ∙ ap known (sym (eqb-true k n e)) ∙ unknown))
    by false e = is

-- a state has no row of an unknown kind: no name,
pub unknown_name : (S : RbacState) (k : ℕ) (x : Bytes) → is_some (table_of (NameRow k x)) ≡ false → has_row S (NameRow k x) ≡ false
unfolding has_row
unknown_name S k x unknown =
    let kinds : ℕ → Bool = λ n. is_some (table_of (NameRow n x)) in
    unless kinds k USER _ _ unknown refl (unless kinds k ROLE _ _ unknown refl (unless kinds k OBJECT _ _ unknown refl refl))

-- no pair,
pub unknown_pair : (S : RbacState) (k : ℕ) (x y : Bytes) → is_some (table_of (PairRow k x y)) ≡ false → has_row S (PairRow k x y) ≡ false
unfolding has_row
unknown_pair S k x y unknown =
    let kinds : ℕ → Bool = λ n. is_some (table_of (PairRow n x y)) in
    unless kinds k PERMISSION _ _ unknown refl (unless kinds k ASSIGNMENT _ _ unknown refl (unless kinds k INHERITANCE _ _ unknown refl (unless kinds k CLOSURE_PAIR _ _ unknown refl
    (unless kinds k STATIC_MEMBER _ _ unknown refl (unless kinds k DYNAMIC_MEMBER _ _ unknown refl (unless kinds k SESSION _ _ unknown refl (unless kinds k ACTIVATED_ROLE _ _ unknown refl refl)))))))

-- and no cardinality
pub unknown_set : (S : RbacState) (k : ℕ) (x : Bytes) (n : ℕ) → is_some (table_of (SetRow k x n)) ≡ false → has_row S (SetRow k x n) ≡ false
unfolding has_row
unknown_set S k x n unknown =
    let kinds : ℕ → Bool = λ i. is_some (table_of (SetRow i x n)) in
    unless kinds k STATIC_CARDINALITY _ _ unknown refl (unless kinds k DYNAMIC_CARDINALITY _ _ unknown refl refl)

-- equal rows are known alike
known_same : (version : ℕ) (row other : Row) → same_row row other ≡ true → is_known version row ≡ is_known version other
known_same version (NameRow k a) (NameRow l x) h = ap (λ n. is_some (table_of (NameRow n x))) (eqb-true k l (and_parts (nat_eq k l) _ h).0)
known_same version (PairRow k a b) (PairRow l x y) h = ap (λ n. is_some (table_of (PairRow n x y))) (eqb-true k l (and_parts (nat_eq k l) _ h).0)
known_same version (GrantRow a b c) (GrantRow x y z) h = refl
known_same version (SetRow k a m) (SetRow l x n) h = ap (λ i. is_some (table_of (SetRow i x n))) (eqb-true k l (and_parts (nat_eq k l) _ h).0)
known_same version (LockedRow a) (LockedRow x) h = refl
known_same version _ _ h = absurd (true≢false (sym h))

-- each of the rows is known
among_known : (version : ℕ) (rows : List Row) (row : Row) → IsTrue (list_all (is_known version) rows) → is_among rows row ≡ true → is_known version row ≡ true
among_known version [] row known there = absurd (true≢false (sym there))
among_known version (first ∷ rows) row known there =
    let parts = and_parts (is_known version first) (list_all (is_known version) rows) known in
    elim (or_cases (same_row first row) (is_among rows row) there) [
      | inl here ↦ sym (known_same version first row here) ∙ parts.0
      | inr later ↦ among_known version rows row parts.1 later
    ]

-- ---- the rows of the sets

-- the test holds exactly if the roles differ and the first dominates the second
pub apart_and_above : (edges : Pairs) (a b : Bytes) → IsTrue (geq edges a b && not (same_name a b)) ↔ ((a ≢ b) × Geq edges a b)
apart_and_above edges a b = (
  λ h. (let parts = and_parts (geq edges a b) (not (same_name a b)) h in
      (λ same. true≢false (sym ((tie_Decides name_total name_exact a b).1 same) ∙ not-true _ parts.1), (geq-Decides edges a b).0 parts.0)),
  λ h. and_from _ _ ((geq-Decides edges a b).1 h.1) (ap not (false_from_ne_true (same_name a b) (λ tie. h.0 ((tie_Decides name_total name_exact a b).0 tie)))),
)

-- the pairs of a closure are those that the state has
above_pairs : (edges pairs : Pairs) → IsClosure edges pairs → (a b : Bytes) → (geq edges a b && not (same_name a b)) ≡ contains pairs (a, b)
above_pairs edges pairs closed a b = both_ways _ _ (λ h. (closed a b).1 ((apart_and_above edges a b).0 h)) (λ h. (apart_and_above edges a b).1 ((closed a b).0 h))

module _ (version : ℕ) (rows : List Row) (known : IsTrue (list_all (is_known version) rows)) (closed : IsClosure (gathered version rows).facts.edges (gathered version rows).pairs) where
  -- an unknown row is not among them
  unknown_none : (row : Row) → is_known version row ≡ false → is_among rows row ≡ false
  unknown_none row unknown = false_from_ne_true _ (λ there. true≢false (sym (among_known version rows row known there) ∙ unknown))

  -- a row is the state's exactly if it is among them
  pub rows_are_among : (row : Row) → has_row (gathered version rows).facts row ≡ is_among rows row
  unfolding gathered has_row
  rows_are_among (NameRow k x) = by (is_some (table_of (NameRow k x))) refl
    where
      by : (b : Bool) → is_some (table_of (NameRow k x)) ≡ b → has_row (gathered version rows).facts (NameRow k x) ≡ is_among rows (NameRow k x)
      by true known_kind = known_names (λ n. has_row (gathered version rows).facts (NameRow n x) ≡ is_among rows (NameRow n x)) (names_among USER rows x) (names_among ROLE rows x) (names_among OBJECT rows x) k x known_kind
      by false unknown = unknown_name (gathered version rows).facts k x unknown ∙ sym (unknown_none (NameRow k x) unknown)
  rows_are_among (PairRow k x y) = by (is_some (table_of (PairRow k x y))) refl
    where
      by : (b : Bool) → is_some (table_of (PairRow k x y)) ≡ b → has_row (gathered version rows).facts (PairRow k x y) ≡ is_among rows (PairRow k x y)
      by true known_kind = known_pairs (λ n. has_row (gathered version rows).facts (PairRow n x y) ≡ is_among rows (PairRow n x y))
          (pairs_among PERMISSION rows x y) (pairs_among ASSIGNMENT rows x y) (pairs_among INHERITANCE rows x y)
          (above_pairs (gathered version rows).facts.edges (gathered version rows).pairs closed x y ∙ pairs_among CLOSURE_PAIR rows x y)
          (pairs_among STATIC_MEMBER rows x y) (pairs_among DYNAMIC_MEMBER rows x y) (pairs_among SESSION rows x y) (pairs_among ACTIVATED_ROLE rows x y) k x y known_kind
      by false unknown = unknown_pair (gathered version rows).facts k x y unknown ∙ sym (unknown_none (PairRow k x y) unknown)
  rows_are_among (GrantRow x y z) = grants_among rows x y z
  rows_are_among (SetRow k x n) = by (is_some (table_of (SetRow k x n))) refl
    where
      by : (b : Bool) → is_some (table_of (SetRow k x n)) ≡ b → has_row (gathered version rows).facts (SetRow k x n) ≡ is_among rows (SetRow k x n)
      by true known_kind = known_sets (λ i. has_row (gathered version rows).facts (SetRow i x n) ≡ is_among rows (SetRow i x n)) (cardinalities_among STATIC_CARDINALITY rows x n) (cardinalities_among DYNAMIC_CARDINALITY rows x n) k x n known_kind
      by false unknown = unknown_set (gathered version rows).facts k x n unknown ∙ sym (unknown_none (SetRow k x n) unknown)
  rows_are_among (LockedRow x) = locks_among rows x

-- ---- rows that occur once

-- rows with different keys differ
other_row : (row other : Row) → same_key row other ≡ false → same_row row other ≡ false
other_row (SetRow k a m) (SetRow l x n) apart = false_from_ne_true _ (λ same.
    (let parts = and_parts (nat_eq k l) (eq_by_cmp cardinality_cmp (x, n) (a, m)) same in
    true≢false (sym (and_from _ _ parts.0 ((tie_Decides name_total name_exact x a).1 (ap (λ (q : Cardinality). q.0) ((tie_Decides cardinality_total cardinality_exact (x, n) (a, m)).0 parts.1)))) ∙ apart)))
other_row (NameRow k a) other apart = apart
other_row row other apart = apart

-- if no row has the key, none is the row
none_other : (row : Row) (rows : List Row) → list_any (λ (other : Row). same_key row other) rows ≡ false → list_any (λ (other : Row). same_row row other) rows ≡ false
none_other row [] free = refl
none_other row (first ∷ rows) free =
    let parts = or_parts (same_key row first) (list_any (λ (other : Row). same_key row other) rows) free in
    or_from _ _ (other_row row first parts.0) (none_other row rows parts.1)

-- rows whose keys occur once occur once
pub occur_once : (rows : List Row) → HaveKeysOnce rows → OccurOnce rows
occur_once [] keys = tt
occur_once (row ∷ rows) keys = (none_other row rows keys.0, occur_once rows keys.1)

-- ---- a set has one cardinality

-- a later entry of the same set has the same key
same_set_later : (kind k : ℕ) (a : Bytes) (m n : ℕ) (rows : List Row) → nat_eq k kind ≡ true → list_any (eq_by_cmp cardinality_cmp (a, n)) (cardinalities_of kind rows) ≡ true →
    list_any (λ (other : Row). same_key (SetRow k a m) other) rows ≡ true
same_set_later kind k a m n [] here there = absurd (true≢false (sym there))
same_set_later kind k a m n (SetRow l x j ∷ rows) here there = by (same_set_later kind k a m n rows here) (nat_eq l kind) refl there
  where
    by : (list_any (eq_by_cmp cardinality_cmp (a, n)) (cardinalities_of kind rows) ≡ true → list_any (λ (other : Row). same_key (SetRow k a m) other) rows ≡ true) → (b : Bool) → nat_eq l kind ≡ b → list_any (eq_by_cmp cardinality_cmp (a, n)) (cond b ((x, j) ∷ cardinalities_of kind rows) (cardinalities_of kind rows)) ≡ true
        → (nat_eq k l && same_name x a || list_any (λ (other : Row). same_key (SetRow k a m) other) rows) ≡ true
    by behind true e h = elim (or_cases (eq_by_cmp cardinality_cmp (a, n) (x, j)) _ h) [
      | inl same ↦
          let pair = (tie_Decides cardinality_total cardinality_exact (a, n) (x, j)).0 same in
          or_left _ _ (and_from _ _ (eq-eqb k l (eqb-true k kind here ∙ sym (eqb-true l kind e))) ((tie_Decides name_total name_exact x a).1 (sym (ap (λ (q : Cardinality). q.0) pair))))
      | inr later ↦ or_right _ _ (behind later)
    ]
    by behind false e h = or_right _ _ (behind h)
same_set_later kind k a m n (_ ∷ rows) here there = same_set_later kind k a m n rows here there

-- two entries of one set are equal
once : (kind : ℕ) (rows : List Row) (a : Bytes) (m n : ℕ) → HaveKeysOnce rows →
    list_any (eq_by_cmp cardinality_cmp (a, m)) (cardinalities_of kind rows) ≡ true → list_any (eq_by_cmp cardinality_cmp (a, n)) (cardinalities_of kind rows) ≡ true → m ≡ n
once kind [] a m n keys here there = absurd (true≢false (sym here))
once kind (SetRow l x j ∷ rows) a m n keys here there = by (once kind rows a m n keys.1) (nat_eq l kind) refl here there
  where
    -- another entry of the set can't follow
    alone : (i : ℕ) (same : ◌≡◌ {A = Cardinality} (a, i) (x, j)) → nat_eq l kind ≡ true → (k : ℕ) → list_any (eq_by_cmp cardinality_cmp (a, k)) (cardinalities_of kind rows) ≡ true → ⊥
    alone i same e k later =
        true≢false (sym (same_set_later kind l x j k rows e (subst (λ name. list_any (eq_by_cmp cardinality_cmp (name, k)) (cardinalities_of kind rows) ≡ true) (ap (λ (q : Cardinality). q.0) same) later)) ∙ keys.0)

    by : (list_any (eq_by_cmp cardinality_cmp (a, m)) (cardinalities_of kind rows) ≡ true → list_any (eq_by_cmp cardinality_cmp (a, n)) (cardinalities_of kind rows) ≡ true → m ≡ n)
        → (b : Bool) → nat_eq l kind ≡ b
        → list_any (eq_by_cmp cardinality_cmp (a, m)) (cond b ((x, j) ∷ cardinalities_of kind rows) (cardinalities_of kind rows)) ≡ true
        → list_any (eq_by_cmp cardinality_cmp (a, n)) (cond b ((x, j) ∷ cardinalities_of kind rows) (cardinalities_of kind rows)) ≡ true → m ≡ n
    by behind true e h k = elim (or_cases (eq_by_cmp cardinality_cmp (a, m) (x, j)) _ h) [
      | inl first ↦
          let same = (tie_Decides cardinality_total cardinality_exact (a, m) (x, j)).0 first in
          elim (or_cases (eq_by_cmp cardinality_cmp (a, n) (x, j)) _ k) [
            | inl second ↦ ap (λ (q : Cardinality). q.1) same ∙ sym (ap (λ (q : Cardinality). q.1) ((tie_Decides cardinality_total cardinality_exact (a, n) (x, j)).0 second))
            | inr later ↦ absurd (alone m same e n later)
          ]
      | inr first ↦ elim (or_cases (eq_by_cmp cardinality_cmp (a, n) (x, j)) _ k) [
        | inl second ↦ absurd (alone n ((tie_Decides cardinality_total cardinality_exact (a, n) (x, j)).0 second) e m first)
        | inr later ↦ behind first later
      ]
    ]
    by behind false e h k = behind h k
once kind (_ ∷ rows) a m n keys here there = once kind rows a m n keys.1 here there

-- two cardinalities of one set are equal
pub one_cardinality : (kind : ℕ) (rows : List Row) → HaveKeysOnce rows → (name : Bytes) (n other : ℕ) →
    IsTrue (contains (from_list {R = cardinality_cmp} (cardinalities_of kind rows)) (name, n)) → IsTrue (contains (from_list {R = cardinality_cmp} (cardinalities_of kind rows)) (name, other)) → n ≡ other
one_cardinality kind rows keys name n other here there = once kind rows name n other keys
    (sym (contains-from_list cardinality_total (cardinalities_of kind rows) (name, n)) ∙ here)
    (sym (contains-from_list cardinality_total (cardinalities_of kind rows) (name, other)) ∙ there)

-- ---- version 1 has no locks

-- no row that version 1 knows is a lock
unlocked_rows : (version : ℕ) (rows : List Row) → version ≡ 1 → IsTrue (list_all (is_known version) rows) → locks_of rows ≡ []
unlocked_rows version [] first known = refl
unlocked_rows version (LockedRow a ∷ rows) first known =
    absurd (true≢false (sym (eq-eqb version 1 first) ∙ not-true _ (and_parts (is_known version (LockedRow a)) _ known).0))
unlocked_rows version (row ∷ rows) first known = unlocked_rows version rows first (and_parts (is_known version row) _ known).1

-- readable rows of version 1 have no lock
pub no_locks : (version : ℕ) (rows : List Row) → AreReadable version rows → version ≡ 1 → (gathered version rows).facts.locked ≡ empty
unfolding gathered from_list
no_locks version rows readable first = ap from_list (unlocked_rows version rows first readable.known)
