-- The gathered sets have exactly the entries of the rows.
use Rattle.std.proofs.Common.{◌≡◌, ℕ, Bool, true, false, cond, ◌&&◌, is_some, Option, Some, ◌||◌, List, [], ◌∷◌, refl, sym, ◌∙◌, ap, subst}
use Rattle.std.specs.Prelude.{nat_eq, if◌then◌else◌}
use Rattle.std.specs.List.{list_any}
use Rattle.std.specs.declared.cmp.Ordering.{Ordering}
use Rattle.std.specs.Ordering.{eq_by_cmp}
use Rattle.std.specs.Cmp.{IsTotalOrder, both_ways}
use Rattle.std.specs.FinMap.{IsAntisymmetric}
use Rattle.std.proofs.lemmas.Bool.{eqb-true, true≢false, false_from_ne_true}
use Rattle.rbac_sets.specs.Sets.{Bytes, Cardinality, Cardinalities, cardinality_cmp, any, contains, from_list, same_name, name_cmp, pair_cmp, triple_cmp}
use Rattle.rbac_sets.specs.NameOrder.{name_total, name_exact, pair_total, triple_total, cardinality_total, cardinality_exact}
use Rattle.rbac_sets.proofs.SetLaws.{any-Decides, contains-from_list, tie_Decides, list_any-found, list_any-here}
use Rattle.role_order.proofs.Members.{same_name-flips}
use Rattle.rbac_sets.specs.declared.row.Row.{Row}
use Rattle.rbac_sets.specs.declared.row.Row.TheVariants.{NameRow, PairRow, GrantRow, SetRow, LockedRow}
use Rattle.rbac_sets.specs.declared.row.TheConstants.Row.{USER, ROLE, OBJECT, PERMISSION, ASSIGNMENT, INHERITANCE, CLOSURE_PAIR, STATIC_MEMBER, DYNAMIC_MEMBER, SESSION, ACTIVATED_ROLE, STATIC_CARDINALITY, DYNAMIC_CARDINALITY}
use Rattle.rbac_sets.specs.Table.{table_of}
use Rattle.rbac_sets.specs.declared.table.Table.{Table}
use Rattle.admin_mgr.specs.Changes.{same_row}
use Rattle.admin_mgr.specs.StoredSets.{StoredSets, gathered, names_of, pairs_of, grants_of, cardinalities_of, locks_of, is_known, is_among, same_key}
use Rattle.admin_mgr.specs.private.OneRow.{has_key}

-- if no cardinality has the name, no set of this name has one
pub no_cardinality : (cardinalities : Cardinalities) (name : Bytes) (n : ℕ) → any (λ (entry : Cardinality). same_name entry.0 name) cardinalities ≡ false → contains cardinalities (name, n) ≡ false
no_cardinality cardinalities name n none = false_from_ne_true _ (λ there. true≢false (
    sym ((any-Decides cardinality_total cardinality_exact (λ (entry : Cardinality). same_name entry.0 name) cardinalities).1 ((name, n), there, (tie_Decides name_total name_exact name name).1 refl))
    ∙ none))

-- a static set whose key is not there has no cardinality
pub no_static_key : (g : StoredSets) (name : Bytes) (n : ℕ) → has_key g (SetRow STATIC_CARDINALITY name n) ≡ false → contains g.facts.ssd.cardinalities (name, n) ≡ false
unfolding has_key
no_static_key g name n none = no_cardinality g.facts.ssd.cardinalities name n none

-- nor has a dynamic one
pub no_dynamic_key : (g : StoredSets) (name : Bytes) (n : ℕ) → has_key g (SetRow DYNAMIC_CARDINALITY name n) ≡ false → contains g.facts.dsd.cardinalities (name, n) ≡ false
unfolding has_key
no_dynamic_key g name n none = no_cardinality g.facts.dsd.cardinalities name n none

-- ---- kinds

-- a kind that has a table is the first of some kinds, or one of the others
first_or : (P : ℕ → Type 0) (k n : ℕ) (table : Table) (others : Option Table) → P n → (is_some others ≡ true → P k) → is_some (if nat_eq k n then Some table else others) ≡ true → P k
first_or P k n table others at rest = by (nat_eq k n) refl
  where
    by : (b : Bool) → nat_eq k n ≡ b → is_some (if b then Some table else others) ≡ true → P k
    by true is known = subst P (sym (eqb-true k n is)) at
    by false is known = rest known

-- what holds of each kind of names holds of any kind of a name that has a table
pub known_names : (P : ℕ → Type 0) → P USER → P ROLE → P OBJECT → (k : ℕ) (x : Bytes) → is_some (table_of (NameRow k x)) ≡ true → P k
known_names P user role object k x =
    first_or P k USER _ _ user (first_or P k ROLE _ _ role (first_or P k OBJECT _ _ object (λ none. absurd (true≢false (sym none)))))

-- what holds of each kind of pairs holds of any kind of a pair that has a table
pub known_pairs : (P : ℕ → Type 0) → P PERMISSION → P ASSIGNMENT → P INHERITANCE → P CLOSURE_PAIR → P STATIC_MEMBER → P DYNAMIC_MEMBER → P SESSION → P ACTIVATED_ROLE
    → (k : ℕ) (x y : Bytes) → is_some (table_of (PairRow k x y)) ≡ true → P k
known_pairs P permission assignment inheritance closure static dynamic session activated k x y =
    first_or P k PERMISSION _ _ permission (first_or P k ASSIGNMENT _ _ assignment (first_or P k INHERITANCE _ _ inheritance (first_or P k CLOSURE_PAIR _ _ closure
    (first_or P k STATIC_MEMBER _ _ static (first_or P k DYNAMIC_MEMBER _ _ dynamic (first_or P k SESSION _ _ session (first_or P k ACTIVATED_ROLE _ _ activated
    (λ none. absurd (true≢false (sym none))))))))))

-- what holds of both kinds of cardinalities holds of any kind of a cardinality that has a table
pub known_sets : (P : ℕ → Type 0) → P STATIC_CARDINALITY → P DYNAMIC_CARDINALITY → (k : ℕ) (x : Bytes) (n : ℕ) → is_some (table_of (SetRow k x n)) ≡ true → P k
known_sets P static dynamic k x n =
    first_or P k STATIC_CARDINALITY _ _ static (first_or P k DYNAMIC_CARDINALITY _ _ dynamic (λ none. absurd (true≢false (sym none))))

-- ---- membership

-- a test of a list that begins with an optional item
one_more : {K : Type 0} (p : K → Bool) (b : Bool) (x : K) (xs : List K) (rest : Bool) → list_any p xs ≡ rest → list_any p (cond b (x ∷ xs) xs) ≡ (b && p x || rest)
one_more p true x xs rest is = ap (λ r. p x || r) is
one_more p false x xs rest is = is

-- a name is listed exactly if its row is among the rows
any_names : (kind : ℕ) (x : Bytes) (rows : List Row) → list_any (same_name x) (names_of kind rows) ≡ is_among rows (NameRow kind x)
any_names kind x [] = refl
any_names kind x (NameRow k a ∷ rows) = one_more (same_name x) (nat_eq k kind) a (names_of kind rows) _ (any_names kind x rows)
any_names kind x (_ ∷ rows) = any_names kind x rows

-- so is a pair
any_pairs : (kind : ℕ) (x y : Bytes) (rows : List Row) → list_any (eq_by_cmp pair_cmp (x, y)) (pairs_of kind rows) ≡ is_among rows (PairRow kind x y)
any_pairs kind x y [] = refl
any_pairs kind x y (PairRow k a b ∷ rows) = one_more (eq_by_cmp pair_cmp (x, y)) (nat_eq k kind) (a, b) (pairs_of kind rows) _ (any_pairs kind x y rows)
any_pairs kind x y (_ ∷ rows) = any_pairs kind x y rows

-- so is a grant
any_grants : (x y z : Bytes) (rows : List Row) → list_any (eq_by_cmp triple_cmp (x, y, z)) (grants_of rows) ≡ is_among rows (GrantRow x y z)
any_grants x y z [] = refl
any_grants x y z (GrantRow a b c ∷ rows) = ap (λ r. eq_by_cmp triple_cmp (x, y, z) (a, b, c) || r) (any_grants x y z rows)
any_grants x y z (_ ∷ rows) = any_grants x y z rows

-- so is a cardinality
any_cardinalities : (kind : ℕ) (x : Bytes) (n : ℕ) (rows : List Row) → list_any (eq_by_cmp cardinality_cmp (x, n)) (cardinalities_of kind rows) ≡ is_among rows (SetRow kind x n)
any_cardinalities kind x n [] = refl
any_cardinalities kind x n (SetRow k a m ∷ rows) = one_more (eq_by_cmp cardinality_cmp (x, n)) (nat_eq k kind) (a, m) (cardinalities_of kind rows) _ (any_cardinalities kind x n rows)
any_cardinalities kind x n (_ ∷ rows) = any_cardinalities kind x n rows

-- so is a lock
any_locks : (x : Bytes) (rows : List Row) → list_any (same_name x) (locks_of rows) ≡ is_among rows (LockedRow x)
any_locks x [] = refl
any_locks x (LockedRow a ∷ rows) = ap (λ r. same_name x a || r) (any_locks x rows)
any_locks x (_ ∷ rows) = any_locks x rows

-- a name, a pair and so on is in the set of its kind exactly if its row is among the rows
pub names_among : (kind : ℕ) (rows : List Row) (x : Bytes) → contains (from_list {R = name_cmp} (names_of kind rows)) x ≡ is_among rows (NameRow kind x)
names_among kind rows x = contains-from_list name_total (names_of kind rows) x ∙ any_names kind x rows

-- a pair
pub pairs_among : (kind : ℕ) (rows : List Row) (x y : Bytes) → contains (from_list {R = pair_cmp} (pairs_of kind rows)) (x, y) ≡ is_among rows (PairRow kind x y)
pairs_among kind rows x y = contains-from_list pair_total (pairs_of kind rows) (x, y) ∙ any_pairs kind x y rows

-- a grant
pub grants_among : (rows : List Row) (x y z : Bytes) → contains (from_list {R = triple_cmp} (grants_of rows)) (x, y, z) ≡ is_among rows (GrantRow x y z)
grants_among rows x y z = contains-from_list triple_total (grants_of rows) (x, y, z) ∙ any_grants x y z rows

-- a cardinality
pub cardinalities_among : (kind : ℕ) (rows : List Row) (x : Bytes) (n : ℕ) → contains (from_list {R = cardinality_cmp} (cardinalities_of kind rows)) (x, n) ≡ is_among rows (SetRow kind x n)
cardinalities_among kind rows x n = contains-from_list cardinality_total (cardinalities_of kind rows) (x, n) ∙ any_cardinalities kind x n rows

-- a lock
pub locks_among : (rows : List Row) (x : Bytes) → contains (from_list {R = name_cmp} (locks_of rows)) x ≡ is_among rows (LockedRow x)
locks_among rows x = contains-from_list name_total (locks_of rows) x ∙ any_locks x rows

-- ---- keys

-- a row that is no cardinality is its own key
key_of_row : (row : Row) → ((kind : ℕ) (name : Bytes) (n : ℕ) → row ≡ SetRow kind name n → ⊥) → (other : Row) → same_row other row ≡ same_key other row
key_of_row row plain (NameRow k a) = refl
key_of_row (SetRow k x m) plain (SetRow l a n) = absurd (plain k x m refl)
key_of_row row plain other = refl

-- so it is among the rows exactly if its key is
among_by_key : (row : Row) → ((kind : ℕ) (name : Bytes) (n : ℕ) → row ≡ SetRow kind name n → ⊥) → (rows : List Row) → is_among rows row ≡ list_any (λ (other : Row). same_key other row) rows
among_by_key row plain [] = refl
among_by_key row plain (first ∷ rows) = λ i. key_of_row row plain first i || among_by_key row plain rows i

-- a set is listed exactly if its key is
any_sets : (kind : ℕ) (x : Bytes) (n : ℕ) (rows : List Row) → list_any (λ (entry : Cardinality). same_name entry.0 x) (cardinalities_of kind rows) ≡ list_any (λ (other : Row). same_key other (SetRow kind x n)) rows
any_sets kind x n [] = refl
any_sets kind x n (SetRow k a m ∷ rows) =
    one_more (λ (entry : Cardinality). same_name entry.0 x) (nat_eq k kind) (a, m) (cardinalities_of kind rows) _ (any_sets kind x n rows)
    ∙ ap (λ b. nat_eq k kind && b || list_any (λ (other : Row). same_key other (SetRow kind x n)) rows) (same_name-flips a x)
any_sets kind x n (_ ∷ rows) = any_sets kind x n rows

module _ {K : Type 0} {R : K → K → Ordering} (total : IsTotalOrder R) (exact : IsAntisymmetric R) where
  -- a test holds of a member of a list's set exactly if it does of an entry of the list
  pub any-from_list : (p : K → Bool) (xs : List K) → any p (from_list {R = R} xs) ≡ list_any p xs
  any-from_list p xs =
      let some = any-Decides total exact p (from_list {R = R} xs) in
      both_ways _ _
      (λ h. (let one = some.0 h in list_any-here total exact p xs one.0 (sym (contains-from_list total xs one.0) ∙ one.1) one.2))
      (λ h. (let one = list_any-found total exact p xs h in some.1 (one.0, contains-from_list total xs one.0 ∙ one.1, one.2)))

-- a key is there exactly if a row has it
pub key_among : (version : ℕ) (rows : List Row) (row : Row) → is_known version row ≡ true → has_key (gathered version rows) row ≡ list_any (λ (other : Row). same_key other row) rows
unfolding gathered has_key
key_among version rows (NameRow k x) known =
    known_names (λ k. has_key (gathered version rows) (NameRow k x) ≡ is_among rows (NameRow k x)) (names_among USER rows x) (names_among ROLE rows x) (names_among OBJECT rows x) k x known
    ∙ among_by_key (NameRow k x) (λ l a n h. cc) rows
key_among version rows (PairRow k x y) known =
    known_pairs (λ k. has_key (gathered version rows) (PairRow k x y) ≡ is_among rows (PairRow k x y)) (pairs_among PERMISSION rows x y) (pairs_among ASSIGNMENT rows x y) (pairs_among INHERITANCE rows x y) (pairs_among CLOSURE_PAIR rows x y)
    (pairs_among STATIC_MEMBER rows x y) (pairs_among DYNAMIC_MEMBER rows x y) (pairs_among SESSION rows x y) (pairs_among ACTIVATED_ROLE rows x y) k x y known
    ∙ among_by_key (PairRow k x y) (λ l a n h. cc) rows
key_among version rows (GrantRow x y z) known = grants_among rows x y z ∙ among_by_key (GrantRow x y z) (λ l a n h. cc) rows
key_among version rows (SetRow k x n) known =
    known_sets (λ k. has_key (gathered version rows) (SetRow k x n) ≡ list_any (λ (other : Row). same_key other (SetRow k x n)) rows)
    (any-from_list cardinality_total cardinality_exact (λ (entry : Cardinality). same_name entry.0 x) (cardinalities_of STATIC_CARDINALITY rows) ∙ any_sets STATIC_CARDINALITY x n rows)
    (any-from_list cardinality_total cardinality_exact (λ (entry : Cardinality). same_name entry.0 x) (cardinalities_of DYNAMIC_CARDINALITY rows) ∙ any_sets DYNAMIC_CARDINALITY x n rows) k x n known
key_among version rows (LockedRow x) known = locks_among rows x ∙ among_by_key (LockedRow x) (λ l a n h. cc) rows
