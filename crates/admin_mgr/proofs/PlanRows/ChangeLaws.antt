-- The effect of one change on the rows of a state, and of a list of changes.
use Rattle.std.proofs.Common.{◌≡◌, ℕ, Bool, true, false, not, ◌&&◌, ◌||◌, List, [], ◌∷◌, refl, sym, ◌∙◌, ap, subst, inl, inr}
use Rattle.std.specs.Prelude.{nat_eq, if◌then◌else◌}
use Rattle.std.specs.declared.cmp.Ordering.{Ordering}
use Rattle.std.specs.Ordering.{eq_by_cmp}
use Rattle.std.specs.Cmp.{IsTotalOrder}
use Rattle.std.specs.FinSet.{FinSet}
use Rattle.std.proofs.Math.Bool.{or_comm, and_comm, or-false, and-true}
use Rattle.std.proofs.lemmas.Bool.{eqb-true, or_cases}
use Rattle.rbac_sets.specs.Sets.{contains, insert, remove}
use Rattle.rbac_sets.specs.NameOrder.{name_total, pair_total, triple_total, cardinality_total}
use Rattle.rbac_sets.proofs.SetLaws.{contains-insert, contains-remove}
use Rattle.rbac_sets.specs.declared.row.Row.{Row}
use Rattle.rbac_sets.specs.declared.row.Row.TheVariants.{NameRow, PairRow, GrantRow, SetRow, LockedRow}
use Rattle.rbac_sets.specs.declared.row.TheConstants.Row.{USER, ROLE, OBJECT, PERMISSION, ASSIGNMENT, STATIC_MEMBER, DYNAMIC_MEMBER, SESSION, ACTIVATED_ROLE, STATIC_CARDINALITY, DYNAMIC_CARDINALITY}
use Rattle.rbac_sets.specs.declared.row.Change.{Change}
use Rattle.rbac_sets.specs.declared.row.Change.TheVariants.{Put, Take}
use Rattle.admin_mgr.specs.RbacState.{RbacState}
use Rattle.admin_mgr.specs.Rows.{has_row}
use Rattle.admin_mgr.specs.Changes.{same_row, is_put, is_taken}
use Rattle.admin_mgr.specs.private.OneRow.{is_plain, with_row, without_row, after_changes}

-- ---- the kinds of the rows that change one by one

-- what holds of a number holds of each that equals it
one_of : (P : ℕ → Type 0) (k n : ℕ) → P k → nat_eq n k ≡ true → P n
one_of P k n at is = subst P (sym (eqb-true n k is)) at

-- what holds of the three kinds of names holds of each kind that passes the test
pub plain_names : (P : ℕ → Type 0) → P USER → P ROLE → P OBJECT → (kind : ℕ) → (nat_eq kind USER || nat_eq kind ROLE || nat_eq kind OBJECT) ≡ true → P kind
plain_names P at_user at_role at_object kind test = elim (or_cases (nat_eq kind USER || nat_eq kind ROLE) (nat_eq kind OBJECT) test) [
  | inl before ↦ elim (or_cases (nat_eq kind USER) (nat_eq kind ROLE) before) [
    | inl is ↦ one_of P USER kind at_user is
    | inr is ↦ one_of P ROLE kind at_role is
  ]
  | inr is ↦ one_of P OBJECT kind at_object is
]

-- what holds of the six kinds of pairs holds of each kind that passes the test
pub plain_pairs : (P : ℕ → Type 0) → P PERMISSION → P ASSIGNMENT → P STATIC_MEMBER → P DYNAMIC_MEMBER → P SESSION → P ACTIVATED_ROLE → (kind : ℕ) →
    (nat_eq kind PERMISSION || nat_eq kind ASSIGNMENT || nat_eq kind STATIC_MEMBER || nat_eq kind DYNAMIC_MEMBER || nat_eq kind SESSION || nat_eq kind ACTIVATED_ROLE) ≡ true → P kind
plain_pairs P at_permission at_assignment at_static at_dynamic at_session at_active kind test = elim (or_cases (nat_eq kind PERMISSION || nat_eq kind ASSIGNMENT || nat_eq kind STATIC_MEMBER || nat_eq kind DYNAMIC_MEMBER || nat_eq kind SESSION) (nat_eq kind ACTIVATED_ROLE) test) [
  | inl before_active ↦ elim (or_cases (nat_eq kind PERMISSION || nat_eq kind ASSIGNMENT || nat_eq kind STATIC_MEMBER || nat_eq kind DYNAMIC_MEMBER) (nat_eq kind SESSION) before_active) [
    | inl before_session ↦ elim (or_cases (nat_eq kind PERMISSION || nat_eq kind ASSIGNMENT || nat_eq kind STATIC_MEMBER) (nat_eq kind DYNAMIC_MEMBER) before_session) [
      | inl before_dynamic ↦ elim (or_cases (nat_eq kind PERMISSION || nat_eq kind ASSIGNMENT) (nat_eq kind STATIC_MEMBER) before_dynamic) [
        | inl before_static ↦ elim (or_cases (nat_eq kind PERMISSION) (nat_eq kind ASSIGNMENT) before_static) [
          | inl is ↦ one_of P PERMISSION kind at_permission is
          | inr is ↦ one_of P ASSIGNMENT kind at_assignment is
        ]
        | inr is ↦ one_of P STATIC_MEMBER kind at_static is
      ]
      | inr is ↦ one_of P DYNAMIC_MEMBER kind at_dynamic is
    ]
    | inr is ↦ one_of P SESSION kind at_session is
  ]
  | inr is ↦ one_of P ACTIVATED_ROLE kind at_active is
]

-- what holds of both kinds of cardinalities holds of each kind that passes the test
pub plain_sets : (P : ℕ → Type 0) → P STATIC_CARDINALITY → P DYNAMIC_CARDINALITY → (kind : ℕ) → (nat_eq kind STATIC_CARDINALITY || nat_eq kind DYNAMIC_CARDINALITY) ≡ true → P kind
plain_sets P at_static at_dynamic kind test = elim (or_cases (nat_eq kind STATIC_CARDINALITY) (nat_eq kind DYNAMIC_CARDINALITY) test) [
  | inl is ↦ one_of P STATIC_CARDINALITY kind at_static is
  | inr is ↦ one_of P DYNAMIC_CARDINALITY kind at_dynamic is
]

-- ---- one change

or_false : (b : Bool) → b ≡ (b || false)
or_false b = sym (or-false b)

and_true : (b : Bool) → b ≡ (b && true)
and_true b = sym (and-true b)

-- a set that gains or loses one member on a condition
module _ {K : Type 0} {R : K → K → Ordering} (total : IsTotalOrder R) where
  insert_if : (b : Bool) (s : FinSet R) (a x : K) → contains (if b then insert s a else s) x ≡ (contains s x || (b && eq_by_cmp R x a))
  insert_if true s a x = contains-insert total s a x ∙ or_comm (eq_by_cmp R x a) (contains s x)
  insert_if false s a x = or_false (contains s x)

  remove_if : (b : Bool) (s : FinSet R) (a x : K) → contains (if b then remove s a else s) x ≡ (contains s x && not (b && eq_by_cmp R x a))
  remove_if true s a x = contains-remove total s a x ∙ and_comm (not (eq_by_cmp R x a)) (contains s x)
  remove_if false s a x = and_true (contains s x)

-- after a row is inserted, the rows are those before and this one
pub has_row-with : (S : RbacState) (row other : Row) → is_plain other ≡ true → has_row (with_row S row) other ≡ (has_row S other || same_row row other)
unfolding has_row with_row
has_row-with S (NameRow k a) (NameRow l x) plain =
    plain_names (λ kind. has_row (with_row S (NameRow k a)) (NameRow kind x) ≡ (has_row S (NameRow kind x) || same_row (NameRow k a) (NameRow kind x)))
    (insert_if name_total (nat_eq k USER) S.users a x) (insert_if name_total (nat_eq k ROLE) S.roles a x) (insert_if name_total (nat_eq k OBJECT) S.objects a x)
    l plain
has_row-with S (PairRow k a b) (PairRow l x y) plain =
    plain_pairs (λ kind. has_row (with_row S (PairRow k a b)) (PairRow kind x y) ≡ (has_row S (PairRow kind x y) || same_row (PairRow k a b) (PairRow kind x y)))
    (insert_if pair_total (nat_eq k PERMISSION) S.permissions (a, b) (x, y)) (insert_if pair_total (nat_eq k ASSIGNMENT) S.assignments (a, b) (x, y))
    (insert_if pair_total (nat_eq k STATIC_MEMBER) S.ssd.members (a, b) (x, y)) (insert_if pair_total (nat_eq k DYNAMIC_MEMBER) S.dsd.members (a, b) (x, y))
    (insert_if pair_total (nat_eq k SESSION) S.sessions (a, b) (x, y)) (insert_if pair_total (nat_eq k ACTIVATED_ROLE) S.active (a, b) (x, y))
    l plain
has_row-with S (GrantRow a b c) (GrantRow x y z) plain = insert_if triple_total true S.grants (a, b, c) (x, y, z)
has_row-with S (SetRow k a m) (SetRow l x n) plain =
    plain_sets (λ kind. has_row (with_row S (SetRow k a m)) (SetRow kind x n) ≡ (has_row S (SetRow kind x n) || same_row (SetRow k a m) (SetRow kind x n)))
    (insert_if cardinality_total (nat_eq k STATIC_CARDINALITY) S.ssd.cardinalities (a, m) (x, n)) (insert_if cardinality_total (nat_eq k DYNAMIC_CARDINALITY) S.dsd.cardinalities (a, m) (x, n))
    l plain
has_row-with S (LockedRow a) (LockedRow x) plain = insert_if name_total true S.locked a x
has_row-with S row other plain = or_false (has_row S other)

-- after a row is removed, the rows are those before without this one
pub has_row-without : (S : RbacState) (row other : Row) → is_plain other ≡ true → has_row (without_row S row) other ≡ (has_row S other && not (same_row row other))
unfolding has_row without_row
has_row-without S (NameRow k a) (NameRow l x) plain =
    plain_names (λ kind. has_row (without_row S (NameRow k a)) (NameRow kind x) ≡ (has_row S (NameRow kind x) && not (same_row (NameRow k a) (NameRow kind x))))
    (remove_if name_total (nat_eq k USER) S.users a x) (remove_if name_total (nat_eq k ROLE) S.roles a x) (remove_if name_total (nat_eq k OBJECT) S.objects a x)
    l plain
has_row-without S (PairRow k a b) (PairRow l x y) plain =
    plain_pairs (λ kind. has_row (without_row S (PairRow k a b)) (PairRow kind x y) ≡ (has_row S (PairRow kind x y) && not (same_row (PairRow k a b) (PairRow kind x y))))
    (remove_if pair_total (nat_eq k PERMISSION) S.permissions (a, b) (x, y)) (remove_if pair_total (nat_eq k ASSIGNMENT) S.assignments (a, b) (x, y))
    (remove_if pair_total (nat_eq k STATIC_MEMBER) S.ssd.members (a, b) (x, y)) (remove_if pair_total (nat_eq k DYNAMIC_MEMBER) S.dsd.members (a, b) (x, y))
    (remove_if pair_total (nat_eq k SESSION) S.sessions (a, b) (x, y)) (remove_if pair_total (nat_eq k ACTIVATED_ROLE) S.active (a, b) (x, y))
    l plain
has_row-without S (GrantRow a b c) (GrantRow x y z) plain = remove_if triple_total true S.grants (a, b, c) (x, y, z)
has_row-without S (SetRow k a m) (SetRow l x n) plain =
    plain_sets (λ kind. has_row (without_row S (SetRow k a m)) (SetRow kind x n) ≡ (has_row S (SetRow kind x n) && not (same_row (SetRow k a m) (SetRow kind x n))))
    (remove_if cardinality_total (nat_eq k STATIC_CARDINALITY) S.ssd.cardinalities (a, m) (x, n)) (remove_if cardinality_total (nat_eq k DYNAMIC_CARDINALITY) S.dsd.cardinalities (a, m) (x, n))
    l plain
has_row-without S (LockedRow a) (LockedRow x) plain = remove_if name_total true S.locked a x
has_row-without S row other plain = and_true (has_row S other)

-- ---- a list of changes

-- The first change and the others: a row that the first inserts counts as inserted, one that it removes as removed.
put_first : (has same taken put : Bool) → (taken && (same || put)) ≡ false → ((has || same) && not taken || put) ≡ (has && not taken || (same || put))
put_first has true true put h = cc
put_first true true false put h = refl
put_first true false taken put h = refl
put_first false same taken put h = refl

take_first : (has same taken put : Bool) → ((has && not same) && not taken || put) ≡ (has && not (same || taken) || put)
take_first true true taken put = refl
take_first true false taken put = refl
take_first false same taken put = refl

-- a row that isn't both removed and inserted by all changes isn't so by the rest of them
rest_put : (same taken put : Bool) → (taken && (same || put)) ≡ false → (taken && put) ≡ false
rest_put same false put h = refl
rest_put true true put h = cc
rest_put false true put h = h

rest_taken : (same taken put : Bool) → ((same || taken) && put) ≡ false → (taken && put) ≡ false
rest_taken true false put h = refl
rest_taken true true put h = h
rest_taken false taken put h = h

-- a row that isn't both removed and inserted is there afterwards exactly if it was there and isn't removed, or is inserted
pub has_row-changes : (S : RbacState) (changes : List Change) (row : Row) → is_plain row ≡ true → (is_taken changes row && is_put changes row) ≡ false →
    has_row (after_changes S changes) row ≡ (has_row S row && not (is_taken changes row) || is_put changes row)
unfolding after_changes is_put is_taken
has_row-changes S [] row plain apart = and_true (has_row S row) ∙ or_false (has_row S row && true)
has_row-changes S (Put first ∷ changes) row plain apart =
    has_row-changes (with_row S first) changes row plain (rest_put (same_row first row) (is_taken changes row) (is_put changes row) apart)
    ∙ ap (λ b. b && not (is_taken changes row) || is_put changes row) (has_row-with S first row plain)
    ∙ put_first (has_row S row) (same_row first row) (is_taken changes row) (is_put changes row) apart
has_row-changes S (Take first ∷ changes) row plain apart =
    has_row-changes (without_row S first) changes row plain (rest_taken (same_row first row) (is_taken changes row) (is_put changes row) apart)
    ∙ ap (λ b. b && not (is_taken changes row) || is_put changes row) (has_row-without S first row plain)
    ∙ take_first (has_row S row) (same_row first row) (is_taken changes row) (is_put changes row)
