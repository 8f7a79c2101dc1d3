-- The effect of one more row on the gathered sets, and when it may be added.
use Rattle.std.proofs.Common.{◌≡◌, ℕ, Bool, true, false, cond, List, [], ◌∷◌, ◌++◌, refl, sym, ◌∙◌, ap}
use Rattle.std.specs.Prelude.{IsTrue, nat_eq, if◌then◌else◌}
use Rattle.std.specs.List.{list_any, list_all}
use Rattle.std.specs.declared.cmp.Ordering.{Ordering}
use Rattle.std.specs.Cmp.{IsTotalOrder}
use Rattle.std.specs.FinMap.{IsAntisymmetric}
use Rattle.std.proofs.lemmas.List.{append-nil}
use Rattle.std.proofs.lemmas.List.Folds.{list_any-append, list_all-append}
use Rattle.std.proofs.lemmas.Bool.{and_parts, and_from, or_parts, or_from}
use Rattle.rbac_sets.specs.Sets.{Names, Triples, Cardinalities, insert, from_list}
use Rattle.rbac_sets.specs.NameOrder.{name_total, name_exact, pair_total, pair_exact, triple_total, triple_exact, cardinality_total, cardinality_exact}
use Rattle.rbac_sets.proofs.SetLaws.{from_list_push}
use Rattle.rbac_sets.specs.declared.row.Row.{Row}
use Rattle.rbac_sets.specs.declared.row.Row.TheVariants.{NameRow, PairRow, GrantRow, SetRow, LockedRow}
use Rattle.rbac_sets.specs.declared.row.TheConstants.Row.{USER, ROLE, OBJECT, PERMISSION, ASSIGNMENT, INHERITANCE, CLOSURE_PAIR, STATIC_MEMBER, DYNAMIC_MEMBER, SESSION, ACTIVATED_ROLE, STATIC_CARDINALITY, DYNAMIC_CARDINALITY}
use Rattle.admin_mgr.specs.private.OneRow.{with_row, with_pair_of, with_stored}
use Rattle.admin_mgr.specs.StoredSets.{StoredSets, gathered, names_of, pairs_of, grants_of, cardinalities_of, locks_of, is_known, same_key, HaveKeysOnce}
use Rattle.admin_mgr.specs.RowChecks.{AreReadable}

-- ---- one more row

-- a list that begins with an optional item, and has others appended
longer : {K : Type 0} (b : Bool) (x : K) (all xs last : List K) → all ≡ xs ++ last → cond b (x ∷ all) all ≡ cond b (x ∷ xs) xs ++ last
longer true x all xs last is = ap (λ l. x ∷ l) is
longer false x all xs last is = is

-- the names of a kind, with one more row
names_more : (kind : ℕ) (rows : List Row) (row : Row) → names_of kind (rows ++ row ∷ []) ≡ names_of kind rows ++ names_of kind (row ∷ [])
names_more kind [] row = refl
names_more kind (NameRow k a ∷ rows) row = longer (nat_eq k kind) a _ _ _ (names_more kind rows row)
names_more kind (_ ∷ rows) row = names_more kind rows row

-- the pairs of a kind, with one more row
pairs_more : (kind : ℕ) (rows : List Row) (row : Row) → pairs_of kind (rows ++ row ∷ []) ≡ pairs_of kind rows ++ pairs_of kind (row ∷ [])
pairs_more kind [] row = refl
pairs_more kind (PairRow k a b ∷ rows) row = longer (nat_eq k kind) (a, b) _ _ _ (pairs_more kind rows row)
pairs_more kind (_ ∷ rows) row = pairs_more kind rows row

-- the grants, with one more row
grants_more : (rows : List Row) (row : Row) → grants_of (rows ++ row ∷ []) ≡ grants_of rows ++ grants_of (row ∷ [])
grants_more [] row = refl
grants_more (GrantRow a b c ∷ rows) row = ap (λ l. (a, b, c) ∷ l) (grants_more rows row)
grants_more (_ ∷ rows) row = grants_more rows row

-- the cardinalities of a kind of sets, with one more row
cardinalities_more : (kind : ℕ) (rows : List Row) (row : Row) → cardinalities_of kind (rows ++ row ∷ []) ≡ cardinalities_of kind rows ++ cardinalities_of kind (row ∷ [])
cardinalities_more kind [] row = refl
cardinalities_more kind (SetRow k a n ∷ rows) row = longer (nat_eq k kind) (a, n) _ _ _ (cardinalities_more kind rows row)
cardinalities_more kind (_ ∷ rows) row = cardinalities_more kind rows row

-- the locks, with one more row
locks_more : (rows : List Row) (row : Row) → locks_of (rows ++ row ∷ []) ≡ locks_of rows ++ locks_of (row ∷ [])
locks_more [] row = refl
locks_more (LockedRow a ∷ rows) row = ap (λ l. a ∷ l) (locks_more rows row)
locks_more (_ ∷ rows) row = locks_more rows row

-- the set of a list to which an item may be appended
module _ {K : Type 0} {R : K → K → Ordering} (total : IsTotalOrder R) (exact : IsAntisymmetric R) where
  -- an appended item is one more in the set
  put_if : (b : Bool) (xs : List K) (x : K) → from_list {R = R} (xs ++ cond b (x ∷ []) []) ≡ cond b (insert (from_list xs) x) (from_list xs)
  put_if true xs x = from_list_push total exact xs x
  put_if false xs x = ap (from_list {R = R}) (append-nil xs)

  -- and appending nothing changes nothing
  put_none : (xs : List K) → from_list {R = R} (xs ++ []) ≡ from_list xs
  put_none xs = ap (from_list {R = R}) (append-nil xs)

-- the names of a kind, with what the row adds to them
abbrev with_name_of : ℕ → Names → Row → Names
with_name_of kind s (NameRow k a) = if nat_eq k kind then insert s a else s
with_name_of kind s _ = s

-- the grants, with what the row adds to them
abbrev with_grant : Triples → Row → Triples
with_grant s (GrantRow a b c) = insert s (a, b, c)
with_grant s _ = s

-- the cardinalities of a kind of sets, with what the row adds to them
abbrev with_cardinality_of : ℕ → Cardinalities → Row → Cardinalities
with_cardinality_of kind s (SetRow k a n) = if nat_eq k kind then insert s (a, n) else s
with_cardinality_of kind s _ = s

-- the locks, with what the row adds to them
abbrev with_lock : Names → Row → Names
with_lock s (LockedRow a) = insert s a
with_lock s _ = s

-- the set of the names of a kind, with one more row
names_put : (kind : ℕ) (rows : List Row) (row : Row) → from_list (names_of kind (rows ++ row ∷ [])) ≡ with_name_of kind (from_list (names_of kind rows)) row
names_put kind rows row = ap from_list (names_more kind rows row) ∙ by row
  where
    by : (row : Row) → from_list (names_of kind rows ++ names_of kind (row ∷ [])) ≡ with_name_of kind (from_list (names_of kind rows)) row
    by (NameRow k a) = put_if name_total name_exact (nat_eq k kind) (names_of kind rows) a
    by _ = put_none name_total name_exact (names_of kind rows)

-- the set of the pairs of a kind, with one more row
pairs_put : (kind : ℕ) (rows : List Row) (row : Row) → from_list (pairs_of kind (rows ++ row ∷ [])) ≡ with_pair_of kind (from_list (pairs_of kind rows)) row
pairs_put kind rows row = ap from_list (pairs_more kind rows row) ∙ by row
  where
    by : (row : Row) → from_list (pairs_of kind rows ++ pairs_of kind (row ∷ [])) ≡ with_pair_of kind (from_list (pairs_of kind rows)) row
    by (PairRow k a b) = put_if pair_total pair_exact (nat_eq k kind) (pairs_of kind rows) (a, b)
    by _ = put_none pair_total pair_exact (pairs_of kind rows)

-- the set of the grants, with one more row
grants_put : (rows : List Row) (row : Row) → from_list (grants_of (rows ++ row ∷ [])) ≡ with_grant (from_list (grants_of rows)) row
grants_put rows row = ap from_list (grants_more rows row) ∙ by row
  where
    by : (row : Row) → from_list (grants_of rows ++ grants_of (row ∷ [])) ≡ with_grant (from_list (grants_of rows)) row
    by (GrantRow a b c) = put_if triple_total triple_exact true (grants_of rows) (a, b, c)
    by _ = put_none triple_total triple_exact (grants_of rows)

-- the set of the cardinalities of a kind of sets, with one more row
cardinalities_put : (kind : ℕ) (rows : List Row) (row : Row) → from_list (cardinalities_of kind (rows ++ row ∷ [])) ≡ with_cardinality_of kind (from_list (cardinalities_of kind rows)) row
cardinalities_put kind rows row = ap from_list (cardinalities_more kind rows row) ∙ by row
  where
    by : (row : Row) → from_list (cardinalities_of kind rows ++ cardinalities_of kind (row ∷ [])) ≡ with_cardinality_of kind (from_list (cardinalities_of kind rows)) row
    by (SetRow k a n) = put_if cardinality_total cardinality_exact (nat_eq k kind) (cardinalities_of kind rows) (a, n)
    by _ = put_none cardinality_total cardinality_exact (cardinalities_of kind rows)

-- the set of the locks, with one more row
locks_put : (rows : List Row) (row : Row) → from_list (locks_of (rows ++ row ∷ [])) ≡ with_lock (from_list (locks_of rows)) row
locks_put rows row = ap from_list (locks_more rows row) ∙ by row
  where
    by : (row : Row) → from_list (locks_of rows ++ locks_of (row ∷ [])) ≡ with_lock (from_list (locks_of rows)) row
    by (LockedRow a) = put_if name_total name_exact true (locks_of rows) a
    by _ = put_none name_total name_exact (locks_of rows)

-- the sets of the rows with one more, each with what the row adds to it
abbrev by_sets : ℕ → List Row → Row → StoredSets
by_sets version rows row = record {
  facts = record {
    version = version;
    users = with_name_of USER (from_list (names_of USER rows)) row;
    locked = with_lock (from_list (locks_of rows)) row;
    roles = with_name_of ROLE (from_list (names_of ROLE rows)) row;
    objects = with_name_of OBJECT (from_list (names_of OBJECT rows)) row;
    permissions = with_pair_of PERMISSION (from_list (pairs_of PERMISSION rows)) row;
    assignments = with_pair_of ASSIGNMENT (from_list (pairs_of ASSIGNMENT rows)) row;
    grants = with_grant (from_list (grants_of rows)) row;
    edges = with_pair_of INHERITANCE (from_list (pairs_of INHERITANCE rows)) row;
    sessions = with_pair_of SESSION (from_list (pairs_of SESSION rows)) row;
    active = with_pair_of ACTIVATED_ROLE (from_list (pairs_of ACTIVATED_ROLE rows)) row;
    ssd = record { members = with_pair_of STATIC_MEMBER (from_list (pairs_of STATIC_MEMBER rows)) row; cardinalities = with_cardinality_of STATIC_CARDINALITY (from_list (cardinalities_of STATIC_CARDINALITY rows)) row };
    dsd = record { members = with_pair_of DYNAMIC_MEMBER (from_list (pairs_of DYNAMIC_MEMBER rows)) row; cardinalities = with_cardinality_of DYNAMIC_CARDINALITY (from_list (cardinalities_of DYNAMIC_CARDINALITY rows)) row };
  };
  pairs = with_pair_of CLOSURE_PAIR (from_list (pairs_of CLOSURE_PAIR rows)) row;
}

-- one more row adds its entry
pub gathered_more : (version : ℕ) (rows : List Row) (row : Row) → gathered version (rows ++ row ∷ []) ≡ with_stored (gathered version rows) row
unfolding gathered with_row
gathered_more version rows row = all_sets ∙ by row
  where
    all_sets : gathered version (rows ++ row ∷ []) ≡ by_sets version rows row
    all_sets = λ i. record {
      facts = record {
        version = version;
        users = names_put USER rows row i;
        locked = locks_put rows row i;
        roles = names_put ROLE rows row i;
        objects = names_put OBJECT rows row i;
        permissions = pairs_put PERMISSION rows row i;
        assignments = pairs_put ASSIGNMENT rows row i;
        grants = grants_put rows row i;
        edges = pairs_put INHERITANCE rows row i;
        sessions = pairs_put SESSION rows row i;
        active = pairs_put ACTIVATED_ROLE rows row i;
        ssd = record { members = pairs_put STATIC_MEMBER rows row i; cardinalities = cardinalities_put STATIC_CARDINALITY rows row i };
        dsd = record { members = pairs_put DYNAMIC_MEMBER rows row i; cardinalities = cardinalities_put DYNAMIC_CARDINALITY rows row i };
      };
      pairs = pairs_put CLOSURE_PAIR rows row i;
    }

    by : (row : Row) → by_sets version rows row ≡ with_stored (gathered version rows) row
    by (NameRow k a) = refl
    by _ = refl

-- ---- keys that occur once

-- keys occur once if a row with a new key is appended
pub keys_more : (rows : List Row) (row : Row) → HaveKeysOnce rows → list_any (λ (other : Row). same_key other row) rows ≡ false → HaveKeysOnce (rows ++ row ∷ [])
keys_more [] row once free = (refl, tt)
keys_more (first ∷ rows) row once free =
    let parts = or_parts (same_key first row) _ free in (
      list_any-append (λ (other : Row). same_key first other) rows (row ∷ []) ∙ or_from _ _ once.0 (or_from _ _ parts.0 refl),
      keys_more rows row once.1 parts.1,
    )

-- if keys occur once, a row has another key than those before it
pub keys_before : (rows : List Row) (row : Row) (rest : List Row) → HaveKeysOnce (rows ++ row ∷ rest) → list_any (λ (other : Row). same_key other row) rows ≡ false
keys_before [] row rest once = refl
keys_before (first ∷ rows) row rest once =
    let later = or_parts _ _ (sym (list_any-append (λ (other : Row). same_key first other) rows (row ∷ rest)) ∙ once.0) in
    or_from _ _ (or_parts (same_key first row) _ later.1).0 (keys_before rows row rest once.1)

-- ---- rows that may be read

-- the empty list of rows is readable
pub readable_none : (version : ℕ) → AreReadable version []
readable_none version = record { known = refl; keys = tt }

-- readable rows with a known row of a new key appended are readable
pub readable_more : (version : ℕ) (rows : List Row) (row : Row) → AreReadable version rows → IsTrue (is_known version row) → list_any (λ (other : Row). same_key other row) rows ≡ false →
    AreReadable version (rows ++ row ∷ [])
readable_more version rows row readable known free = record {
  known = list_all-append (is_known version) rows (row ∷ []) ∙ and_from _ _ readable.known (and_from _ _ known refl);
  keys = keys_more rows row readable.keys free;
}

-- each of readable rows is known
pub readable_known : (version : ℕ) (rows : List Row) (row : Row) (rest : List Row) → AreReadable version (rows ++ row ∷ rest) → IsTrue (is_known version row)
readable_known version rows row rest readable =
    (and_parts (is_known version row) _ (and_parts (list_all (is_known version) rows) _ (sym (list_all-append (is_known version) rows (row ∷ rest)) ∙ readable.known)).1).0

-- and has another key than those before it
pub readable_free : (version : ℕ) (rows : List Row) (row : Row) (rest : List Row) → AreReadable version (rows ++ row ∷ rest) → list_any (λ (other : Row). same_key other row) rows ≡ false
readable_free version rows row rest readable = keys_before rows row rest readable.keys
