-- The rows that a DELETE by equal columns deletes.
use Rattle.std.proofs.Common.{◌≡◌, arith, ℕ, ◌+◌, ℤ, List, [], ◌∷◌, ◌++◌, map, filter, flat_map, length, Bool, true, false, not, ◌&&◌, ◌||◌, cond, Some, refl, sym, ap, subst, ◌∙◌}
use Rattle.std.specs.List.{list_all, list_any, AllByRecursion}
use Rattle.std.specs.List.Sorted.{IsPermutation}
use Rattle.std.specs.declared.cmp.Ordering.{Ordering}
use Rattle.std.specs.declared.cmp.Ordering.TheVariants.{Less, Equal, Greater}
use Rattle.std.specs.Ordering.{is_eq, ordering_then, ordering_reverse}
use Rattle.std.proofs.lemmas.List.Sorted.{IsPermutation-map, list_any-IsPermutation}
use Rattle.sqlite.specs.declared.types.Value.{Value}
use Rattle.sqlite.specs.Order.{Row, column, value_cmp, row_cmp}
use Rattle.sqlite.specs.Term.{Term, Env, holds}
use Rattle.sqlite.specs.Ops.{is_null, is_true, from_truth, binary}
use Rattle.sqlite.specs.Table.{Table}
use Rattle.sqlite.specs.Query.{IsAnswer, Output, output}
use Rattle.sqlite.specs.Program.{overlay}
use Rattle.sqlite.specs.Edit.{without_all}
use Rattle.sqlite.specs.Tree.{Trees, IsTable, rowid, has_rowid, without_rowid}
use Rattle.sqlite_rules.specs.Calls.{ids_of}
use Rattle.sqlite_rules.specs.Edit.{id_in}
use Rattle.sqlite_trees.specs.View.{is_int}
use Rattle.sqlite_rules.proofs.TableLemmas.{int_is}
use Rattle.sqlite_value.proofs.OrderLemmas.{value_cmp_total}
use Rattle.sqlite_trees.proofs.ListLemmas.{map-map, all_weaker, all-filter, filter_same}
use Rattle.role_tables.specs.TableByName.{HaveIntIds, HasNoNull}
use Rattle.role_tables.specs.private.NamedTables.{same_row}
use Rattle.role_tables.proofs.Meanings.Columns.{Place}
use Rattle.role_tables.proofs.Meanings.Deletes.{is_equal, tests_from, taking_query}
use Rattle.role_tables.proofs.Meanings.SelectedRows.{stored_tree}

-- the row passes the tests
abbrev pub is_at : List Term → Row → Row → Bool
is_at tests params r = list_all (holds (params ∷ r ∷ [])) tests

abbrev env_of : Row → Row → Env
env_of params r = params ∷ r ∷ []

each_kept : (tests : List Term) (params : Row) (rows : List Row) → flat_map (λ r. cond (is_at tests params r) (env_of params r ∷ []) []) rows ≡ map (env_of params) (filter (is_at tests params) rows)
each_kept tests params [] = refl
each_kept tests params (r ∷ rows) =
    elim (is_at tests params r) as (λ b. (cond b (env_of params r ∷ []) [] ++ flat_map (λ r. cond (is_at tests params r) (env_of params r ∷ []) []) rows) ≡ map (env_of params) (cond b (r ∷ filter (is_at tests params) rows) (filter (is_at tests params) rows)))
    [ true ↦ ap (λ l. env_of params r ∷ l) (each_kept tests params rows) | false ↦ each_kept tests params rows ]

outputs : (table : Table) (tests : List Term) (params : Row) (rows : List Row) → map (λ (o : Output). o.1) (map (output (taking_query table tests)) (map (env_of params) rows)) ≡ map (λ r. rowid r ∷ []) rows
outputs table tests params [] = refl
outputs table tests params (r ∷ rows) = ap (λ l. (rowid r ∷ []) ∷ l) (outputs table tests params rows)

pub answer_ids : (table : Table) (tests : List Term) (db : Trees) (params : Row) (rows : List Row) → IsAnswer (taking_query table tests) (overlay db []) params rows
    → IsPermutation (map (λ r. rowid r ∷ []) (filter (is_at tests params) (db table.tree))) rows
answer_ids table tests db params rows a =
    let all = filter (is_at tests params) (db table.tree) in
    let staged : a.staged ≡ map (env_of params) all = a.grouped ∙ ap (flat_map (λ r. cond (is_at tests params r) (env_of params r ∷ []) [])) (stored_tree db table.tree) ∙ each_kept tests params (db table.tree) in
    let kept : a.kept ≡ map (output (taking_query table tests)) (map (env_of params) all) = a.distinct ∙ ap (map (output (taking_query table tests))) staged in
    let mapped = IsPermutation-map (λ (o : Output). o.1) _ _ (subst (λ k. IsPermutation k a.ordered) kept a.same) in
    subst (λ r. IsPermutation (map (λ r. rowid r ∷ []) all) r) (sym a.shown) (subst (λ l. IsPermutation l (map (λ (o : Output). o.1) a.ordered)) (outputs table tests params all) mapped)

-- ---- the rows without those rowids

filter_twice : {A : Type 0} (p q : A → Bool) (xs : List A) → filter p (filter q xs) ≡ filter (λ x. q x && p x) xs
filter_twice p q [] = refl
filter_twice p q (x ∷ xs) =
    elim (q x) as (λ b. filter p (cond b (x ∷ filter q xs) (filter q xs)) ≡ cond (b && p x) (x ∷ filter (λ x. q x && p x) xs) (filter (λ x. q x && p x) xs))
    [ true ↦ ap (λ l. cond (p x) (x ∷ l) l) (filter_twice p q xs) | false ↦ filter_twice p q xs ]

filter_as : {A : Type 0} (p q : A → Bool) → ((x : A) → p x ≡ q x) → (xs : List A) → filter p xs ≡ filter q xs
filter_as p q same xs = λ i. filter (λ x. same x i) xs

neither : (a b : Bool) → (not a && not b) ≡ not (a || b)
neither true b = refl
neither false b = refl

without_is : (ids : List ℤ) (rows : List Row) → without_all rows ids ≡ filter (λ r. not (list_any (λ id. has_rowid id r) ids)) rows
without_is [] rows = sym (all_stay rows)
  where
    all_stay : (rows : List Row) → filter (λ r. true) rows ≡ rows
    all_stay [] = refl
    all_stay (r ∷ rows) = ap (λ l. r ∷ l) (all_stay rows)
without_is (id ∷ ids) rows =
    without_is ids (without_rowid id rows) ∙ filter_twice (λ r. not (list_any (λ id. has_rowid id r) ids)) (λ r. not (has_rowid id r)) rows
    ∙ filter_as _ _ (λ r. neither (has_rowid id r) (list_any (λ id. has_rowid id r) ids)) rows

self_equal : (v : Value) → value_cmp v v ≡ Equal
self_equal v = go (value_cmp v v) (value_cmp_total.antisymm v v)
  where
    go : (o : Ordering) → o ≡ ordering_reverse o → o ≡ Equal
    go Less h = absurd (cc)
    go Equal h = refl
    go Greater h = absurd (cc)

not_equal_back : (v w : Value) → value_cmp v w ≡ Less → is_eq (value_cmp w v) ≡ false
not_equal_back v w less = ap is_eq (value_cmp_total.antisymm w v ∙ ap ordering_reverse less)

abbrev same_rowid : Row → Row → Bool
same_rowid r x = is_eq (value_cmp (rowid r) (rowid x))

none_above : (test : Row → Bool) (x : Row) (xs : List Row) → AllByRecursion (λ y. value_cmp (rowid x) (rowid y) ≡ Less) xs → list_any (same_rowid x) (filter test xs) ≡ false
none_above test x [] above = refl
none_above test x (y ∷ ys) above =
    elim (test y) as (λ b. list_any (same_rowid x) (cond b (y ∷ filter test ys) (filter test ys)) ≡ false)
    [ true ↦ ap (λ o. is_eq o || list_any (same_rowid x) (filter test ys)) above.0 ∙ none_above test x ys above.1 | false ↦ none_above test x ys above.1 ]

-- a row has the rowid of a row that passes exactly if it passes itself
exactly : (test : Row → Bool) (rows : List Row) → IsTable rows → AllByRecursion (λ r. list_any (same_rowid r) (filter test rows) ≡ test r) rows
exactly test [] keyed = tt
exactly test (x ∷ xs) keyed = (
  elim (test x) as (λ b. list_any (same_rowid x) (cond b (x ∷ filter test xs) (filter test xs)) ≡ b)
      [ true ↦ ap (λ o. is_eq o || list_any (same_rowid x) (filter test xs)) (self_equal (rowid x)) | false ↦ none_above test x xs keyed.0 ],
  later xs keyed.0 (exactly test xs keyed.1),
)
  where
    later : (ys : List Row) → AllByRecursion (λ y. value_cmp (rowid x) (rowid y) ≡ Less) ys → AllByRecursion (λ r. list_any (same_rowid r) (filter test xs) ≡ test r) ys
        → AllByRecursion (λ r. list_any (same_rowid r) (filter test (x ∷ xs)) ≡ test r) ys
    later [] above same = tt
    later (y ∷ ys) above same = (
      elim (test x) as (λ b. list_any (same_rowid y) (cond b (x ∷ filter test xs) (filter test xs)) ≡ test y)
          [ true ↦ ap (λ b. b || list_any (same_rowid y) (filter test xs)) (not_equal_back (rowid x) (rowid y) above.0) ∙ same.0 | false ↦ same.0 ],
      later ys above.1 same.1,
    )

by_ids : (r : Row) (xs : List Row) → HaveIntIds xs → list_any (λ id. has_rowid id r) (map (λ x. id_in (rowid x)) xs) ≡ list_any (same_rowid r) xs
by_ids r [] ints = refl
by_ids r (x ∷ xs) ints =
    ap (λ v. is_eq (value_cmp (rowid r) v) || list_any (λ id. has_rowid id r) (map (λ x. id_in (rowid x)) xs)) (sym (int_is (rowid x) ints.0)) ∙ ap (λ b. same_rowid r x || b) (by_ids r xs ints.1)

-- the rows whose rowids were found are deleted, and no others
pub taken_rows : (test : Row → Bool) (rows ids : List Row) → IsTable rows → HaveIntIds rows → IsPermutation (map (λ r. rowid r ∷ []) (filter test rows)) ids
    → without_all rows (ids_of ids) ≡ filter (λ r. not (test r)) rows
taken_rows test rows ids keyed ints found =
    let passed = filter test rows in
    let numbers : IsPermutation (map (λ x. id_in (rowid x)) passed) (ids_of ids) = subst (λ l. IsPermutation l (ids_of ids)) (map-map (λ r. id_in (rowid r)) (λ r. rowid r ∷ []) passed) (IsPermutation-map (λ r. id_in (rowid r)) _ _ found) in
    let each : AllByRecursion (λ r. not (list_any (λ id. has_rowid id r) (ids_of ids)) ≡ not (test r)) rows =
    all_weaker _ _ (λ r same. ap not (sym (list_any-IsPermutation (λ id. has_rowid id r) _ _ numbers) ∙ by_ids r passed (all-filter (λ r. is_int (rowid r) ≡ true) test rows ints) ∙ same)) rows (exactly test rows keyed) in
    without_is (ids_of ids) rows ∙ filter_same (λ r. not (list_any (λ id. has_rowid id r) (ids_of ids))) (λ r. not (test r)) rows each

-- ---- the tests require these values

abbrev pub AreParams : Row → ℕ → Row → Type 0
AreParams params n [] = Unit {0}
AreParams params n (v ∷ vs) = (column params n ≡ v) × AreParams params (n + 1) vs

both_equal : (o p : Ordering) → is_eq (ordering_then o p) ≡ (is_eq o && is_eq p)
both_equal Less p = refl
both_equal Equal p = refl
both_equal Greater p = refl

truth_is : (b : Bool) → is_true (from_truth (Some b)) ≡ b
truth_is true = refl
truth_is false = refl

holds_is : (k j : ℕ) (params r : Row) (v : Value) → is_null (column r (k + 1)) ≡ false → column params j ≡ v → is_null v ≡ false → holds (params ∷ r ∷ []) (is_equal k j) ≡ is_eq (value_cmp (column r (k + 1)) v)
unfolding binary
holds_is k j params r v solid is given = rw (is, solid, given) (truth_is _)

abbrev pub values_at : List Place → Row → Row
values_at places r = map (λ (p : Place). column r (p.1 + 1)) places

pub tests_are : (places : List Place) (n : ℕ) (params r values : Row) → length values ≡ length places → HasNoNull (values_at places r) → AreParams params n values → HasNoNull values
    → is_at (tests_from n places) params r ≡ same_row (values_at places r) values
tests_are [] n params r [] same solid are given = refl
tests_are [] n params r (v ∷ vs) same solid are given = absurd (omega (arith, same))
tests_are (p ∷ ps) n params r [] same solid are given = absurd (omega (arith, same))
tests_are (p ∷ ps) n params r (v ∷ vs) same solid are given =
    ap (λ b. b && is_at (tests_from (n + 1) ps) params r) (holds_is p.1 n params r v solid.0 are.0 given.0)
    ∙ ap (λ b. is_eq (value_cmp (column r (p.1 + 1)) v) && b) (tests_are ps (n + 1) params r vs (omega (arith, same)) solid.1 are.1 given.1)
    ∙ sym (both_equal (value_cmp (column r (p.1 + 1)) v) (row_cmp (values_at ps r) vs))
