-- What a change of a row does to the rows of the tables.
use Rattle.std.proofs.Common.{◌≡◌, inl, inr, ℕ, ℤ, pos, ◌==◌, List, [], ◌∷◌, ◌++◌, map, filter, if◌then◌else◌, Bool, true, false, not, IsTrue, Ordering, Less, Equal, Greater, refl, sym, ap, ap₂, ◌∙◌}
use Rattle.std.proofs.lemmas.Bool.{cases_Bool}
use Rattle.std.proofs.lemmas.Cmp.{tied_itself}
use Rattle.std.specs.Ordering.{ordering_then}
use Rattle.std.specs.Cmp.{Equal-is}
use Rattle.std.specs.FinMap.{int_cmp-IsAntisymmetric}
use Rattle.std.specs.List.{AllByRecursion}
use Rattle.rbac_sets.specs.NameOrder.{name_exact}
use Rattle.rbac_sets.specs.declared.row.Row.{Row}
use Rattle.rbac_sets.specs.declared.row.Row.TheVariants.{NameRow, PairRow, GrantRow, SetRow, LockedRow}
use Rattle.sqlite.specs.declared.types.Value.{Value}
use Rattle.sqlite.specs.declared.types.Value.TheVariants.{Null, Int, Text, Real, Blob}
use Rattle.sqlite.specs.Order as sql
use Rattle.sqlite.specs.Order.{row_cmp, value_cmp}
use Rattle.sqlite_value.proofs.OrderLemmas.{row_cmp_total, value_cmp-Int, value_cmp-Text}
use Rattle.admin_mgr.specs.Changes as change
use Rattle.admin_mgr.proofs.PlanRows.CommitLaws.{same_row-self, same_row-is}
use Rattle.role_tables.specs.private.NamedTables.{same_row, without_row, changed_at}
use Rattle.role_tables.specs.OfficeTables.{StoredTable, Meta, Names, Pairs, Grants, Sets, Locks, code, OfficeRow, meta_row, name_row, pair_row, grant_row, set_row, locked_row, table_of, cells}
use Rattle.role_tables.specs.StoredState.{stored, is_of, cells_of, meta_of, stored_rows}
use Rattle.role_tables.proofs.OfficeTables.Changes.{same_code}

-- ---- equal values, equal rows

abbrev pub IsOurs : Value → Type 0
IsOurs (Int n) = Unit {0}
IsOurs (Text t) = Unit {0}
IsOurs _ = ⊥

apart : (m : ℤ) (t : List ℕ) → (value_cmp (Int m) (Text t) ≡ Equal → ⊥) × (value_cmp (Text t) (Int m) ≡ Equal → ⊥)
unfolding value_cmp
apart m t = (λ e. cc, λ e. cc)

exact_value : (a b : Value) → IsOurs a → IsOurs b → value_cmp a b ≡ Equal → a ≡ b
exact_value (Int m) (Int n) oa ob e = ap Int (int_cmp-IsAntisymmetric m n (sym (value_cmp-Int m n) ∙ e))
exact_value (Text s) (Text t) oa ob e = ap Text (name_exact s t (sym (value_cmp-Text s t) ∙ e))
exact_value (Int m) (Text t) oa ob e = absurd ((apart m t).0 e)
exact_value (Text t) (Int m) oa ob e = absurd ((apart m t).1 e)
exact_value (Null) b oa ob e = absurd oa
exact_value (Real x) b oa ob e = absurd oa
exact_value (Blob x) b oa ob e = absurd oa
exact_value (Int m) (Null) oa ob e = absurd ob
exact_value (Int m) (Real x) oa ob e = absurd ob
exact_value (Int m) (Blob x) oa ob e = absurd ob
exact_value (Text m) (Null) oa ob e = absurd ob
exact_value (Text m) (Real x) oa ob e = absurd ob
exact_value (Text m) (Blob x) oa ob e = absurd ob

both_equal : (a b : Ordering) → ordering_then a b ≡ Equal → (a ≡ Equal) × (b ≡ Equal)
both_equal Less b e = cc
both_equal Equal b e = (refl, e)
both_equal Greater b e = cc

exact_row : (a b : sql.Row) → AllByRecursion IsOurs a → AllByRecursion IsOurs b → row_cmp a b ≡ Equal → a ≡ b
exact_row [] [] oa ob e = refl
exact_row [] (y ∷ ys) oa ob e = cc
exact_row (x ∷ xs) [] oa ob e = cc
exact_row (x ∷ xs) (y ∷ ys) oa ob e =
    let both = both_equal (value_cmp x y) (row_cmp xs ys) e in
    ap₂ (λ v vs. v ∷ vs) (exact_value x y oa.0 ob.0 both.0) (exact_row xs ys oa.1 ob.1 both.1)

pub are_ours : (row : OfficeRow) → AllByRecursion IsOurs (cells row)
are_ours (meta_row tag version) = (tt, (tt, tt))
are_ours (name_row kind a) = (tt, (tt, tt))
are_ours (pair_row kind a b) = (tt, (tt, (tt, tt)))
are_ours (grant_row ob op role) = (tt, (tt, (tt, tt)))
are_ours (set_row kind name n) = (tt, (tt, (tt, tt)))
are_ours (locked_row a) = (tt, tt)

number_of : Value → ℕ
number_of (Int (pos n)) = n
number_of _ = 0

text_of : Value → List ℕ
text_of (Text t) = t
text_of _ = []

-- the row that has these values in this table
read_back : StoredTable → sql.Row → OfficeRow
read_back Meta values = meta_row (text_of (sql.column values 0)) (number_of (sql.column values 1))
read_back Names values = name_row (number_of (sql.column values 0)) (text_of (sql.column values 1))
read_back Pairs values = pair_row (number_of (sql.column values 0)) (text_of (sql.column values 1)) (text_of (sql.column values 2))
read_back Grants values = grant_row (text_of (sql.column values 0)) (text_of (sql.column values 1)) (text_of (sql.column values 2))
read_back Sets values = set_row (number_of (sql.column values 0)) (text_of (sql.column values 1)) (number_of (sql.column values 2))
read_back Locks values = locked_row (text_of (sql.column values 0))

back_again : (row : OfficeRow) → read_back (table_of row) (cells row) ≡ row
unfolding read_back number_of text_of
back_again (meta_row tag version) = refl
back_again (name_row kind a) = refl
back_again (pair_row kind a b) = refl
back_again (grant_row ob op role) = refl
back_again (set_row kind name n) = refl
back_again (locked_row a) = refl

row_of : OfficeRow → Row
row_of (meta_row tag version) = LockedRow []
row_of (name_row kind a) = NameRow kind a
row_of (pair_row kind a b) = PairRow kind a b
row_of (grant_row ob op role) = GrantRow ob op role
row_of (set_row kind name n) = SetRow kind name n
row_of (locked_row a) = LockedRow a

row_again : (row : Row) → row_of (stored row) ≡ row
unfolding row_of
row_again (NameRow kind a) = refl
row_again (PairRow kind a b) = refl
row_again (GrantRow ob op role) = refl
row_again (SetRow kind name n) = refl
row_again (LockedRow a) = refl

-- rows of one table with the same values are one row
pub cells_tell : (a b : Row) → table_of (stored a) ≡ table_of (stored b) → cells_of a ≡ cells_of b → a ≡ b
cells_tell a b table values =
    sym (row_again a) ∙ ap row_of (sym (back_again (stored a)) ∙ ap₂ read_back table values ∙ back_again (stored b)) ∙ row_again b

-- the tables' test for equal rows agrees with the office's
pub same_cells : (a b : Row) → table_of (stored a) ≡ table_of (stored b) → same_row (cells_of b) (cells_of a) ≡ change.same_row a b
same_cells a b table = elim (cases_Bool (change.same_row a b)) [
  | inl same ↦ rw same (rw (same_row-is a b same) ((Equal-is _).1 (tied_itself row_cmp_total (cells_of a))))
  | inr other ↦ rw other (go other (same_row (cells_of b) (cells_of a)) refl)
]
  where
    go : change.same_row a b ≡ false → (t : Bool) → same_row (cells_of b) (cells_of a) ≡ t → t ≡ false
    go other false is = refl
    go other true is = absurd (let e = cells_tell a b table (sym (exact_row (cells_of b) (cells_of a) (are_ours (stored b)) (are_ours (stored a)) ((Equal-is _).0 is))) in
        let s = rw e at (same_row-self a) in let f = rw e at other in cc)

-- rows of two tables are not the same
pub same_of_kind : (a b : Row) → change.same_row a b ≡ true → table_of (stored a) ≡ table_of (stored b)
same_of_kind a b same = ap (λ r. table_of (stored r)) (sym (same_row-is a b same))

-- ---- what a change does to the tables' rows

mapped_filter : {A B : Type 0} (f : A → B) (p : A → Bool) (x : A) (xs : List A) (b : Bool) → p x ≡ b → map f (filter p (x ∷ xs)) ≡ (if b then f x ∷ map f (filter p xs) else map f (filter p xs))
mapped_filter f p x xs true is = rw is refl
mapped_filter f p x xs false is = rw is refl

no_meta : (row : Row) → (0 == code (table_of (stored row))) ≡ false
no_meta (NameRow kind a) = refl
no_meta (PairRow kind a b) = refl
no_meta (GrantRow ob op role) = refl
no_meta (SetRow kind name n) = refl
no_meta (LockedRow a) = refl

put_here : (kind : StoredTable) (row : Row) (rows : List Row) (metas : List sql.Row) (b : Bool) → is_of kind row ≡ b → (IsTrue b → metas ≡ [])
    → (if b then cells_of row ∷ (metas ++ map cells_of (filter (is_of kind) rows)) else metas ++ map cells_of (filter (is_of kind) rows)) ≡ metas ++ map cells_of (filter (is_of kind) (row ∷ rows))
put_here kind row rows metas true is none = rw (none refl, mapped_filter cells_of (is_of kind) row rows true is) refl
put_here kind row rows metas false is none = ap (λ l. metas ++ l) (sym (mapped_filter cells_of (is_of kind) row rows false is))

plain_meta : (version : ℕ) (kind : StoredTable) (row : Row) → IsTrue (is_of kind row) → meta_of version kind ≡ []
plain_meta version Meta row is = absurd (let e = no_meta row in cc)
plain_meta version Names row is = refl
plain_meta version Pairs row is = refl
plain_meta version Grants row is = refl
plain_meta version Sets row is = refl
plain_meta version Locks row is = refl

pub put_tables : (version : ℕ) (row : Row) (rows : List Row) (kind : StoredTable) → changed_at (table_of (stored row)) (λ all. cells_of row ∷ all) (stored_rows version rows) kind ≡ stored_rows version (row ∷ rows) kind
put_tables version row rows kind = put_here kind row rows (meta_of version kind) (is_of kind row) refl (plain_meta version kind row)

-- the test of the table and that of the office leave the same rows of the table
take_same : (kind : StoredTable) (row : Row) (rows : List Row) → kind ≡ table_of (stored row)
    → without_row (cells_of row) (map cells_of (filter (is_of kind) rows)) ≡ map cells_of (filter (is_of kind) (filter (λ other. not (change.same_row row other)) rows))
take_same kind row [] is = refl
take_same kind row (r ∷ rs) is = elim (cases_Bool (is_of kind r)) [
  | inl here ↦
      let table : table_of (stored row) ≡ table_of (stored r) = sym is ∙ same_code kind (table_of (stored r)) here in
      let test = same_cells row r table in
      elim (cases_Bool (change.same_row row r)) [
        | inl same ↦ rw (here, test, same) (take_same kind row rs is)
        | inr other ↦ rw (here, test, other, here) (ap (λ l. cells_of r ∷ l) (take_same kind row rs is))
      ]
  | inr away ↦ elim (cases_Bool (change.same_row row r)) [
    | inl same ↦ rw (away, same) (take_same kind row rs is)
    | inr other ↦ rw (away, other, away) (take_same kind row rs is)
  ]
]

take_other : (kind : StoredTable) (row : Row) (rows : List Row) → is_of kind row ≡ false → map cells_of (filter (is_of kind) rows) ≡ map cells_of (filter (is_of kind) (filter (λ other. not (change.same_row row other)) rows))
take_other kind row [] is = refl
take_other kind row (r ∷ rs) is = elim (cases_Bool (change.same_row row r)) [
  | inl same ↦ let away : is_of kind r ≡ false = ap (λ t. code kind == code t) (sym (same_of_kind row r same)) ∙ is in rw (away, same) (take_other kind row rs is)
  | inr other ↦ elim (cases_Bool (is_of kind r)) [
    | inl here ↦ rw (here, other, here) (ap (λ l. cells_of r ∷ l) (take_other kind row rs is))
    | inr away ↦ rw (away, other, away) (take_other kind row rs is)
  ]
]

take_here : (kind : StoredTable) (row : Row) (rows : List Row) (metas : List sql.Row) (b : Bool) → is_of kind row ≡ b → (IsTrue b → metas ≡ [])
    → (if b then without_row (cells_of row) (metas ++ map cells_of (filter (is_of kind) rows)) else metas ++ map cells_of (filter (is_of kind) rows)) ≡ metas ++ map cells_of (filter (is_of kind) (filter (λ other. not (change.same_row row other)) rows))
take_here kind row rows metas true is none = rw (none refl) (take_same kind row rows (same_code kind (table_of (stored row)) is))
take_here kind row rows metas false is none = ap (λ l. metas ++ l) (take_other kind row rows is)

pub take_tables : (version : ℕ) (row : Row) (rows : List Row) (kind : StoredTable) → changed_at (table_of (stored row)) (without_row (cells_of row)) (stored_rows version rows) kind ≡ stored_rows version (filter (λ other. not (change.same_row row other)) rows) kind
take_tables version row rows kind = take_here kind row rows (meta_of version kind) (is_of kind row) refl (plain_meta version kind row)
