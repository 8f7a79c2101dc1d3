-- What the statements do to the office's tables: one lemma each, whatever the table and whatever other tables there are.
use Rattle.std.proofs.Common.{IsTrue, slice_index, ◌*◌, ◌≡◌, ◌≢◌, ℕ, ◌+◌, ◌==◌, ◌/◌, if◌then◌else◌, ℤ, List, [], ◌∷◌, length, map, not, slice_get, Bool, true, false, Some, None, Ok, refl, sym, ap, subst, ◌∙◌}
use Rattle.std.specs.List.{AllByRecursion}
use Rattle.std.proofs.lemmas.Bool.{eqb-true, eq-eqb}
use Rattle.sqlite.specs.declared.types.Value.TheVariants.{Null, Int}
use Rattle.sqlite.specs.Order.{Row}
use Rattle.sqlite.specs.Schema.{Schema}
use Rattle.sqlite.specs.Rows.{stamped}
use Rattle.sqlite.specs.Effect.{Database, IsDatabase, value_rows}
use Rattle.sqlite.specs.State.{State, Executes}
use Rattle.sqlite_rules.specs.Cast.{cast_all}
use Rattle.sqlite_trees.proofs.ListLemmas.{all-slice_get, all-permutation, all-filter}
use Rattle.role_tables.specs.TableByName.{Place, cells_at, HasNoNull, HoldsRows}
use Rattle.role_tables.specs.private.NamedTables.{AreIn, without_row, same_row, changed_at}
use Rattle.role_tables.specs.OfficeTables.{StoredTable, Meta, Names, Pairs, Grants, Sets, Locks, making, made, places, Rows, code, OfficeRow, meta_row, name_row, pair_row, grant_row, set_row, locked_row, table_of, cells, HoldsTables}
use Rattle.role_tables.specs.private.Texts.{insert_text, delete_text}
use Rattle.role_tables.proofs.OfficeTables.Texts.{are_in, take_is, where_of, are_ours, put_terms, put_is}
use Rattle.role_tables.proofs.Meanings.ForeignKeys.{unreferenced}
use Rattle.sqlite_rules.proofs.ListLemmas.{has_got}
use Rattle.sqlite.specs.Table.{Table}
use Rattle.sqlite_schema.specs.Names.{table_named}
use Rattle.role_tables.proofs.Meanings.Deletes.{AreOurs, Tests, tests_from, tests_one, tests_two, tests_three}
use Rattle.role_tables.proofs.Meanings.DeletedRows.{AreParams}
use Rattle.role_tables.proofs.Meanings.ChangedRows.{KeepsTables, takes, holds_less}
use Rattle.role_tables.proofs.Meanings.InsertedRows.{puts, holds_more, holds_still}
use Rattle.role_tables.proofs.Meanings.Parts.{cast_int}

-- ---- reading

-- ---- one table changes

of_code : ℕ → StoredTable
of_code n = if n == 0 then Meta else (if n == 1 then Names else (if n == 2 then Pairs else (if n == 3 then Grants else (if n == 4 then Sets else Locks))))

code_back : (kind : StoredTable) → of_code (code kind) ≡ kind
unfolding of_code
code_back Meta = refl
code_back Names = refl
code_back Pairs = refl
code_back Grants = refl
code_back Sets = refl
code_back Locks = refl

pub same_code : (a b : StoredTable) → (code a == code b) ≡ true → a ≡ b
same_code a b same = sym (code_back a) ∙ ap of_code (eqb-true (code a) (code b) same) ∙ code_back b

-- a number of the first two characters of a name, which differs for each two tables
abbrev mark_of : List ℕ → ℕ
mark_of name = slice_index name 0 * 1000 + slice_index name 1

marks_differ : (a b : StoredTable) → mark_of (making a).name ≡ mark_of (making b).name → code a ≡ code b
marks_differ a b same = sym (back a) ∙ ap unmark same ∙ back b
  where
    unmark : ℕ → ℕ
    unmark n = if n == 109101 then 0 else (if n == 110097 then 1 else (if n == 112097 then 2 else (if n == 103114 then 3 else (if n == 115101 then 4 else 5))))

    back : (kind : StoredTable) → unmark (mark_of (making kind).name) ≡ code kind
    back Meta = refl
    back Names = refl
    back Pairs = refl
    back Grants = refl
    back Sets = refl
    back Locks = refl

-- tables of two kinds have their own trees
pub apart_kinds : (want : StoredTable → Bool) (db : Database) (rows : Rows) (held : HoldsTables want db rows) (a b : StoredTable) (wa : IsTrue (want a)) (wb : IsTrue (want b)) → (code a == code b) ≡ false
    → (held.tables a wa).tree ≢ (held.tables b wb).tree
apart_kinds want db rows held a b wa wb differ same =
    let one = held.tables a wa in
    let two = held.tables b wb in
    let is = two.alone (made a one.tree) (has_got db.schema.tables one.at (made a one.tree) one.is_named.1) same in
    absurd (let e = eq-eqb (code a) (code b) (marks_differ a b (ap (λ (t : Table). mark_of t.name) is)) in cc)

module _ (want : StoredTable → Bool) (old new : Database) (rows : Rows) (held : HoldsTables want old rows) (kind : StoredTable) (wanted : IsTrue (want kind)) (change : List Row → List Row) (schema_is : new.schema ≡ old.schema)
    (others : KeepsTables old new (held.tables kind wanted).tree) (here : HoldsRows new (making kind).name (made kind) (places kind) (change (rows kind))) where
  each : (k : StoredTable) → IsTrue (want k) → HoldsRows new (making k).name (made k) (places k) (changed_at kind change rows k)
  each k w = go (code k == code kind) refl
    where
      go : (b : Bool) → (code k == code kind) ≡ b → HoldsRows new (making k).name (made k) (places k) (if b then change (rows k) else rows k)
      go true same = subst (λ j. HoldsRows new (making j).name (made j) (places j) (change (rows j))) (sym (same_code k kind same)) here
      go false other =
          let table = held.tables k w in
          let kept = all-slice_get (λ t. t.tree ≢ (held.tables kind wanted).tree → new.trees t.tree ≡ old.trees t.tree) old.schema.tables table.at (made k table.tree) table.is_named.1 others in
          holds_still old new (making k).name (made k) (places k) (rows k) table schema_is (kept (apart_kinds want old rows held k kind w wanted other))

  pub holds_changed : IsDatabase new → AllByRecursion HasNoNull (change (rows kind)) → HoldsTables want new (changed_at kind change rows)
  holds_changed sound solid = record {
    sound = sound;
    tables = each;
    solid = λ k. go k (code k == code kind) refl;
  }
    where
      go : (k : StoredTable) (b : Bool) → (code k == code kind) ≡ b → AllByRecursion HasNoNull (if b then change (rows k) else rows k)
      go k true same = subst (λ j. AllByRecursion HasNoNull (change (rows j))) (sym (same_code k kind same)) solid
      go k false other = held.solid k

-- ---- one row is inserted

values_given : (row : OfficeRow) (tree : ℕ) → let kind = table_of row in
    value_rows (stamped (made kind tree) (cells row)) (length (places kind) + 1) (length (put_terms kind) / (length (places kind) + 1)) (put_terms kind) ≡ (Null ∷ cells row) ∷ []
values_given (meta_row tag version) tree = refl
values_given (name_row kind a) tree = refl
values_given (pair_row kind a b) tree = refl
values_given (grant_row ob op role) tree = refl
values_given (set_row kind name n) tree = refl
values_given (locked_row a) tree = refl

values_fit : (row : OfficeRow) → cast_all (making (table_of row)).columns (cells row) ≡ cells row
values_fit (meta_row tag version) = rw (cast_int version) refl
values_fit (name_row kind a) = rw (cast_int kind) refl
values_fit (pair_row kind a b) = rw (cast_int kind) refl
values_fit (grant_row ob op role) = refl
values_fit (set_row kind name n) = rw (cast_int kind, cast_int n) refl
values_fit (locked_row a) = refl

values_shown : (row : OfficeRow) (tree : ℕ) (id : ℤ) → cells_at (made (table_of row) tree) (places (table_of row)) (Int id ∷ cells row) ≡ cells row
values_shown (meta_row tag version) tree id = refl
values_shown (name_row kind a) tree id = refl
values_shown (pair_row kind a b) tree id = refl
values_shown (grant_row ob op role) tree id = refl
values_shown (set_row kind name n) tree id = refl
values_shown (locked_row a) tree id = refl

no_null : (row : OfficeRow) → HasNoNull (cells row)
no_null (meta_row tag version) = (refl, (refl, tt))
no_null (name_row kind a) = (refl, (refl, tt))
no_null (pair_row kind a b) = (refl, (refl, (refl, tt)))
no_null (grant_row ob op role) = (refl, (refl, (refl, tt)))
no_null (set_row kind name n) = (refl, (refl, (refl, tt)))
no_null (locked_row a) = (refl, tt)

pub puts_row : (want : StoredTable → Bool) (row : OfficeRow) (wanted : IsTrue (want (table_of row))) (old new : State) (count : ℕ) (rows : Rows) → HoldsTables want old.now rows → Executes (insert_text (table_of row)) (cells row) old new (Ok count)
    → HoldsTables want new.now (changed_at (table_of row) (λ all. cells row ∷ all) rows)
unfolding holds_more
puts_row want row wanted old new count rows held ran =
    let kind = table_of row in
    let table = held.tables kind wanted in
    let m = making kind in
    let free = unreferenced old.now.schema (made kind table.tree) table.alone table.unreferenced in
    let it = puts m.name m.columns m.key m.checks old new table.at table.tree table.is_named free (insert_text kind) (put_terms kind) (length (places kind) + 1) (cells row) count (put_is old.now.schema kind table.tree)
    (values_given row table.tree) (values_fit row) ran in
    holds_changed want old.now new.now rows held kind wanted (λ all. cells row ∷ all) it.schema_is it.others
    (holds_more old.now new.now m.name (made kind) (places kind) (rows kind) (cells row) table it.id it.schema_is (values_shown row table.tree it.id) it.free it.rows) it.sound (no_null row, held.solid kind)

-- ---- one row is deleted

abbrev IsFew : List Place → Type 0
IsFew (p ∷ []) = Unit {0}
IsFew (p ∷ q ∷ []) = Unit {0}
IsFew (p ∷ q ∷ r ∷ []) = Unit {0}
IsFew _ = ⊥

are_some : (kind : StoredTable) → IsFew (places kind)
are_some Meta = tt
are_some Names = tt
are_some Pairs = tt
are_some Grants = tt
are_some Sets = tt
are_some Locks = tt

tests_read : (schema : Schema) (at : ℕ) (table : Table) (got : slice_get schema.tables at ≡ Some table) (keyless : table.key ≡ None) (name : List ℕ) (known : table_named schema name ≡ Some at) (ps : List Place) → IsFew ps → AreIn table ps → AreOurs ps
    → Tests schema at table got keyless name known (where_of ps) (tests_from 0 ps)
tests_read schema at table got keyless name known [] few in_it ours = absurd few
tests_read schema at table got keyless name known (p ∷ []) few in_it ours = tests_one schema at table got keyless name known p in_it ours
tests_read schema at table got keyless name known (p ∷ q ∷ []) few in_it ours = tests_two schema at table got keyless name known p q in_it ours
tests_read schema at table got keyless name known (p ∷ q ∷ r ∷ []) few in_it ours = tests_three schema at table got keyless name known p q r in_it ours
tests_read schema at table got keyless name known (p ∷ q ∷ r ∷ s ∷ ps) few in_it ours = absurd few

as_wide : (row : OfficeRow) → length (cells row) ≡ length (places (table_of row))
as_wide (meta_row tag version) = refl
as_wide (name_row kind a) = refl
as_wide (pair_row kind a b) = refl
as_wide (grant_row ob op role) = refl
as_wide (set_row kind name n) = refl
as_wide (locked_row a) = refl

are_params : (row : OfficeRow) → AreParams (cells row) 0 (cells row)
are_params (meta_row tag version) = (refl, (refl, tt))
are_params (name_row kind a) = (refl, (refl, tt))
are_params (pair_row kind a b) = (refl, (refl, (refl, tt)))
are_params (grant_row ob op role) = (refl, (refl, (refl, tt)))
are_params (set_row kind name n) = (refl, (refl, (refl, tt)))
are_params (locked_row a) = (refl, tt)

pub takes_row : (want : StoredTable → Bool) (row : OfficeRow) (wanted : IsTrue (want (table_of row))) (old new : State) (count : ℕ) (rows : Rows) → HoldsTables want old.now rows → Executes (delete_text (table_of row)) (cells row) old new (Ok count)
    → HoldsTables want new.now (changed_at (table_of row) (without_row (cells row)) rows)
unfolding holds_less
takes_row want row wanted old new count rows held ran =
    let kind = table_of row in
    let table = held.tables kind wanted in
    let m = making kind in
    let free = unreferenced old.now.schema (made kind table.tree) table.alone table.unreferenced in
    let whole = made kind table.tree in
    let solid = all-permutation (λ c. HasNoNull c) (rows kind) (map (cells_at whole (places kind)) (old.now.trees table.tree)) table.rows_are (held.solid kind) in
    let it = takes old new table.at whole m.name table.is_named refl free table.keyed table.int_ids (delete_text kind) (places kind) (where_of (places kind)) (cells row) count (take_is kind)
    (tests_read old.now.schema table.at whole table.is_named.1 refl m.name table.is_named.0 (places kind) (are_some kind) (are_in kind table.tree) (are_ours kind)) (as_wide row) (are_params row) (no_null row) solid ran in
    holds_changed want old.now new.now rows held kind wanted (without_row (cells row)) it.schema_is it.others
    (holds_less old.now new.now m.name (made kind) (places kind) (rows kind) (cells row) table it.schema_is it.rows) it.sound (all-filter (λ c. HasNoNull c) (λ r. not (same_row r (cells row))) (rows kind) (held.solid kind))
