-- What is read of tables that are looked up by their names, and that reading changes nothing.
use Rattle.std.proofs.Common.{◌≡◌, inl, inr, ℕ, suc, List, [], ◌∷◌, length, map, slice_get, Bool, true, false, Option, Some, None, Ok, refl, sym, ap, subst, ◌∙◌}
use Rattle.std.specs.Option.{option_and_then, option_map}
use Rattle.std.specs.List.Sorted.{IsPermutation}
use Rattle.std.specs.Str.{IsUtf8, is_utf8}
use Rattle.std.proofs.lemmas.Str.{IsUtf8-from_is_utf8}
use Rattle.std.proofs.lemmas.Bool.{and_parts}
use Rattle.std.specs.List.{list_all}
use Rattle.rbac_sets.specs.Name.{is_name, has_name_length, is_printable}
use Rattle.sqlite.specs.Order.{Row}
use Rattle.sqlite.specs.Table.{Table}
use Rattle.sqlite.specs.Tree.{Trees}
use Rattle.sqlite.specs.Command.{Command}
use Rattle.sqlite.specs.Command.TheVariants.{Select}
use Rattle.sqlite.specs.Effect.{Database}
use Rattle.sqlite.specs.Listing.{understood}
use Rattle.sqlite.specs.State.{State, Shown, CommitsShowing, IsUnchanged}
use Rattle.sqlite.proofs.Callers.{IsPlain, never_commits}
use Rattle.sqlite_resolve.specs.declared.compiled.Compiled.{Compiled}
use Rattle.sqlite_resolve.specs.declared.error.CompileError.TheVariants.{Mismatch}
use Rattle.sqlite_resolve.specs.Scope.{Name}
use Rattle.sqlite_resolve.specs.Lowering.{max_budget}
use Rattle.sqlite_resolve.specs.Compile.{first}
use Rattle.sqlite_schema.specs.Names.{table_named, column_named}
use Rattle.sqlite_schema.specs.declared.schema.Column.{Column}
use Rattle.role_tables.specs.TableByName.{Place, IsNamed, names_of, cells_at}
use Rattle.role_tables.specs.private.NamedTables.{AreIn}
use Rattle.role_tables.specs.OfficeTables.{StoredTable, making, places}
use Rattle.role_tables.specs.private.Texts.{read_text}
use Rattle.role_tables.specs.TableContents.{find_places, contents_of}
use Rattle.role_tables.proofs.Meanings.Columns.{Enough}
use Rattle.role_tables.proofs.Meanings.Selects.{reading_query, selects}
use Rattle.role_tables.proofs.Meanings.Understood.{in_ok, in_ok_then, Plans, meant}
use Rattle.role_tables.proofs.Meanings.SelectedRows.{IsSelect, reads_rows}
use Rattle.role_tables.proofs.OfficeTables.Texts.{all_is, are_few}

mapped_length : {A B : Type 0} (f : A → B) (xs : List A) → length (map f xs) ≡ length xs
mapped_length f [] = refl
mapped_length f (x ∷ xs) = ap suc (mapped_length f xs)

-- the columns that are found are there, under these names
found_places : (table : Table) (names : List (List ℕ)) (all : List Place) → find_places table names ≡ Some all → AreIn table all × (names_of all ≡ names)
found_places table [] all is = go all is
  where
    go : (all : List Place) → ◌≡◌ {A = Option (List Place)} (Some []) (Some all) → AreIn table all × (names_of all ≡ [])
    go [] e = (tt, refl)
    go (p ∷ ps) e = absurd (cc)
found_places table (name ∷ names) all is = at_place (λ more found. found_places table names more found) (column_named table name) refl is
  where
    at_rest : ((more : List Place) → find_places table names ≡ Some more → AreIn table more × (names_of more ≡ names)) → (at : ℕ) (c : Column) → column_named table name ≡ Some at → slice_get table.columns at ≡ Some c → (rest : Option (List Place)) → find_places table names ≡ rest
        → option_map (λ (more : List Place). (name, at, c) ∷ more) rest ≡ Some all → AreIn table all × (names_of all ≡ name ∷ names)
    at_rest tails at c named got None found e = absurd (cc)
    at_rest tails at c named got (Some more) found e =
        let is_all : (name, at, c) ∷ more ≡ all = cc in
        let tail = tails more found in
        subst (λ (l : List Place). AreIn table l × (names_of l ≡ name ∷ names)) is_all ((named, got, tail.0), ap (λ l. name ∷ l) tail.1)

    at_column : ((more : List Place) → find_places table names ≡ Some more → AreIn table more × (names_of more ≡ names)) → (at : ℕ) → column_named table name ≡ Some at → (c : Option Column) → slice_get table.columns at ≡ c
        → option_and_then (λ d. option_map (λ (more : List Place). (name, at, d) ∷ more) (find_places table names)) c ≡ Some all → AreIn table all × (names_of all ≡ name ∷ names)
    at_column tails at named None got e = absurd (cc)
    at_column tails at named (Some c) got e = at_rest tails at c named got (find_places table names) refl e

    at_place : ((more : List Place) → find_places table names ≡ Some more → AreIn table more × (names_of more ≡ names)) → (o : Option ℕ) → column_named table name ≡ o
        → option_and_then (λ at. option_and_then (λ d. option_map (λ (more : List Place). (name, at, d) ∷ more) (find_places table names)) (slice_get table.columns at)) o ≡ Some all → AreIn table all × (names_of all ≡ name ∷ names)
    at_place tails None named e = absurd (cc)
    at_place tails (Some at) named e = at_column tails at named (slice_get table.columns at) refl e

-- a table with the columns was found, and these are its values
pub record IsFound (db : Database) (kind : StoredTable) (values : List Row) : Type 0 where
  pub at : ℕ
  pub table : Table
  pub all : List Place
  pub named : IsNamed db.schema (making kind).name at table
  pub there : AreIn table all
  pub names : names_of all ≡ names_of (places kind)
  pub values_are : map (cells_at table all) (db.trees table.tree) ≡ values

pub found : (db : Database) (kind : StoredTable) (values : List Row) → contents_of db kind ≡ Some values → IsFound db kind values
found db kind values is = at_name (table_named db.schema (making kind).name) refl is
  where
    after : Option Table → Option (List Row)
    after o = option_and_then (λ table. option_map (λ all. map (cells_at table all) (db.trees table.tree)) (find_places table (names_of (places kind)))) o

    at_places : (at : ℕ) (table : Table) → table_named db.schema (making kind).name ≡ Some at → slice_get db.schema.tables at ≡ Some table → (o : Option (List Place)) → find_places table (names_of (places kind)) ≡ o
        → option_map (λ all. map (cells_at table all) (db.trees table.tree)) o ≡ Some values → IsFound db kind values
    at_places at table named got None there e = absurd (cc)
    at_places at table named got (Some all) there e =
        let both = found_places table (names_of (places kind)) all there in
        record { at = at; table = table; all = all; named = (named, got); there = both.0; names = both.1; values_are = cc }

    at_table : (at : ℕ) → table_named db.schema (making kind).name ≡ Some at → (o : Option Table) → slice_get db.schema.tables at ≡ o → after o ≡ Some values → IsFound db kind values
    at_table at named None got e = absurd (cc)
    at_table at named (Some table) got e = at_places at table named got (find_places table (names_of (places kind))) refl e

    at_name : (o : Option ℕ) → table_named db.schema (making kind).name ≡ o → after (option_and_then (slice_get db.schema.tables) o) ≡ Some values → IsFound db kind values
    at_name None named e = absurd (cc)
    at_name (Some at) named e = at_table at named (slice_get db.schema.tables at) refl e

module _ (kind : StoredTable) (old : State) (values : List Row) (it : IsFound old.now kind values) where
  text : IsSelect (read_text kind) (making kind).name (names_of it.all)
  text = subst (λ names. IsSelect (read_text kind) (making kind).name names) (sym it.names) (all_is kind)

  enough : Enough (length it.all) max_budget
  enough = subst (λ n. Enough n max_budget) (sym (mapped_length (λ (p : Place). p.0) (places kind)) ∙ ap length (sym it.names) ∙ mapped_length (λ (p : Place). p.0) it.all) (are_few kind)

  abbrev IsThis : Command → Type 0
  IsThis command = (names : List Name) × (command ≡ Select (record { lets = []; body = reading_query it.table it.all }) names)

  planned : in_ok (first (read_text kind)) (Plans old.now.schema IsThis)
  planned = in_ok_then (first (read_text kind)) _ (Plans old.now.schema IsThis) (λ p h. elim (selects old.now.schema it.at it.table it.named.1 (making kind).name it.named.0 it.all it.there enough p h.0 h.1) [
    | inl wrong ↦ inl (Mismatch, refl, wrong)
    | inr right ↦ inr (Select (record { lets = []; body = reading_query it.table it.all }) right.0, (right.0, refl), right.1)
  ]) text

  pub plain : (c : Compiled) → understood old.now.schema (read_text kind) ≡ Ok c → IsPlain (understood old.now.schema (read_text kind))
  plain c is = (meant old.now.schema (read_text kind) IsThis planned c is).2.1

  -- the rows that are returned are these values, in some order, and nothing is changed
  pub shows_found : (new : State) (rows : List Row) → Shown (read_text kind) [] old new rows → IsPermutation values rows × IsUnchanged old new
  unfolding Shown
  shows_found new rows shown =
      let bare : (shown.0.returning ≡ None) × (shown.0.formats ≡ []) = subst IsPlain shown.1.is (plain shown.0 shown.1.is) in (
        subst (λ l. IsPermutation l rows) it.values_are
            (reads_rows (read_text kind) (making kind).name old new rows it.at it.table it.all text enough it.named.0 it.named.1 it.there shown),
        (rw bare.0 at shown.2).3,
      )

  pub never : (db : Trees) → CommitsShowing (read_text kind) [] old db → ⊥
  unfolding CommitsShowing
  never db h = never_commits (read_text kind) [] old db (plain h.0 h.1.is) h

-- ---- names

pub no_name : (text : List ℕ) → (IsUtf8 text → ⊥) → is_name text ≡ false
no_name text bad = go (is_name text) refl
  where
    go : (b : Bool) → is_name text ≡ b → is_name text ≡ false
    go false is = is
    go true is = absurd (bad (IsUtf8-from_is_utf8 text (and_parts (list_all is_printable text) (is_utf8 text) (and_parts (has_name_length text) _ is).1).1))
