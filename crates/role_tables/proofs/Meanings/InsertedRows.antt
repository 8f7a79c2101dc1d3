-- What an INSERT of one row does to the rows that a table holds.
use Rattle.std.proofs.Common.{◌≡◌, inr, ℕ, ◌/◌, ℤ, List, [], ◌∷◌, map, length, true, false, None, Ok, refl, sym, ap, subst, ◌∙◌}
use Rattle.std.specs.List.Sorted.{IsPermutation}
use Rattle.std.proofs.lemmas.List.Sorted.{IsPermutation-map, IsPermutation-cons, IsPermutation-trans}
use Rattle.sqlite.specs.declared.types.Value.TheVariants.{Null, Int}
use Rattle.sqlite.specs.Order.{Row}
use Rattle.sqlite.specs.Table.{Table}
use Rattle.sqlite.specs.Term.{Term}
use Rattle.sqlite.specs.Source.TheVariants.{Values}
use Rattle.sqlite.specs.Command.{Command}
use Rattle.sqlite.specs.Command.TheVariants.{Insert}
use Rattle.sqlite.specs.Edit.{edit_of, edited, next_rowid, are_fresh, is_taken}
use Rattle.sqlite.specs.Rowids.TheVariants.{Chosen}
use Rattle.sqlite.specs.Does.{Tally}
use Rattle.sqlite.specs.Rows.{Written, stamped}
use Rattle.sqlite_rules.specs.Cast.{cast_all}
use Rattle.sqlite.specs.Tree.{Trees, IsTable, rowid, put_row}
use Rattle.sqlite.specs.Listing.{understood}
use Rattle.sqlite.specs.Effect.{Database, IsDatabase, value_rows}
use Rattle.sqlite.specs.State.{State, mode_of, Executes, Runs}
use Rattle.sqlite.proofs.Callers.{statement_of, one_step}
use Rattle.sqlite_schema.specs.declared.schema.Column.{Column}
use Rattle.sqlite_resolve.specs.Compile.{first}
use Rattle.sqlite_rules.specs.Edit.{taken_by}
use Rattle.sqlite_trees.proofs.TreeLemmas.{IsTable-put_row, all-put_row}
use Rattle.sqlite_trees.proofs.ListLemmas.{all_weaker}
use Rattle.sqlite_trees.specs.View.{is_int}
use Rattle.role_tables.specs.StrictTable.{strict_table}
use Rattle.role_tables.specs.TableByName.{Place, cells_at, IsNamed, HaveIntIds, is_referred, IsAlone, HoldsRows}
use Rattle.role_tables.specs.private.NamedTables.{IsUnreferenced}
use Rattle.role_tables.proofs.Meanings.Understood.{in_ok, in_ok_then, Plans, runs_so}
use Rattle.role_tables.proofs.Meanings.Inserts.{Inserts, inserts_planned}
use Rattle.role_tables.proofs.Meanings.ChangedRows.{KeepsTables}
use Rattle.role_tables.proofs.Meanings.RowsInOrder.{put_permutes}
use Rattle.role_tables.proofs.Meanings.Parts.{went, same_value, is_free, cast_null}

-- one more row, under a rowid that was free
pub record Puts (old new : State) (tree : ℕ) (values : Row) : Type 0 where
  pub schema_is : new.now.schema ≡ old.now.schema
  pub sound : IsDatabase new.now
  pub id : ℤ
  pub free : is_taken (old.now.trees tree) (Int id ∷ values) ≡ false
  pub rows : new.now.trees tree ≡ put_row (Int id ∷ values) (old.now.trees tree)
  pub others : KeepsTables old.now new.now tree

module _ (name : List ℕ) (columns : List Column) (key : List ℕ) (checks : List Term) (old new : State) (at tree : ℕ) (named : IsNamed old.now.schema name at (strict_table name tree columns key checks))
    (unreferenced : IsUnreferenced old.now.schema (strict_table name tree columns key checks)) where
  abbrev the_table : Table
  the_table = strict_table name tree columns key checks

  news_are : (db : Trees) (values : Row) → cast_all columns values ≡ values → (edit_of db the_table [] Chosen 0 ((Null ∷ values) ∷ [])).news ≡ (Int (next_rowid (db tree)) ∷ values) ∷ []
  news_are db values fits = rw (cast_null, fits) refl

  pub puts : (sql : List ℕ) (terms : List Term) (width : ℕ) (values : Row) (count : ℕ) → in_ok (first sql) (Inserts old.now.schema the_table name (Values terms width))
      → value_rows (stamped the_table values) width (length terms / width) terms ≡ (Null ∷ values) ∷ [] → cast_all columns values ≡ values → Executes sql values old new (Ok count) → Puts old new tree values
  puts sql terms width values count text given fits ran =
      let schema = old.now.schema in
      let db = old.now.trees in
      let Q : Command → Type 0 = λ command. command ≡ Insert at (Values terms width) in
      let run = runs_so sql values old new count Q (in_ok_then (first sql) _ (Plans schema Q) (λ p h. inr (Insert at (Values terms width), refl, inserts_planned schema at the_table name named.0 named.1 refl (Values terms width) p h)) text) ran in
      let words = statement_of sql (understood schema sql) in
      let w = subst (λ command. Runs old new None command words values count) run.1 run.2 in
      let done = went (rw named.1 at w.changed) in
      let now = ap (λ (p : Tally × Database). p.1) (same_value (went (went done.2).2).2) in
      let asked = went done.1 in
      let written = went (went asked.2).2 in
      let counted = went written.2 in
      let trees : done.0.trees ≡ written.0 = ap (λ (it : Written). it.trees) (same_value counted.2) ∙ same_value counted.1 in
      let edit = edit_of db the_table [] Chosen 0 asked.0 in
      let step = one_step schema _ db written.0 edit (unreferenced (mode_of old).keys (taken_by db edit) edit.news) written.1 in
      let news : edit.news ≡ (Int (next_rowid (db tree)) ∷ values) ∷ [] = ap (λ all. (edit_of db the_table [] Chosen 0 all).news) (asked.1.1 ∙ given) ∙ news_are db values fits in
      let here : new.now.trees ≡ written.0 = ap (λ (d : Database). d.trees) now ∙ trees in
      record {
        schema_is = ap (λ (d : Database). d.schema) now;
        sound = w.sound;
        id = next_rowid (db tree);
        free = is_free (db tree) (Int (next_rowid (db tree)) ∷ values) (subst (λ all. are_fresh (db tree) all ≡ true) news step.fresh);
        rows = ap (λ (t : Trees). t tree) here ∙ step.rows ∙ ap (λ all. edited db (record edit { news = all })) news;
        others = all_weaker _ _ (λ t stays other. ap (λ (u : Trees). u t.tree) here ∙ stays other) schema.tables step.tables;
      }

-- the table holds one more row
unfoldable pub holds_more : (old new : Database) (name : List ℕ) (made : ℕ → Table) (places : List Place) (rows : List Row) (values : Row) (held : HoldsRows old name made places rows) (id : ℤ) → new.schema ≡ old.schema
    → cells_at (made held.tree) places (Int id ∷ values) ≡ values → is_taken (old.trees held.tree) (Int id ∷ values) ≡ false → new.trees held.tree ≡ put_row (Int id ∷ values) (old.trees held.tree)
    → HoldsRows new name made places (values ∷ rows)
holds_more old new name made places rows values held id schema_is shown free is = record {
  at = held.at;
  tree = held.tree;
  is_named = subst (λ s. IsNamed s name held.at (made held.tree)) (sym schema_is) held.is_named;
  alone = subst (λ s. IsAlone s (made held.tree)) (sym schema_is) held.alone;
  unreferenced = subst (λ s. is_referred s name ≡ false) (sym schema_is) held.unreferenced;
  keyed = subst IsTable (sym is) (IsTable-put_row (Int id ∷ values) (old.trees held.tree) held.keyed);
  int_ids = subst HaveIntIds (sym is) (all-put_row (λ r. is_int (rowid r) ≡ true) (Int id ∷ values) (old.trees held.tree) refl held.int_ids);
  rows_are = subst (λ l. IsPermutation (values ∷ rows) (map (cells_at (made held.tree) places) l)) (sym is)
      (IsPermutation-trans _ _ _ (subst (λ v. IsPermutation (values ∷ rows) (v ∷ map (cells_at (made held.tree) places) (old.trees held.tree))) (sym shown) (IsPermutation-cons values _ _ held.rows_are))
      (IsPermutation-map (cells_at (made held.tree) places) _ _ (put_permutes (Int id ∷ values) (old.trees held.tree) free)));
}

-- another table holds what it held
unfoldable pub holds_still : (old new : Database) (name : List ℕ) (made : ℕ → Table) (places : List Place) (rows : List Row) (held : HoldsRows old name made places rows) → new.schema ≡ old.schema → new.trees held.tree ≡ old.trees held.tree
    → HoldsRows new name made places rows
holds_still old new name made places rows held schema_is is = record {
  at = held.at;
  tree = held.tree;
  is_named = subst (λ s. IsNamed s name held.at (made held.tree)) (sym schema_is) held.is_named;
  alone = subst (λ s. IsAlone s (made held.tree)) (sym schema_is) held.alone;
  unreferenced = subst (λ s. is_referred s name ≡ false) (sym schema_is) held.unreferenced;
  keyed = subst IsTable (sym is) held.keyed;
  int_ids = subst HaveIntIds (sym is) held.int_ids;
  rows_are = subst (λ l. IsPermutation rows (map (cells_at (made held.tree) places) l)) (sym is) held.rows_are;
}
