-- What INSERT and DELETE do to the rows that a table holds.
use Rattle.std.proofs.Common.{◌≡◌, ◌≢◌, ℕ, List, [], ◌∷◌, map, filter, length, Bool, false, not, None, Some, Ok, refl, sym, ap, subst, ◌∙◌}
use Rattle.std.specs.List.{AllByRecursion}
use Rattle.std.specs.List.Sorted.{IsPermutation}
use Rattle.sqlite.specs.declared.types.Value.TheVariants.{Null}
use Rattle.sqlite.specs.Order.{Row, column}
use Rattle.sqlite.specs.Table.{Table}
use Rattle.sqlite.specs.Command.{Command}
use Rattle.sqlite.specs.Command.TheVariants.{Delete}
use Rattle.sqlite.specs.Edit.{edit_of}
use Rattle.sqlite.specs.Rowids.TheVariants.{Given}
use Rattle.sqlite.specs.Does.{Tally}
use Rattle.sqlite.specs.Rows.{Written}
use Rattle.sqlite.specs.Tree.{Trees, IsTable}
use Rattle.sqlite.specs.Listing.{understood}
use Rattle.sqlite.specs.Effect.{Database, IsDatabase}
use Rattle.sqlite.specs.State.{State, mode_of, Executes, Runs}
use Rattle.sqlite.proofs.Callers.{statement_of, one_step}
use Rattle.sqlite_ast.specs.declared.Expr.{Expr}
use Rattle.sqlite_ast.specs.declared.Statement.TheVariants as written
use Rattle.sqlite_resolve.specs.Compile.{first}
use Rattle.sqlite_rules.specs.Calls.{ids_of}
use Rattle.sqlite_rules.specs.Edit.{taken_by}
use Rattle.sqlite_trees.proofs.ListLemmas.{all_weaker, all-filter, all_from_map, ascending-filter, filter_same, filter-map, IsPermutation-filter}
use Rattle.sqlite_schema.specs.Names.{place_of}
use Rattle.sqlite_schema.specs.declared.program.Program.{Program}
use Rattle.role_tables.specs.TableByName.{Place, cells_at, IsNamed, HaveIntIds, HasNoNull, is_referred, IsAlone, HoldsRows}
use Rattle.role_tables.specs.private.NamedTables.{IsUnreferenced, same_row, without_row}
use Rattle.role_tables.proofs.Meanings.Understood.{in_ok, in_ok_then, Plans, runs_so}
use Rattle.role_tables.proofs.Meanings.Deletes.{tests_from, taking_query, Tests, deletes}
use Rattle.role_tables.proofs.Meanings.DeletedRows.{is_at, answer_ids, taken_rows, tests_are, values_at, AreParams}
use Rattle.role_tables.proofs.Meanings.Parts.{went, same_value}

-- the text is this DELETE
abbrev pub IsDelete : List ℕ → List ℕ → Expr → Type 0
IsDelete sql name e = in_ok (first sql) (λ p. (p.statement ≡ written.Delete name (Some e) []) × (p.formats ≡ []))

cells_values : (table : Table) → table.key ≡ None → (places : List Place) (r : Row) → cells_at table places r ≡ values_at places r
cells_values table keyless [] r = refl
cells_values table keyless (p ∷ ps) r = ap (λ l. column r (place_of table p.1) ∷ l) (cells_values table keyless ps r) ∙ rw keyless refl

-- each table with another tree than this keeps its rows
abbrev pub KeepsTables : Database → Database → ℕ → Type 0
KeepsTables old new tree = AllByRecursion (λ t. t.tree ≢ tree → new.trees t.tree ≡ old.trees t.tree) old.schema.tables

pub record Takes (old new : State) (table : Table) (places : List Place) (values : Row) : Type 0 where
  pub schema_is : new.now.schema ≡ old.now.schema
  pub sound : IsDatabase new.now
  pub rows : new.now.trees table.tree ≡ filter (λ r. not (same_row (cells_at table places r) values)) (old.now.trees table.tree)
  pub others : KeepsTables old.now new.now table.tree

module _ (old new : State) (at : ℕ) (table : Table) (name : List ℕ) (named : IsNamed old.now.schema name at table) (keyless : table.key ≡ None) (unreferenced : IsUnreferenced old.now.schema table)
    (keyed : IsTable (old.now.trees table.tree)) (ints : HaveIntIds (old.now.trees table.tree)) where
  pub takes : (sql : List ℕ) (places : List Place) (e : Expr) (values : Row) (count : ℕ) → IsDelete sql name e → Tests old.now.schema at table named.1 keyless name named.0 e (tests_from 0 places)
      → length values ≡ length places → AreParams values 0 values → HasNoNull values → AllByRecursion HasNoNull (map (cells_at table places) (old.now.trees table.tree))
      → Executes sql values old new (Ok count) → Takes old new table places values
  takes sql places e values count text read width are given solid ran =
      let schema = old.now.schema in
      let db = old.now.trees in
      let tests = tests_from 0 places in
      let prog : Program = record { lets = []; body = taking_query table tests } in
      let Q : Command → Type 0 = λ command. command ≡ Delete at prog in
      let run = runs_so sql values old new count Q (in_ok_then (first sql) _ (Plans schema Q) (λ p h. deletes schema at table named.1 keyless name named.0 e tests read p h.0 h.1) text) ran in
      let words = statement_of sql (understood schema sql) in
      let w = subst (λ command. Runs old new None command words values count) run.1 run.2 in
      let done = went (rw named.1 at w.changed) in
      let now = ap (λ (p : Tally × Database). p.1) (same_value (went (went done.2).2).2) in
      let asked = went done.1 in
      let written = went asked.2 in
      let trees : done.0.trees ≡ written.0 = ap (λ (it : Written). it.trees) (same_value written.2) in
      let edit = edit_of db table (ids_of asked.0) Given 0 [] in
      let step = one_step schema _ db written.0 edit (unreferenced (mode_of old).keys (taken_by db edit) edit.news) written.1 in
      let here : new.now.trees ≡ written.0 = ap (λ (d : Database). d.trees) now ∙ trees in
      let found = answer_ids table tests db values asked.0 (asked.1.answer Null) in
      let each : AllByRecursion (λ r. not (is_at tests values r) ≡ not (same_row (cells_at table places r) values)) (db table.tree) =
      all_weaker _ _ (λ r none. ap not (
      tests_are places 0 values r values width (subst HasNoNull (cells_values table keyless places r) none) are given
      ∙ ap (λ c. same_row c values) (sym (cells_values table keyless places r)))) (db table.tree) (all_from_map (λ c. HasNoNull c) (cells_at table places) (db table.tree) solid) in
      record {
        schema_is = ap (λ (d : Database). d.schema) now;
        sound = w.sound;
        rows = ap (λ (t : Trees). t table.tree) here ∙ step.rows ∙ taken_rows (is_at tests values) (db table.tree) asked.0 keyed ints found
            ∙ filter_same (λ r. not (is_at tests values r)) (λ r. not (same_row (cells_at table places r) values)) (db table.tree) each;
        others = all_weaker _ _ (λ t stays other. ap (λ (u : Trees). u t.tree) here ∙ stays other) schema.tables step.tables;
      }

-- the table holds the rows except this one
unfoldable pub holds_less : (old new : Database) (name : List ℕ) (made : ℕ → Table) (places : List Place) (rows : List Row) (values : Row) (held : HoldsRows old name made places rows) → new.schema ≡ old.schema
    → new.trees held.tree ≡ filter (λ r. not (same_row (cells_at (made held.tree) places r) values)) (old.trees held.tree) → HoldsRows new name made places (without_row values rows)
holds_less old new name made places rows values held schema_is is =
    let test : Row → Bool = λ r. not (same_row (cells_at (made held.tree) places r) values) in
    record {
      at = held.at;
      tree = held.tree;
      is_named = subst (λ s. IsNamed s name held.at (made held.tree)) (sym schema_is) held.is_named;
      alone = subst (λ s. IsAlone s (made held.tree)) (sym schema_is) held.alone;
      unreferenced = subst (λ s. is_referred s name ≡ false) (sym schema_is) held.unreferenced;
      keyed = subst IsTable (sym is) (ascending-filter _ test (old.trees held.tree) held.keyed);
      int_ids = subst HaveIntIds (sym is) (all-filter _ test (old.trees held.tree) held.int_ids);
      rows_are = subst (λ l. IsPermutation (without_row values rows) (map (cells_at (made held.tree) places) l)) (sym is)
          (subst (IsPermutation (without_row values rows)) (filter-map (λ c. not (same_row c values)) (cells_at (made held.tree) places) (old.trees held.tree)) (IsPermutation-filter (λ c. not (same_row c values)) _ _ held.rows_are));
    }
