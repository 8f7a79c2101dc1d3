-- The rows that a SELECT of named columns returns.
use Rattle.std.proofs.Common.{◌≡◌, inl, inr, ℕ, ◌^◌, List, [], ◌∷◌, map, flat_map, nat_le, slice_get, length, Some, refl, sym, ap, subst, ◌∙◌}
use Rattle.std.specs.List.Sorted.{IsPermutation}
use Rattle.std.proofs.lemmas.Bool.{cases_Bool}
use Rattle.std.proofs.lemmas.List.Sorted.{IsPermutation-map}
use Rattle.sqlite.specs.declared.types.Value.TheVariants.{Null}
use Rattle.sqlite.specs.Table.{Table}
use Rattle.sqlite.specs.Order.{Row, column}
use Rattle.sqlite.specs.Term.{Env, eval_all}
use Rattle.sqlite.specs.Query.{IsAnswer, Output, output}
use Rattle.sqlite.specs.Program.{overlay}
use Rattle.sqlite.specs.Command.{Command}
use Rattle.sqlite.specs.Command.TheVariants.{Select}
use Rattle.sqlite.specs.Tree.{Trees}
use Rattle.sqlite.specs.Effect.{Reads}
use Rattle.sqlite.specs.State.{State, Shown}
use Rattle.sqlite_ast.specs.declared.Statement.TheVariants as written
use Rattle.sqlite_schema.specs.Names.{table_named, place_of}
use Rattle.sqlite_resolve.specs.Scope.{Name}
use Rattle.sqlite_resolve.specs.Lowering.{max_budget}
use Rattle.sqlite_resolve.specs.Compile.{first}
use Rattle.role_tables.specs.TableByName.{cells_at}
use Rattle.sqlite_resolve.specs.declared.error.CompileError.TheVariants.{Mismatch}
use Rattle.role_tables.proofs.Meanings.ParsedTexts.{select_from}
use Rattle.role_tables.proofs.Meanings.Columns.{Place, AreIn, Enough}
use Rattle.role_tables.proofs.Meanings.Selects.{reading_query, names_of, selects}
use Rattle.role_tables.proofs.Meanings.Understood.{in_ok, in_ok_then, Plans, reads_so}

-- the text is this SELECT
abbrev pub IsSelect : List ℕ → List ℕ → List (List ℕ) → Type 0
IsSelect sql name columns = in_ok (first sql) (λ p. (p.statement ≡ written.Select (select_from name columns)) × (p.formats ≡ []))

pub stored_tree : (db : Trees) (tree : ℕ) → overlay db [] tree ≡ db tree
stored_tree db tree = elim (cases_Bool (nat_le (2 ^ 31) tree)) [ inl high ↦ rw high refl | inr low ↦ rw low refl ]

each : (rows : List Row) → flat_map (λ r. let env : Env = [] ∷ r ∷ [] in env ∷ []) rows ≡ map (λ r. [] ∷ r ∷ []) rows
each [] = refl
each (r ∷ rows) = ap (λ l. ([] ∷ r ∷ []) ∷ l) (each rows)

evaluated : (table : Table) (places : List Place) (row : Row) → eval_all (reading_query table places).project ([] ∷ row ∷ []) ≡ cells_at table places row
evaluated table [] row = refl
evaluated table (p ∷ ps) row = ap (λ l. column row (place_of table p.1) ∷ l) (evaluated table ps row)

outputs : (table : Table) (places : List Place) (rows : List Row) → map (λ (o : Output). o.1) (map (output (reading_query table places)) (map (λ r. [] ∷ r ∷ []) rows)) ≡ map (cells_at table places) rows
outputs table places [] = refl
outputs table places (r ∷ rows) = ap (λ l. l ∷ map (λ (o : Output). o.1) (map (output (reading_query table places)) (map (λ r. [] ∷ r ∷ []) rows))) (evaluated table places r) ∙ ap (λ l. cells_at table places r ∷ l) (outputs table places rows)

answers : (table : Table) (places : List Place) (db : Trees) (rows : List Row) → IsAnswer (reading_query table places) (overlay db []) [] rows → IsPermutation (map (cells_at table places) (db table.tree)) rows
answers table places db rows a =
    let all = db table.tree in
    let staged : a.staged ≡ map (λ r. [] ∷ r ∷ []) all = a.grouped ∙ ap (flat_map (λ r. let env : Env = [] ∷ r ∷ [] in env ∷ [])) (stored_tree db table.tree) ∙ each all in
    let kept : a.kept ≡ map (output (reading_query table places)) (map (λ r. [] ∷ r ∷ []) all) = a.distinct ∙ ap (map (output (reading_query table places))) staged in
    let mapped = IsPermutation-map (λ (o : Output). o.1) _ _ (subst (λ k. IsPermutation k a.ordered) kept a.same) in
    subst (λ r. IsPermutation (map (cells_at table places) all) r) (sym a.shown) (subst (λ l. IsPermutation l (map (λ (o : Output). o.1) a.ordered)) (outputs table places all) mapped)

-- whatever else the schema has, and however the table was created, the rows are those of the table, at the columns of these names
pub reads_rows : (sql name : List ℕ) (old new : State) (rows : List Row) (at : ℕ) (table : Table) (places : List Place) → IsSelect sql name (names_of places) → Enough (length places) max_budget
    → table_named old.now.schema name ≡ Some at → slice_get old.now.schema.tables at ≡ Some table → AreIn table places → Shown sql [] old new rows
    → IsPermutation (map (cells_at table places) (old.now.trees table.tree)) rows
reads_rows sql name old new rows at table places text enough named got in_it shown =
    let Q : Command → Type 0 = λ command. (names : List Name) × (command ≡ Select (record { lets = []; body = reading_query table places }) names) in
    let planned = in_ok_then (first sql) _ (Plans old.now.schema Q) (λ p h. elim (selects old.now.schema at table got name named places in_it enough p h.0 h.1) [
      | inl wrong ↦ inl (Mismatch, refl, wrong)
      | inr right ↦ inr (Select (record { lets = []; body = reading_query table places }) right.0, (right.0, refl), right.1)
    ]) text in
    let read = reads_so sql [] old new rows Q planned shown in
    let answer = subst (λ command. Reads command old.now [] rows) read.1.1 read.2 in
    answers table places old.now.trees rows (answer.answer Null)
