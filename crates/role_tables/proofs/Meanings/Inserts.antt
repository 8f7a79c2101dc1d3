-- What an INSERT means under any schema that has the table.
use Rattle.std.proofs.Common.{◌≡◌, ℕ, List, [], slice_get, length, ◌+◌, ◌%◌, Some, None, Ok, refl, ap, ◌∙◌}
use Rattle.sqlite.specs.Schema.{Schema}
use Rattle.sqlite.specs.Table.{Table}
use Rattle.sqlite.specs.Source.{Source}
use Rattle.sqlite.specs.Command.TheVariants.{Insert}
use Rattle.sqlite_schema.specs.Names.{table_named}
use Rattle.sqlite_ast.specs.declared.Rows.{Rows}
use Rattle.sqlite_ast.specs.declared.Statement.{Statement}
use Rattle.sqlite_ast.specs.declared.Statement.TheVariants as written
use Rattle.sqlite_ast.specs.declared.Conflict.TheVariants as conflict
use Rattle.sqlite_syntax.specs.declared.statement.Parsed.{Parsed}
use Rattle.sqlite_resolve.specs.Compile.{planned, command, insert_or_abort, insert, new_rows, timed, returning, shows, meaning}

-- an INSERT into a table that the schema has, whatever else it has
module _ (schema : Schema) (at : ℕ) (table : Table) (name : List ℕ) (named : table_named schema name ≡ Some at) (got : slice_get schema.tables at ≡ Some table) where
  insert_found : (base : ℕ) (columns : List (List ℕ)) (rows : Rows) (source : Source) → new_rows schema table base columns rows ≡ Ok source → insert schema base name columns rows ≡ Ok (Insert at source)
  unfolding insert
  insert_found base columns rows source is = rw (named, got, is) refl

  planned_insert : (p : Parsed) (columns : List (List ℕ)) (rows : Rows) (source : Source) → p.statement ≡ written.Insert conflict.Abort name columns rows [] [] → p.formats ≡ [] → table.stamps.formats ≡ []
      → new_rows schema table (length p.names % 65536 + 0) columns rows ≡ Ok source → planned schema p ≡ Ok ([], (Insert at source, None))
  unfolding planned timed meaning returning shows command insert_or_abort
  planned_insert p columns rows source is timeless unstamped new = rw (is, timeless, named, got, unstamped, insert_found (length p.names % 65536 + 0) columns rows source new) refl

abbrev pub in_insert : Statement → (List ℕ → List (List ℕ) → Rows → Type 0) → Type 0
in_insert (written.Insert conflict.Abort name columns rows [] []) P = P name columns rows
in_insert _ P = ⊥

-- an INSERT of these values into the table
abbrev pub Inserts : Schema → Table → List ℕ → Source → Parsed → Type 0
Inserts schema table name source p = in_insert p.statement (λ wanted columns rows. (wanted ≡ name) × (new_rows schema table (length p.names % 65536 + 0) columns rows ≡ Ok source)) × (p.formats ≡ [])

pub inserts_planned : (schema : Schema) (at : ℕ) (table : Table) (name : List ℕ) → table_named schema name ≡ Some at → slice_get schema.tables at ≡ Some table → table.stamps.formats ≡ [] → (source : Source) (p : Parsed)
    → Inserts schema table name source p → planned schema p ≡ Ok ([], (Insert at source, None))
inserts_planned schema at table name named got unstamped source p h = go p.statement refl h.0
  where
    go : (s : Statement) → p.statement ≡ s → in_insert s (λ wanted columns rows. (wanted ≡ name) × (new_rows schema table (length p.names % 65536 + 0) columns rows ≡ Ok source)) → planned schema p ≡ Ok ([], (Insert at source, None))
    go (written.Insert conflict.Abort wanted columns rows [] []) is facts =
        planned_insert schema at table name named got p columns rows source (is ∙ ap (λ n. written.Insert conflict.Abort n columns rows [] []) facts.0) h.1 unstamped facts.1
    go _ is facts = absurd facts
