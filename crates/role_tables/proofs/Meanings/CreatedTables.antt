-- What a CREATE TABLE creates, whatever other tables there are.
use Rattle.std.proofs.Common.{◌≡◌, ◌⊎◌, inl, inr, ℕ, ◌==◌, ◌&&◌, not, List, [], slice_range, length, Bool, true, false, Option, None, is_some, Result, Ok, Err, refl, sym}
use Rattle.std.proofs.lemmas.Bool.{cases_Bool}
use Rattle.std.specs.Option.{option_or}
use Rattle.sqlite.specs.Schema.{Schema}
use Rattle.sqlite.specs.Table.{Table}
use Rattle.sqlite.specs.Command.TheVariants.{CreateTable}
use Rattle.sqlite.specs.Listing.{understood, misses_table}
use Rattle.sqlite.specs.Change.{created}
use Rattle.sqlite.specs.Does.{lacks_sequence}
use Rattle.sqlite.specs.Compile.{table_defined_by}
use Rattle.sqlite.specs.State.{State, Executes, ExecutesIn}
use Rattle.sqlite.proofs.Callers.{IsPlain, command_of, statement_of}
use Rattle.sqlite_schema.specs.Names.{table_named, view_named, index_named}
use Rattle.sqlite_ast.specs.declared.CreateTable as ast
use Rattle.sqlite_ast.specs.declared.Statement.{Statement}
use Rattle.sqlite_ast.specs.declared.Statement.TheVariants as written
use Rattle.sqlite_syntax.specs.declared.statement.Parsed.{Parsed}
use Rattle.sqlite_resolve.specs.declared.error.CompileError.{CompileError}
use Rattle.sqlite_resolve.specs.declared.error.CompileError.TheVariants.{Misuse, Exists, Unsupported}
use Rattle.sqlite_resolve.specs.declared.compiled.Compiled.{Compiled}
use Rattle.sqlite_resolve.specs.Lowering.{Checked}
use Rattle.sqlite_resolve.specs.Scope.{Name}
use Rattle.sqlite_resolve.specs.Define as define
use Rattle.sqlite_resolve.specs.Compile.{compiled, first, planned, timed, meaning, returning, command, create_table, creates, is_attached, is_reserved}
use Rattle.role_tables.specs.private.CreationSteps.{Creates}
use Rattle.role_tables.proofs.Meanings.Understood.{in_ok}
use Rattle.role_tables.proofs.Meanings.Creates as of

abbrev pub Refused : {A : Type 0} → Checked A → Type 0
Refused r = (e : CompileError) × (misses_table (Err e) ≡ false) × (r ≡ Err e)

creates_new : (if_missing : Bool) → if_missing ≡ false → (name : Name) (same other : Option ℕ) → Refused (creates if_missing name same other) ⊎ (creates if_missing name same other ≡ Ok true)
unfolding creates
creates_new if_missing always name same other = elim (cases_Bool (is_reserved name)) [
  | inl reserved ↦ inl (Misuse, refl, rw reserved refl)
  | inr own ↦ elim (cases_Bool (is_some other)) [
    | inl taken ↦ inl (Exists, refl, rw (own, taken) refl)
    | inr free ↦ elim (cases_Bool (is_some same)) [ inl there ↦ inl (Exists, refl, rw (own, free, there, always) refl) | inr new ↦ inr (rw (own, free, new) refl) ]
  ]
]

module _ (schema : Schema) (formats : List Name) (def : ast.CreateTable) (table : Table) (always : def.if_missing ≡ false) (defined : define.table formats def ≡ Ok table)
    (simple : (length table.computed == length table.stamps.places && not def.resolves) ≡ true) where
  made_new : Refused (create_table schema formats def) ⊎ (create_table schema formats def ≡ Ok CreateTable)
  unfolding create_table
  made_new = elim (cases_Bool (is_attached schema def.name)) [
    | inl attached ↦ inl (Unsupported, refl, rw attached refl)
    | inr own ↦ elim (creates_new def.if_missing always def.name (option_or (table_named schema def.name) (view_named schema def.name)) (index_named schema def.name)) [
      | inl wrong ↦ inl (wrong.0, wrong.1, rw (own, wrong.2) refl)
      | inr new ↦ inr (rw (own, new, defined, simple) refl)
    ]
  ]

abbrev pub in_create : Statement → (ast.CreateTable → Type 0) → Type 0
in_create (written.CreateTable def) P = P def
in_create _ P = ⊥

abbrev DefinesAs : List Name → Table → ast.CreateTable → Type 0
DefinesAs formats table def = (def.if_missing ≡ false) × (define.table formats def ≡ Ok table) × ((length table.computed == length table.stamps.places && not def.resolves) ≡ true)

-- the text is one CREATE TABLE, which creates this table
abbrev pub IsCreate : List ℕ → Table → Type 0
IsCreate sql table = in_ok (first sql) (λ p. in_create p.statement (DefinesAs p.formats table) × (slice_range sql p.start p.end ≡ sql)) × (table_defined_by sql ≡ Ok table)

planned_so : (schema : Schema) (table : Table) (p : Parsed) → in_create p.statement (DefinesAs p.formats table) → Refused (planned schema p) ⊎ (planned schema p ≡ Ok ([], (CreateTable, None)))
unfolding planned timed meaning returning command
planned_so schema table p h = go p.statement refl h
  where
    go : (s : Statement) → p.statement ≡ s → in_create s (DefinesAs p.formats table) → Refused (planned schema p) ⊎ (planned schema p ≡ Ok ([], (CreateTable, None)))
    go (written.CreateTable def) is facts = elim (made_new schema p.formats def table facts.0 facts.1 facts.2) [
      | inl wrong ↦ inl (wrong.0, wrong.1, rw (is, wrong.2) refl)
      | inr right ↦ inr (rw (is, right) refl)
    ]
    go _ is facts = absurd facts

abbrev Means : Schema → List ℕ → Type 0
Means schema sql = (command_of (understood schema sql) ≡ CreateTable) × (statement_of sql (understood schema sql) ≡ sql) × IsPlain (understood schema sql)

ok_is_no_error : {c : Compiled} {e : CompileError} → ◌≡◌ {A = Result Compiled CompileError} (Ok c) (Err e) → ⊥
ok_is_no_error e = cc

means : (schema : Schema) (sql : List ℕ) (table : Table) → IsCreate sql table → (c : Compiled) → understood schema sql ≡ Ok c → Means schema sql
unfolding understood compiled
means schema sql table text c ran = go (first sql) refl text.0
  where
    go : (r : Result Parsed CompileError) → first sql ≡ r → in_ok r (λ p. in_create p.statement (DefinesAs p.formats table) × (slice_range sql p.start p.end ≡ sql)) → Means schema sql
    go (Ok p) is h = elim (planned_so schema table p h.0) [
      | inl wrong ↦ absurd (ok_is_no_error (rw (is, wrong.2, wrong.1) at (sym ran)))
      | inr right ↦ rw (is, right) (refl, h.1, (refl, refl))
    ]
    go (Err e) is h = absurd h

-- whatever else the schema has, the table is created, empty, and the others keep their rows
pub creates_among : (sql : List ℕ) (table : Table) (old new : State) (count : ℕ) → IsCreate sql table → lacks_sequence (created old.now.schema table) ≡ false → Executes sql [] old new (Ok count) → Creates old.now.schema table old new
unfolding ExecutesIn
creates_among sql table old new count text uncounted ran =
    let m = means old.now.schema sql table text ran.0 ran.1.is in
    of.creates old.now.schema table sql m.0 m.1 text.1 m.2 uncounted old new count refl ran
