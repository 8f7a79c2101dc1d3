-- SELECT of named columns means the rows of the table, under any schema that has it.
use Rattle.std.proofs.Common.{◌≡◌, ◌⊎◌, inl, inr, ℕ, pos, negsuc, ◌-◌, ◌++◌, List, [], ◌∷◌, map, length, slice_get, nat_lt, true, false, Some, None, Ok, Err, refl, sym, ap, ◌∙◌}
use Rattle.std.proofs.lemmas.Bool.{cases_Bool}
use Rattle.sqlite.specs.declared.types.Value.TheVariants.{Int}
use Rattle.sqlite.specs.Schema.{Schema}
use Rattle.sqlite.specs.Table.{Table}
use Rattle.sqlite.specs.Query.{Query, inner, end}
use Rattle.sqlite.specs.Command.TheVariants.{Select}
use Rattle.sqlite_schema.specs.Names.{table_named, column_named, place_of}
use Rattle.sqlite_sql.specs.Term.{Term, col, lit}
use Rattle.sqlite_ast.specs.declared.Statement.TheVariants as written
use Rattle.sqlite_ast.specs.declared.Select as written_select
use Rattle.sqlite_draft.specs.declared.query.Draft.{Draft}
use Rattle.sqlite_draft.specs.declared.join.Step.TheVariants.{Inner}
use Rattle.sqlite_draft.specs.Query.{query_of}
use Rattle.sqlite_typing.specs.Types.{accepts_program}
use Rattle.sqlite_syntax.specs.declared.statement.Parsed.{Parsed}
use Rattle.sqlite_resolve.specs.declared.error.CompileError.TheVariants.{Mismatch}
use Rattle.sqlite_resolve.specs.declared.scope.Output.{Output}
use Rattle.sqlite_resolve.specs.declared.state.State.{State}
use Rattle.sqlite_resolve.specs.declared.body.Body.{Body}
use Rattle.sqlite_resolve.specs.declared.select.Clauses.{Clauses}
use Rattle.sqlite_resolve.specs.Lowering.{fresh, max_budget}
use Rattle.sqlite_resolve.specs.Scope.{Name, declared}
use Rattle.sqlite_resolve.specs.Body.{shown, outputs_from, outputs, heading, is_column, result, joins, join, inner_join, shared, matching, body, tests}
use Rattle.sqlite_resolve.specs.Order.{keys, sorts}
use Rattle.sqlite_resolve.specs.Expr.{lower}
use Rattle.sqlite_resolve.specs.Select.{outermost, parts, having, named, ungrouped, assembled, paging, constant_or}
use Rattle.sqlite_resolve.specs.Program.{Building, Shown, query_to, query, level, with, whole, alone, single, sources, source, viewing, program}
use Rattle.sqlite_resolve.specs.Compile.{planned, timed, meaning, returning, command, read}
use Rattle.role_tables.proofs.Meanings.ParsedTexts.{levels, column_expr, shown_column, core_level, core_of, core_opens, select_from, select_opens}
pub use Rattle.role_tables.specs.TableByName.{names_of}
use Rattle.role_tables.proofs.Meanings.Columns.{Place, AreIn, Enough, bound_as, over, bounds_are, lower_column}

abbrev pub terms_at : Table → List Place → List Term
terms_at table places = map (λ (p : Place). col 1 (place_of table p.1)) places

-- the rows of the tree, at those columns
abbrev pub reading_query : Table → List Place → Query
reading_query table places = record {
  from = inner table.tree end;
  filter = [];
  group = None;
  project = terms_at table places;
  distinct = false;
  collations = [];
  order = [];
  limit = lit (Int (negsuc 0));
  offset = lit (Int (pos 0));
}

append-assoc : {A : Type 0} (xs ys zs : List A) → (xs ++ ys) ++ zs ≡ xs ++ (ys ++ zs)
append-assoc [] ys zs = refl
append-assoc (x ∷ xs) ys zs = ap (λ l. x ∷ l) (append-assoc xs ys zs)

map-append : {A B : Type 0} (f : A → B) (xs ys : List A) → map f (xs ++ ys) ≡ map f xs ++ map f ys
map-append f [] ys = refl
map-append f (x ∷ xs) ys = ap (λ l. f x ∷ l) (map-append f xs ys)

module _ (schema : Schema) (at : ℕ) (table : Table) (got : slice_get schema.tables at ≡ Some table) (name : List ℕ) (known : table_named schema name ≡ Some at) where
  abbrev out_of : Place → Output
  out_of p = let cx = over schema at table got name [] true in
      record { name = heading cx (column_expr p.0) p.0; is_alias = false; is_column = is_column (column_expr p.0); term = col 1 (place_of table p.1); carried = declared table p.1 p.2 }

  shown_is : (p : Place) (done : List Output) (s : State) → column_named table p.0 ≡ Some p.1 → slice_get table.columns p.1 ≡ Some p.2 → nat_lt 1 s.budget ≡ true → s.written ≡ None
      → shown lower (over schema at table got name [] true) (bound_as schema at table got name ∷ []) done (shown_column p.0) s
      ≡ Ok (done ++ out_of p ∷ [], record s { budget = s.budget - 1; written = None; last = declared table p.1 p.2 })
  unfolding shown levels
  shown_is p done s is here enough clean = rw (lower_column schema at table got 699 name [] true p.0 p.1 p.2 s is here enough clean) refl

  abbrev Shows : List Place → List Output → State → Type 0
  Shows places done s = (all : List Output) × (t : State)
      × (outputs_from lower (over schema at table got name [] true) (bound_as schema at table got name ∷ []) done (map shown_column (names_of places)) s ≡ Ok (all, t))
      × (map (λ (o : Output). o.term) all ≡ map (λ (o : Output). o.term) done ++ terms_at table places) × (t.steps ≡ s.steps) × (t.aggregates ≡ s.aggregates)

  outputs_are : (places : List Place) (done : List Output) (s : State) → AreIn table places → Enough (length places) s.budget → s.written ≡ None → Shows places done s
  outputs_are [] done s in_it enough clean = (done, s, refl, sym (nothing_more (map (λ (o : Output). o.term) done)), refl, refl)
    where
      nothing_more : (ts : List Term) → ts ++ [] ≡ ts
      nothing_more [] = refl
      nothing_more (t ∷ ts) = ap (λ l. t ∷ l) (nothing_more ts)
  outputs_are (p ∷ ps) done s in_it enough clean =
      let next : State = record s { budget = s.budget - 1; written = None; last = declared table p.1 p.2 } in
      let more = outputs_are ps (done ++ out_of p ∷ []) next in_it.2 enough.1 refl in (
        more.0,
        more.1,
        rw (shown_is p done s in_it.0 in_it.1 enough.0 clean) more.2,
        more.3 ∙ ap (λ ts. ts ++ terms_at table ps) (map-append (λ (o : Output). o.term) done (out_of p ∷ [])) ∙ append-assoc (map (λ (o : Output). o.term) done) (col 1 (place_of table p.1) ∷ []) (terms_at table ps),
        more.4,
        more.5,
      )

  module _ (columns : List (List ℕ)) (all : List Output) (t : State)
      (outs : outputs_from lower (over schema at table got name [] true) (bound_as schema at table got name ∷ []) [] (map shown_column columns) (fresh 2 max_budget) ≡ Ok (all, t))
      (stepless : t.steps ≡ []) (single_rows : t.aggregates ≡ []) where
    abbrev body_of : Body
    body_of = record { level = record { tables = bound_as schema at table got name ∷ []; shown = all }; steps = Inner table.tree ∷ []; filter = [] }

    body_is : body lower (outermost schema) (core_of name columns) (fresh 1 max_budget) ≡ Ok (body_of, t)
    unfolding body result outputs matching joins join shared inner_join tests levels
    body_is = rw (core_opens, bounds_are schema at table got name known, outs, got) refl

    abbrev clauses_of : Clauses
    clauses_of = record { body = body_of; is_grouped = false; keys = []; collations = []; having = []; order = [] }

    parts_are : parts schema (core_of name columns) [] (fresh 1 max_budget) ≡ Ok (clauses_of, t)
    unfolding parts keys having sorts tests levels
    parts_are = rw (body_is, core_opens, single_rows) refl

    abbrev draft_of : Draft
    draft_of = record { from = inner table.tree end; filter = []; group = None; project = map (λ (o : Output). o.term) all; distinct = false; collations = []; order = []; limit = lit (Int (negsuc 0)); offset = lit (Int (pos 0)) }

    named_is : named schema (core_of name columns) [] (lit (Int (negsuc 0)), lit (Int (pos 0))) ≡ Ok (draft_of, map (λ (o : Output). o.name) all, map (λ (o : Output). o.carried.collation) all)
    unfolding named assembled ungrouped levels
    named_is = rw (parts_are, core_opens, stepless) refl

    abbrev answer_of : Shown
    answer_of = (draft_of, map (λ (o : Output). o.name) all, map (λ (o : Output). o.carried.collation) all)

    abbrev no_page : Term × Term
    no_page = (lit (Int (negsuc 0)), lit (Int (pos 0)))

    sources_are : (again : Schema → written_select.Select → Building Shown) → sources again schema (core_level name columns).from [] ≡ Ok (schema, [])
    unfolding sources source levels
    sources_are again = refl

    single_is : (again : Schema → written_select.Select → Building Shown) → single again schema (core_of name columns) [] no_page [] ≡ Ok ((answer_of, schema), [])
    unfolding single viewing
    single_is again = rw (core_opens, sources_are again, named_is) refl

    alone_is : (again : Schema → written_select.Select → Building Shown) → alone again schema (core_of name columns) [] no_page [] ≡ Ok (answer_of, [])
    unfolding alone
    alone_is again = rw (single_is again) refl

    whole_is : (again : Schema → written_select.Select → Building Shown) → whole again schema (select_from name columns) [] ≡ Ok (answer_of, [])
    unfolding whole paging constant_or
    whole_is again = rw (select_opens, alone_is again) refl

    level_is : (again : Schema → written_select.Select → Building Shown) → level again schema (select_from name columns) [] ≡ Ok (answer_of, [])
    unfolding level with
    level_is again = rw (select_opens, whole_is again) refl

    query_is : query schema (select_from name columns) ≡ Ok (answer_of, [])
    unfolding query query_to
    query_is = level_is (query_to 15)

    read_is : (read schema (select_from name columns) ≡ Err Mismatch) ⊎ (read schema (select_from name columns) ≡ Ok (Select (record { lets = []; body = query_of draft_of }) (map (λ (o : Output). o.name) all)))
    unfolding read program
    read_is = elim (cases_Bool (accepts_program schema [] (query_of draft_of) [])) [ inl typed ↦ inr (rw (query_is, typed) refl) | inr untyped ↦ inl (rw (query_is, untyped) refl) ]

  -- SELECT of these columns means this query, or the types refuse it
  abbrev pub Selects : List Place → Parsed → Type 0
  Selects places p = (planned schema p ≡ Err Mismatch) ⊎ ((names : List Name) × (planned schema p ≡ Ok ([], (Select (record { lets = []; body = reading_query table places }) names, None))))

  pub selects : (places : List Place) → AreIn table places → Enough (length places) max_budget → (p : Parsed) → p.statement ≡ written.Select (select_from name (names_of places)) → p.formats ≡ [] → Selects places p
  unfolding planned timed meaning returning command
  selects places in_it enough p is timeless =
      let outs = outputs_are places [] (fresh 2 max_budget) in_it enough refl in
      elim (read_is (names_of places) outs.0 outs.1 outs.2 outs.4 outs.5) [
        | inl wrong ↦ inl (rw (is, timeless, wrong) refl)
        | inr right ↦ inr (map (λ (o : Output). o.name) outs.0, rw (is, timeless, right, outs.3) refl)
      ]
