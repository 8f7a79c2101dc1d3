-- DELETE by equal columns means the rows with these values, under any schema that has the table.
use Rattle.std.proofs.Common.{◌≡◌, ◌⊎◌, inl, inr, ℕ, suc, pos, negsuc, ◌+◌, ◌-◌, ◌==◌, arith, List, [], ◌∷◌, slice_get, nat_lt, Bool, true, false, Some, None, Ok, Err, refl, ◌∙◌}
use Rattle.std.proofs.lemmas.Bool.{cases_Bool}
use Rattle.sqlite.specs.declared.types.Value.TheVariants.{Int}
use Rattle.sqlite.specs.Collation.TheVariants.{Binary}
use Rattle.sqlite.specs.Schema.{Schema}
use Rattle.sqlite.specs.Table.{Table}
use Rattle.sqlite.specs.Query.{Query, inner, end}
use Rattle.sqlite.specs.Command.TheVariants.{Delete}
use Rattle.sqlite_schema.specs.declared.schema.Column.{Column}
use Rattle.sqlite_schema.specs.Names.{table_named, column_named, place_of}
use Rattle.sqlite_sql.specs.Term.{Term, col, lit, op2}
use Rattle.sqlite_sql.specs.declared.ops.BinaryOp.TheVariants.{And, Compare}
use Rattle.sqlite_sql.specs.declared.ops.CompareOp.TheVariants.{Eq}
use Rattle.sqlite_ast.specs.declared.Expr.{Expr, roll-Expr}
use Rattle.sqlite_ast.specs.declared.Expr.TheOpen.{Expr-F}
use Rattle.sqlite_ast.specs.declared.Statement.TheVariants as written
use Rattle.sqlite_syntax.specs.declared.statement.Parsed.{Parsed}
use Rattle.sqlite_resolve.specs.declared.error.CompileError.TheVariants.{Mismatch}
use Rattle.sqlite_resolve.specs.declared.compare.Affinity.TheVariants as affinity
use Rattle.sqlite_resolve.specs.declared.scope.Output.{Output}
use Rattle.sqlite_resolve.specs.declared.state.State.{State}
use Rattle.sqlite_resolve.specs.Lowering.{Lowering, fresh, max_budget, begin, finish, spend, chosen, first_found, nothing}
use Rattle.sqlite_resolve.specs.Scope.{Context, declared}
use Rattle.sqlite_resolve.specs.Compare.{of_kind, is_filler, of_column, affinity_of, may_be_text, spelled, is_parameter, converted, compared}
use Rattle.sqlite_resolve.specs.Expr.{lower, lower_to, node, opened, passes, operation, both, wanted_truth, tests_truth, tests_alias, combine}
use Rattle.sqlite_resolve.specs.Terms.{conjuncts}
use Rattle.sqlite_resolve.specs.Body.{tests as tests_in}
use Rattle.sqlite_resolve.specs.Write.{picked, deleted}
use Rattle.sqlite_resolve.specs.Program.{program}
use Rattle.sqlite_resolve.specs.Compile.{planned, timed, meaning, returning, shows, command, delete}
use Rattle.sqlite_typing.specs.Types.{accepts_program}
use Rattle.role_tables.proofs.Meanings.Understood.{Plans}
use Rattle.role_tables.proofs.Meanings.ParsedTexts.{levels, column_expr, equal_exprs, equal_opens, column_is, both_are, both_open}
use Rattle.role_tables.proofs.Meanings.Columns.{Place, AreIn, Enough, over, lower_column}

-- a STRICT column of integers or of texts
pub record IsOurs (d : Column) : Type 0 where
  pub is_strict : d.is_strict ≡ true
  pub collation : d.collation ≡ Binary
  pub is_named : is_filler d ≡ false
  pub kind : (of_kind d.kind ≡ affinity.Numeric) ⊎ (of_kind d.kind ≡ affinity.Text)

abbrev pub is_equal : ℕ → ℕ → Term
is_equal column parameter = op2 (Compare Eq Binary) (col 1 (column + 1)) (col 0 parameter)

after_one : (k : ℕ) → k + 1 ≡ suc k
after_one k = omega arith

abbrev opened_state : State → State
opened_state s = record s { budget = s.budget - 1; written = None; last = nothing }

module _ (low : Context → Expr → Lowering Term) (cx : Context) (a b : Expr) (t u : Term) (s s1 s2 : State) (enough : nat_lt 1 s.budget ≡ true) (clean : s.written ≡ None)
    (first : low cx a (opened_state s) ≡ Ok (t, s1)) (second : low cx b s1 ≡ Ok (u, s2)) (tidy : s2.written ≡ None) where
  node_equal : node low cx (equal_exprs a b) s ≡ Ok (compared cx (Compare Eq (chosen s1.last s2.last)) t u, record s2 { written = None; last = nothing })
  unfolding node opened begin finish spend passes operation both wanted_truth tests_truth tests_alias combine
  node_equal = rw (enough, equal_opens a b, clean, first, second, tidy) refl

  node_both : node low cx (both_are a b) s ≡ Ok (op2 And t u, record s2 { written = None; last = nothing })
  unfolding node opened begin finish spend passes operation both wanted_truth tests_truth tests_alias combine
  node_both = rw (enough, both_open a b, clean, first, second, tidy) refl

module _ (schema : Schema) (at : ℕ) (table : Table) (got : slice_get schema.tables at ≡ Some table) (keyless : table.key ≡ None) (name : List ℕ) where
  place_is : (k : ℕ) → place_of table k ≡ k + 1
  place_is k = rw keyless refl

  affinity_is : (shown : List Output) (may : Bool) (k : ℕ) (d : Column) → slice_get table.columns k ≡ Some d → IsOurs d → affinity_of (over schema at table got name shown may) (col 1 (k + 1)) ≡ of_kind d.kind
  unfolding affinity_of of_column
  affinity_is shown may k d here ours = rw (after_one k, got, here, ours.is_named, ours.is_strict) refl

  no_affinity : (shown : List Output) (may : Bool) (j : ℕ) → affinity_of (over schema at table got name shown may) (col 0 j) ≡ affinity.None
  unfolding affinity_of of_column
  no_affinity shown may j = elim (cases_Bool (j == 0)) [ inl first ↦ rw first refl | inr later ↦ rw later refl ]

  compared_is : (shown : List Output) (may : Bool) (k j : ℕ) (d : Column) → slice_get table.columns k ≡ Some d → IsOurs d
      → compared (over schema at table got name shown may) (Compare Eq Binary) (col 1 (k + 1)) (col 0 j) ≡ is_equal k j
  unfolding compared converted may_be_text spelled is_parameter
  compared_is shown may k j d here ours = elim ours.kind [
    | inl number ↦ rw (affinity_is shown may k d here ours, number, no_affinity shown may j) refl
    | inr text ↦ rw (affinity_is shown may k d here ours, text, no_affinity shown may j) refl
  ]

  lower_parameter : (depth : ℕ) (shown : List Output) (may : Bool) (n : ℕ) (s : State) → nat_lt 1 s.budget ≡ true → s.written ≡ None
      → lower_to (suc depth) (over schema at table got name shown may) (roll-Expr (Expr-F.Parameter n)) s ≡ Ok (col 0 (n - 1), record s { budget = s.budget - 1; written = None; last = nothing })
  unfolding lower_to node opened begin finish spend passes levels
  lower_parameter depth shown may n s enough clean = rw (enough, clean) refl

  chosen_is : (k : ℕ) (d : Column) → IsOurs d → chosen (declared table k d) nothing ≡ Binary
  unfolding chosen first_found
  chosen_is k d ours = rw (keyless, ours.collation) refl

  pub lower_equal : (depth : ℕ) (shown : List Output) (may : Bool) (p : Place) (n : ℕ) (s : State) → column_named table p.0 ≡ Some p.1 → slice_get table.columns p.1 ≡ Some p.2 → IsOurs p.2 → Enough 3 s.budget → s.written ≡ None
      → lower_to (suc (suc depth)) (over schema at table got name shown may) (column_is p.0 n) s ≡ Ok (is_equal p.1 (n - 1), record s { budget = s.budget - 1 - 1 - 1; written = None; last = nothing })
  unfolding lower_to
  lower_equal depth shown may p n s is here ours enough clean =
      let one = opened_state s in
      let two : State = record one { budget = one.budget - 1; last = declared table p.1 p.2 } in
      let three : State = opened_state two in
      node_equal (lower_to (suc depth)) (over schema at table got name shown may) (column_expr p.0) (roll-Expr (Expr-F.Parameter n)) (col 1 (place_of table p.1)) (col 0 (n - 1)) s two three enough.0 clean
      (lower_column schema at table got depth name shown may p.0 p.1 p.2 one is here enough.1.0 refl) (lower_parameter depth shown may n two enough.1.1.0 refl) refl
      ∙ rw (chosen_is p.1 p.2 ours, place_is p.1, compared_is shown may p.1 (n - 1) p.2 here ours) refl

  pub lower_both : (depth : ℕ) (shown : List Output) (may : Bool) (a b : Expr) (t u : Term) (s s1 s2 : State) → nat_lt 1 s.budget ≡ true → s.written ≡ None
      → lower_to depth (over schema at table got name shown may) a (opened_state s) ≡ Ok (t, s1) → lower_to depth (over schema at table got name shown may) b s1 ≡ Ok (u, s2) → s2.written ≡ None
      → lower_to (suc depth) (over schema at table got name shown may) (both_are a b) s ≡ Ok (op2 And t u, record s2 { written = None; last = nothing })
  unfolding lower_to
  lower_both depth shown may = node_both (lower_to depth) (over schema at table got name shown may)

-- c1 = ?1 AND c2 = ?2 ..
abbrev pub where_from : Expr → ℕ → List (List ℕ) → Expr
where_from e n [] = e
where_from e n (c ∷ cs) = where_from (both_are e (column_is c n)) (n + 1) cs

abbrev pub tests_from : ℕ → List Place → List Term
tests_from n [] = []
tests_from n (p ∷ ps) = is_equal p.1 n ∷ tests_from (n + 1) ps

abbrev pub AreOurs : List Place → Type 0
AreOurs [] = Unit {0}
AreOurs (p ∷ ps) = IsOurs p.2 × AreOurs ps

-- the rowids of the rows that pass
abbrev pub taking_query : Table → List Term → Query
taking_query table tests = record {
  from = inner table.tree end;
  filter = tests;
  group = None;
  project = col 1 0 ∷ [];
  distinct = false;
  collations = [];
  order = [];
  limit = lit (Int (negsuc 0));
  offset = lit (Int (pos 0));
}

module _ (schema : Schema) (at : ℕ) (table : Table) (got : slice_get schema.tables at ≡ Some table) (keyless : table.key ≡ None) (name : List ℕ) (known : table_named schema name ≡ Some at) where
  -- the condition means these tests
  abbrev pub Tests : Expr → List Term → Type 0
  Tests e tests = (t : Term) × (s : State) × (lower (over schema at table got table.name [] false) e (fresh 2 max_budget) ≡ Ok (t, s)) × (conjuncts t ≡ tests) × (s.steps ≡ [])

  abbrev after_equal : State → State
  after_equal s = record s { budget = s.budget - 1 - 1 - 1; written = None; last = nothing }

  pub tests_one : (p : Place) → AreIn table (p ∷ []) → AreOurs (p ∷ []) → Tests (column_is p.0 1) (tests_from 0 (p ∷ []))
  tests_one p in_it ours = (
    is_equal p.1 0,
    after_equal (fresh 2 max_budget),
    lower_equal schema at table got keyless table.name 698 [] false p 1 (fresh 2 max_budget) in_it.0 in_it.1 ours.0 (refl, (refl, (refl, tt))) refl,
    refl,
    refl,
  )

  pub tests_two : (p q : Place) → AreIn table (p ∷ q ∷ []) → AreOurs (p ∷ q ∷ []) → Tests (where_from (column_is p.0 1) 2 (q.0 ∷ [])) (tests_from 0 (p ∷ q ∷ []))
  tests_two p q in_it ours =
      let one = after_equal (opened_state (fresh 2 max_budget)) in
      let two = after_equal one in (
        op2 And (is_equal p.1 0) (is_equal q.1 1),
        record two { written = None; last = nothing },
        lower_both schema at table got keyless table.name 699 [] false (column_is p.0 1) (column_is q.0 2) (is_equal p.1 0) (is_equal q.1 1) (fresh 2 max_budget) one two refl refl
            (lower_equal schema at table got keyless table.name 697 [] false p 1 (opened_state (fresh 2 max_budget)) in_it.0 in_it.1 ours.0 (refl, (refl, (refl, tt))) refl)
            (lower_equal schema at table got keyless table.name 697 [] false q 2 one in_it.2.0 in_it.2.1 ours.1.0 (refl, (refl, (refl, tt))) refl) refl,
        refl,
        refl,
      )

  pub tests_three : (p q r : Place) → AreIn table (p ∷ q ∷ r ∷ []) → AreOurs (p ∷ q ∷ r ∷ []) → Tests (where_from (column_is p.0 1) 2 (q.0 ∷ r.0 ∷ [])) (tests_from 0 (p ∷ q ∷ r ∷ []))
  tests_three p q r in_it ours =
      let inside = opened_state (fresh 2 max_budget) in
      let one = after_equal (opened_state inside) in
      let two = after_equal one in
      let both : State = record two { written = None; last = nothing } in
      let three = after_equal both in (
        op2 And (op2 And (is_equal p.1 0) (is_equal q.1 1)) (is_equal r.1 2),
        record three { written = None; last = nothing },
        lower_both schema at table got keyless table.name 699 [] false (both_are (column_is p.0 1) (column_is q.0 2)) (column_is r.0 3) (op2 And (is_equal p.1 0) (is_equal q.1 1)) (is_equal r.1 2) (fresh 2 max_budget) both three refl refl
            (lower_both schema at table got keyless table.name 698 [] false (column_is p.0 1) (column_is q.0 2) (is_equal p.1 0) (is_equal q.1 1) inside one two refl refl
            (lower_equal schema at table got keyless table.name 696 [] false p 1 (opened_state inside) in_it.0 in_it.1 ours.0 (refl, (refl, (refl, tt))) refl)
            (lower_equal schema at table got keyless table.name 696 [] false q 2 one in_it.2.0 in_it.2.1 ours.1.0 (refl, (refl, (refl, tt))) refl) refl)
            (lower_equal schema at table got keyless table.name 697 [] false r 3 both in_it.2.2.0 in_it.2.2.1 ours.1.1.0 (refl, (refl, (refl, tt))) refl) refl,
        refl,
        refl,
      )

  module _ (e : Expr) (tests : List Term) (read : Tests e tests) where
    deleted_is : deleted schema at table (Some e) ≡ Ok (record { from = inner table.tree end; filter = tests; group = None; project = col 1 0 ∷ []; distinct = false; collations = []; order = []; limit = lit (Int (negsuc 0)); offset = lit (Int (pos 0)) })
    unfolding deleted picked tests_in
    deleted_is = rw (read.2, read.3, read.4) refl

    delete_is : (delete schema name (Some e) ≡ Err Mismatch) ⊎ (delete schema name (Some e) ≡ Ok (Delete at (record { lets = []; body = taking_query table tests })))
    unfolding delete program
    delete_is = elim (cases_Bool (accepts_program schema [] (taking_query table tests) [])) [ inl typed ↦ inr (rw (known, got, deleted_is, typed) refl) | inr untyped ↦ inl (rw (known, got, deleted_is, untyped) refl) ]

    pub deletes : (p : Parsed) → p.statement ≡ written.Delete name (Some e) [] → p.formats ≡ [] → Plans schema (λ command. command ≡ Delete at (record { lets = []; body = taking_query table tests })) p
    unfolding planned timed meaning returning shows command
    deletes p is timeless = elim delete_is [
      | inl wrong ↦ inl (Mismatch, refl, rw (is, timeless, wrong) refl)
      | inr right ↦ inr (Delete at (record { lets = []; body = taking_query table tests }), refl, rw (is, timeless, right) refl)
    ]
