-- What columns and tables in a text mean under any schema that has the table.
use Rattle.std.proofs.Common.{◌≡◌, ℕ, zero, suc, ◌-◌, List, [], ◌∷◌, slice_get, nat_lt, Bool, true, false, Some, None, Ok, refl}
use Rattle.sqlite.specs.Schema.{Schema}
use Rattle.sqlite.specs.Table.{Table}
use Rattle.sqlite_schema.specs.declared.schema.Column.{Column}
use Rattle.sqlite_schema.specs.Names.{table_named, column_named, place_of}
use Rattle.sqlite_sql.specs.Term.{col}
use Rattle.sqlite_resolve.specs.declared.scope.Bound.{Bound}
use Rattle.sqlite_resolve.specs.declared.scope.Output.{Output}
use Rattle.sqlite_resolve.specs.declared.scope.Found.TheVariants as found
use Rattle.sqlite_resolve.specs.declared.state.State.{State}
use Rattle.sqlite_resolve.specs.Lowering.{fresh, max_budget, take_slot, begin, finish, spend}
use Rattle.sqlite_resolve.specs.Scope.{Context, column_in, is_among, hit, only, in_level, find, column_at, term_of, column, declared}
use Rattle.sqlite_resolve.specs.Body.{table_in, bound, bounds, shown}
use Rattle.sqlite_resolve.specs.Expr.{lower_to, node, opened, passes}
pub use Rattle.role_tables.specs.TableByName.{Place}
pub use Rattle.role_tables.specs.private.NamedTables.{AreIn}
use Rattle.role_tables.proofs.Meanings.ParsedTexts.{levels, column_expr, source_of}

-- the budget is enough to read this number of nodes
abbrev pub Enough : ℕ → ℕ → Type 0
Enough zero budget = Unit {0}
Enough (suc n) budget = (nat_lt 1 budget ≡ true) × Enough n (budget - 1)

module _ (schema : Schema) (at : ℕ) (table : Table) (got : slice_get schema.tables at ≡ Some table) where
  abbrev pub bound_as : List ℕ → Bound
  bound_as name = record { name = name; table = at; slot = 1; shared = [] }

  abbrev pub over : List ℕ → List Output → Bool → Context
  over name shown may = record { schema = schema; levels = record { tables = bound_as name ∷ []; shown = shown } ∷ []; may_aggregate = may; may_alias = true }

  bound_is : (name : List ℕ) → table_named schema name ≡ Some at → bound schema (source_of name) (fresh 1 max_budget) ≡ Ok (bound_as name, fresh 2 max_budget)
  unfolding bound table_in take_slot levels
  bound_is name named = rw named refl

  pub bounds_are : (name : List ℕ) → table_named schema name ≡ Some at → bounds schema (source_of name ∷ []) (fresh 1 max_budget) ≡ Ok (bound_as name ∷ [], fresh 2 max_budget)
  unfolding bounds
  bounds_are name named = rw (bound_is name named) refl

  column_in_is : (name c : List ℕ) (k : ℕ) → column_named table c ≡ Some k → column_in schema c (bound_as name) ≡ Some (found.Column 1 at k)
  unfolding column_in
  column_in_is name c k is = rw (got, is) refl

  only_is : (name c : List ℕ) (k : ℕ) → column_named table c ≡ Some k → only schema None c false (bound_as name ∷ []) ≡ Ok (Some (found.Column 1 at k))
  unfolding only hit is_among
  only_is name c k is = rw (column_in_is name c k is) refl

  pub find_is : (name : List ℕ) (shown : List Output) (may : Bool) (c : List ℕ) (k : ℕ) → column_named table c ≡ Some k → find (over name shown may) None c ≡ Ok (found.Column 1 at k)
  unfolding find in_level
  find_is name shown may c k is = rw (only_is name c k is) refl

  pub term_is : (name : List ℕ) (shown : List Output) (may : Bool) (k : ℕ) (d : Column) (s : State) → slice_get table.columns k ≡ Some d
      → term_of (over name shown may) (found.Column 1 at k) s ≡ Ok (col 1 (place_of table k), record s { last = declared table k d })
  unfolding term_of column_at
  term_is name shown may k d s here = rw (got, here) refl

  pub lower_column : (depth : ℕ) (name : List ℕ) (shown : List Output) (may : Bool) (c : List ℕ) (k : ℕ) (d : Column) (s : State) → column_named table c ≡ Some k → slice_get table.columns k ≡ Some d
      → nat_lt 1 s.budget ≡ true → s.written ≡ None
      → lower_to (suc depth) (over name shown may) (column_expr c) s ≡ Ok (col 1 (place_of table k), record s { budget = s.budget - 1; written = None; last = declared table k d })
  unfolding lower_to node opened begin finish spend column passes levels
  lower_column depth name shown may c k d s is here enough clean = rw (enough, find_is name shown may c k is, term_is name shown may k d (record s { budget = s.budget - 1; written = None; last = record { collation = None; is_written = false } }) here, clean) refl
