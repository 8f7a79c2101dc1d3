-- The six tables of an office, which are looked up by their names.
use Rattle.std.specs.Prelude.{true, not, nat_eq, IsTrue, ℕ, ◌+◌, if◌then◌else◌, Bool, List, [], ◌∷◌, codes, pos}
use Rattle.sqlite.specs.declared.types.Value.TheVariants.{Int, Text as Words}
use Rattle.sqlite.specs.Collation.TheVariants.{Binary}
use Rattle.sqlite.specs.Order.{Row}
use Rattle.sqlite.specs.Term.{Term, col, lit, op2}
use Rattle.sqlite_sql.specs.declared.ops.BinaryOp.TheVariants.{And, Compare}
use Rattle.sqlite_sql.specs.declared.ops.CompareOp.TheVariants.{Le, Ge}
use Rattle.sqlite.specs.Table.{Table}
use Rattle.sqlite.specs.Kind.TheVariants.{Integer, Text}
use Rattle.sqlite.specs.Effect.{Database, IsDatabase}
use Rattle.sqlite_schema.specs.declared.schema.Column.{Column}
pub use Rattle.role_tables.specs.declared.stored_table.StoredTable.{StoredTable}
pub use Rattle.role_tables.specs.declared.stored_table.StoredTable.TheVariants.{Meta, Names, Pairs, Grants, Sets, Locks}
use Rattle.role_tables.specs.StrictTable.{column_of, strict_table}
use Rattle.std.specs.List.{AllByRecursion}
use Rattle.role_tables.specs.TableByName.{Place, HasNoNull, HoldsRows}

-- what a table is created with
pub record Making : Type 0 where
  pub name : List ℕ
  pub columns : List Column
  pub key : List ℕ
  pub checks : List Term

abbrev pub is_between : ℕ → ℕ → ℕ → Term
is_between column least greatest = op2 And (op2 (Compare Ge Binary) (col 1 column) (lit (Int (pos least)))) (op2 (Compare Le Binary) (col 1 column) (lit (Int (pos greatest))))

abbrev pub making : StoredTable → Making
making Meta = record { name = codes "meta_row"; columns = column_of (codes "tag") Text ∷ column_of (codes "version") Integer ∷ []; key = 1 ∷ []; checks = [] }
making Names = record { name = codes "name_row"; columns = column_of (codes "kind") Integer ∷ column_of (codes "a") Text ∷ []; key = 1 ∷ 2 ∷ []; checks = is_between 1 1 3 ∷ [] }
making Pairs = record { name = codes "pair_row"; columns = column_of (codes "kind") Integer ∷ column_of (codes "a") Text ∷ column_of (codes "b") Text ∷ []; key = 1 ∷ 2 ∷ 3 ∷ []; checks = is_between 1 1 8 ∷ [] }
making Grants = record { name = codes "grant_row"; columns = column_of (codes "ob") Text ∷ column_of (codes "op") Text ∷ column_of (codes "role") Text ∷ []; key = 1 ∷ 2 ∷ 3 ∷ []; checks = [] }
making Sets = record { name = codes "set_row"; columns = column_of (codes "kind") Integer ∷ column_of (codes "name") Text ∷ column_of (codes "n") Integer ∷ []; key = 1 ∷ 2 ∷ []; checks = is_between 1 1 2 ∷ op2 (Compare Ge Binary) (col 1 3) (lit (Int (pos 2))) ∷ [] }
making Locks = record { name = codes "locked_row"; columns = column_of (codes "a") Text ∷ []; key = 1 ∷ []; checks = [] }

-- the table as it is created, with its rows in the tree of this number
abbrev pub made : StoredTable → ℕ → Table
made kind tree = strict_table (making kind).name tree (making kind).columns (making kind).key (making kind).checks

abbrev pub places_from : ℕ → List Column → List Place
places_from at [] = []
places_from at (c ∷ cs) = (c.name, at, c) ∷ places_from (at + 1) cs

abbrev pub places : StoredTable → List Place
places kind = places_from 0 (making kind).columns

-- a row of the office
pub data OfficeRow : Type 0 where
  meta_row : List ℕ → ℕ → OfficeRow
  name_row : ℕ → List ℕ → OfficeRow
  pair_row : ℕ → List ℕ → List ℕ → OfficeRow
  grant_row : List ℕ → List ℕ → List ℕ → OfficeRow
  set_row : ℕ → List ℕ → ℕ → OfficeRow
  locked_row : List ℕ → OfficeRow

abbrev pub table_of : OfficeRow → StoredTable
table_of (meta_row tag version) = Meta
table_of (name_row kind a) = Names
table_of (pair_row kind a b) = Pairs
table_of (grant_row ob op role) = Grants
table_of (set_row kind name n) = Sets
table_of (locked_row a) = Locks

abbrev pub cells : OfficeRow → Row
cells (meta_row tag version) = Words tag ∷ Int (pos version) ∷ []
cells (name_row kind a) = Int (pos kind) ∷ Words a ∷ []
cells (pair_row kind a b) = Int (pos kind) ∷ Words a ∷ Words b ∷ []
cells (grant_row ob op role) = Words ob ∷ Words op ∷ Words role ∷ []
cells (set_row kind name n) = Int (pos kind) ∷ Words name ∷ Int (pos n) ∷ []
cells (locked_row a) = Words a ∷ []

-- each table's rows
abbrev pub Rows : Type 0
Rows = StoredTable → List Row

abbrev pub code : StoredTable → ℕ
code Meta = 0
code Names = 1
code Pairs = 2
code Grants = 3
code Sets = 4
code Locks = 5

-- an office of this version has the table
abbrev pub is_wanted : ℕ → StoredTable → Bool
is_wanted version Locks = not (nat_eq version 1)
is_wanted version _ = true

-- the tables of an office of this version
abbrev pub tables_of : ℕ → List StoredTable
tables_of version = if nat_eq version 1 then Meta ∷ Names ∷ Pairs ∷ Grants ∷ Sets ∷ [] else Meta ∷ Names ∷ Pairs ∷ Grants ∷ Sets ∷ Locks ∷ []

-- those of them that hold rows of its state
abbrev pub row_tables : ℕ → List StoredTable
row_tables version = if nat_eq version 1 then Names ∷ Pairs ∷ Grants ∷ Sets ∷ [] else Names ∷ Pairs ∷ Grants ∷ Sets ∷ Locks ∷ []

-- the wanted tables are exactly as `made` says, and they hold these rows, whatever other tables there are
pub record HoldsTables (wanted : StoredTable → Bool) (db : Database) (rows : Rows) : Type 0 where
  pub sound : IsDatabase db
  pub tables : (kind : StoredTable) → IsTrue (wanted kind) → HoldsRows db (making kind).name (made kind) (places kind) (rows kind)
  pub solid : (kind : StoredTable) → AllByRecursion HasNoNull (rows kind)
