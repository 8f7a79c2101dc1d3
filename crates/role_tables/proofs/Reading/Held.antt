-- What is found in a database that holds the tables.
use Rattle.std.proofs.Common.{◌≡◌, ℕ, Bool, List, map, Some, IsTrue, refl}
use Rattle.std.specs.List.Sorted.{IsPermutation}
use Rattle.sqlite.specs.Order.{Row}
use Rattle.sqlite.specs.Effect.{Database}
use Rattle.sqlite_tied.specs.Compute.{everything}
use Rattle.role_tables.specs.TableByName.{names_of, cells_at}
use Rattle.role_tables.specs.OfficeTables.{StoredTable, Meta, Names, Pairs, Grants, Sets, Locks, made, places, Rows, HoldsTables}
use Rattle.role_tables.specs.TableContents.{find_places, contents_of}

own_places : (kind : StoredTable) (tree : ℕ) → find_places (made kind tree) (names_of (places kind)) ≡ Some (places kind)
unfolding everything
own_places Meta tree = refl
own_places Names tree = refl
own_places Pairs tree = refl
own_places Grants tree = refl
own_places Sets tree = refl
own_places Locks tree = refl

-- the rows that a table holds are found, in some order
pub holds_found : (want : StoredTable → Bool) (db : Database) (rows : Rows) → HoldsTables want db rows → (kind : StoredTable) → IsTrue (want kind)
    → (values : List Row) × (contents_of db kind ≡ Some values) × IsPermutation (rows kind) values
holds_found want db rows held kind wanted =
    let table = held.tables kind wanted in
    let whole = made kind table.tree in (
      map (cells_at whole (places kind)) (db.trees table.tree),
      rw (table.is_named.0, table.is_named.1, own_places kind table.tree) refl,
      table.rows_are,
    )
