-- The trees of a database list its tables, so two databases with the same trees hold the same states.
use Rattle.std.proofs.Common.{◌≡◌, ℕ, ◌+◌, pos, List, [], ◌∷◌, map, slice_get, Some, false, IsTrue, refl, sym, ap, subst, ◌∙◌, arith}
use Rattle.std.specs.List.{AllZip, list_any, position_from}
use Rattle.std.specs.List.Sorted.{IsPermutation}
use Rattle.sqlite.specs.declared.types.Value.TheVariants.{Int, Text}
use Rattle.sqlite.specs.Order.{Row, column}
use Rattle.sqlite.specs.Table.{Table}
use Rattle.sqlite.specs.Tree.{Trees, IsTable, rowid}
use Rattle.sqlite.specs.Effect.{Database, IsDatabase}
use Rattle.sqlite.specs.State.{State, IsLive}
use Rattle.sqlite_catalog.specs.Listing.{IsTableRow}
use Rattle.sqlite_rules.specs.Lists.{Has}
use Rattle.sqlite_schema.specs.Names.{same_name}
use Rattle.admin_mgr.specs.RbacState.{RbacState}
use Rattle.role_tables.specs.TableByName.{Place, HaveIntIds, HoldsRows, cells_at, refers_to}
use Rattle.role_tables.specs.OfficeTables.{making, made, places}
use Rattle.role_tables.specs.StoredState.{HoldsState}
use Rattle.role_tables.specs.Durability.{SameTreesHoldSame, HoldsWhatWasLeft}

same_text : (row : Row) (a b : List ℕ) → column row 4 ≡ Text a → column row 4 ≡ Text b → a ≡ b
same_text row a b one two = cc

same_tree : (row : Row) (a b : ℕ) → rowid row ≡ Int (pos (a + 1)) → rowid row ≡ Int (pos (b + 1)) → a ≡ b
same_tree row a b one two = let e : a + 1 ≡ b + 1 = cc in omega arith

-- a row of the list determines one table: its text defines it, and its rowid is the tree's number
one_table : (row : Row) (t u : Table) → IsTableRow row t → IsTableRow row u → t ≡ u
one_table row t u a b =
    let text = same_text row a.sql b.sql a.sql_is b.sql_is in
    let tree = same_tree row t.tree u.tree a.described.id b.described.id in
    let m : a.defined.0 ≡ b.defined.0 = cc in
    a.defined.2 ∙ ap (λ (x : Table). record x { tree = t.tree }) m ∙ ap (λ k. record b.defined.0 { tree = k }) tree ∙ sym b.defined.2

-- and the list determines all tables, in order
pub listed_tables : (rows : List Row) (ts us : List Table) → AllZip IsTableRow rows ts → AllZip IsTableRow rows us → ts ≡ us
listed_tables [] [] [] a b = refl
listed_tables [] [] (u ∷ us) a b = absurd b
listed_tables [] (t ∷ ts) us a b = absurd a
listed_tables (row ∷ rows) [] us a b = absurd a
listed_tables (row ∷ rows) (t ∷ ts) [] a b = absurd b
listed_tables (row ∷ rows) (t ∷ ts) (u ∷ us) a b = let head = one_table row t u a.0 b.0 in let tail = listed_tables rows ts us a.1 b.1 in cc

module _ (old new : Database) (was : IsDatabase old) (is : IsDatabase new) (same : old.trees ≡ new.trees) where
  tables : old.schema.tables ≡ new.schema.tables
  tables = listed_tables _ old.schema.tables new.schema.tables was.lists.listed.tables (rw same is.lists.listed.tables)

  holds_rows : (name : List ℕ) (made : ℕ → Table) (places : List Place) (rows : List Row) → HoldsRows old name made places rows → HoldsRows new name made places rows
  holds_rows name made places rows it = record {
    at = it.at;
    tree = it.tree;
    is_named = subst (λ (ts : List Table). (position_from (λ t. same_name t.name name) 0 ts ≡ Some it.at) × (slice_get ts it.at ≡ Some (made it.tree))) tables it.is_named;
    alone = subst (λ (ts : List Table). (other : Table) → Has ts other → other.tree ≡ (made it.tree).tree → other ≡ made it.tree) tables it.alone;
    unreferenced = subst (λ (ts : List Table). list_any (refers_to name) ts ≡ false) tables it.unreferenced;
    keyed = subst (λ (trees : Trees). IsTable (trees it.tree)) same it.keyed;
    int_ids = subst (λ (trees : Trees). HaveIntIds (trees it.tree)) same it.int_ids;
    rows_are = subst (λ (trees : Trees). IsPermutation rows (map (cells_at (made it.tree) places) (trees it.tree))) same it.rows_are;
  }

  pub holds_state : (S : RbacState) → HoldsState old S → HoldsState new S
  holds_state S it = record {
    rows = it.rows;
    rows_are = it.rows_are;
    tables = record {
      sound = is;
      tables = λ kind w. holds_rows (making kind).name (made kind) (places kind) _ (it.tables.tables kind w);
      solid = it.tables.solid;
    };
  }

pub same_trees_hold_same : SameTreesHoldSame
same_trees_hold_same S trees db left is same = holds_state left.0 db left.2.tables.sound is (sym left.1 ∙ sym same) S left.2

-- An open connection outside a transaction holds what was committed, and a crash leaves that alone.
pub holds_what_was_left : (s : State) → IsLive s → (s.in_transaction ≡ false → IsTrue s.is_open → s.now ≡ s.committed) → (IsTrue s.is_open → (trees : Trees) → s.may_leave trees → trees ≡ s.committed.trees) → HoldsWhatWasLeft s
holds_what_was_left s live settled alone S trees left is_open outside same =
    let held = same_trees_hold_same S trees s.now left (live is_open).0 same in
    record {
      is_open = is_open;
      autocommit = outside;
      held = held;
      left = λ other may. (s.now, alone is_open other may ∙ ap (λ (db : Database). db.trees) (sym (settled outside is_open)), held);
    }
