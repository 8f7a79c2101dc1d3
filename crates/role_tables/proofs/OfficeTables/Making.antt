-- The texts that create the office's tables.
use Rattle.std.proofs.Common.{◌≡◌, [], length, map, true, false, Some, None, refl, sym, ap, subst, ◌∙◌, arith}
use Rattle.std.specs.List.Sorted.{IsPermutation}
use Rattle.std.proofs.lemmas.List.Sorted.{IsPermutation-refl}
use Rattle.sqlite.specs.Tree.{IsTable}
use Rattle.sqlite.specs.Change.{created, next_tree}
use Rattle.sqlite.specs.State.{State}
use Rattle.sqlite_schema.specs.Names.{same_name, table_named}
use Rattle.role_tables.specs.private.CreationSteps.{Creates}
use Rattle.role_tables.specs.TableByName.{cells_at, IsNamed, HaveIntIds, is_referred, IsAlone, HoldsRows}
use Rattle.role_tables.proofs.OfficeTables.Lists.{found_last, got_last}
use Rattle.sqlite_tied.specs.Compute.{everything}
use Rattle.sqlite_resolve.specs.Compile.{first}
use Rattle.sqlite.specs.Compile.{table_defined_by}
use Rattle.role_tables.specs.OfficeTables.{StoredTable, Meta, Names, Pairs, Grants, Sets, Locks, making, made, places}
use Rattle.role_tables.specs.private.Texts.{create_text}
use Rattle.role_tables.proofs.Meanings.CreatedTables.{IsCreate}

pub create_is : (kind : StoredTable) → IsCreate (create_text kind) (made kind 0)
unfolding first table_defined_by everything
create_is Meta = (((refl, refl, refl), refl), refl)
create_is Names = (((refl, refl, refl), refl), refl)
create_is Pairs = (((refl, refl, refl), refl), refl)
create_is Grants = (((refl, refl, refl), refl), refl)
create_is Sets = (((refl, refl, refl), refl), refl)
create_is Locks = (((refl, refl, refl), refl), refl)

own_name : (kind : StoredTable) → same_name (making kind).name (making kind).name ≡ true
unfolding everything
own_name Meta = refl
own_name Names = refl
own_name Pairs = refl
own_name Grants = refl
own_name Sets = refl
own_name Locks = refl

-- a new table is found by its name, and holds no row
pub holds_created : (kind : StoredTable) (old new : State) → Creates old.now.schema (made kind 0) old new → table_named old.now.schema (making kind).name ≡ None → is_referred new.now.schema (making kind).name ≡ false → IsAlone new.now.schema (made kind (next_tree old.now.schema))
    → HoldsRows new.now (making kind).name (made kind) (places kind) []
holds_created kind old new c free unreferenced alone =
    let schema = old.now.schema in
    let whole = made kind (next_tree schema) in
    let at = length schema.tables in
    let named : table_named (created schema (made kind 0)) (making kind).name ≡ Some at = found_last (λ t. same_name t.name (making kind).name) 0 schema.tables whole free (own_name kind) ∙ ap Some (omega arith) in
    record {
      at = at;
      tree = next_tree schema;
      is_named = subst (λ s. IsNamed s (making kind).name at whole) (sym c.schema_is) (named, got_last schema.tables whole);
      alone = alone;
      unreferenced = unreferenced;
      keyed = subst IsTable (sym c.empty) tt;
      int_ids = subst HaveIntIds (sym c.empty) tt;
      rows_are = subst (λ l. IsPermutation [] (map (cells_at whole (places kind)) l)) (sym c.empty) (IsPermutation-refl []);
    }
