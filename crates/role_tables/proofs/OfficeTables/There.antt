-- The test of a schema for tables and columns agrees with what is found in the database.
use Rattle.std.proofs.Common.{◌≡◌, ◌⊎◌, inl, inr, ℕ, suc, ◌+◌, List, [], ◌∷◌, map, slice_get, Bool, true, false, ◌&&◌, Option, Some, None, is_some, IsSome, IsTrue, refl, sym, ap, ◌∙◌, arith}
use Rattle.std.specs.Option.{option_and_then, option_map}
use Rattle.std.specs.List.{position_from}
use Rattle.std.proofs.lemmas.Bool.{cases_Bool}
use Rattle.sqlite.specs.Table.{Table}
use Rattle.sqlite.specs.Effect.{Database}
use Rattle.sqlite_schema.specs.Names.{same_name, column_named}
use Rattle.sqlite_schema.specs.declared.schema.Column.{Column}
use Rattle.role_tables.specs.TableByName.{Place, names_of, cells_at}
use Rattle.role_tables.specs.OfficeTables.{StoredTable, making, places, is_wanted, tables_of}
use Rattle.role_tables.specs.TableContents.{find_places, find_table, contents_of}
use Rattle.role_tables.specs.private.NamedTables.{has_all, is_such, is_there, are_there}
use Rattle.role_tables.proofs.OfficeTables.Looking.{each_of, all_of}

mapped_some : {A B : Type 0} (f : A → B) (o : Option A) → is_some (option_map f o) ≡ is_some o
mapped_some f None = refl
mapped_some f (Some x) = refl

-- an element at the position that was found exists
at_place : {A : Type 0} (p : A → Bool) (n : ℕ) (xs : List A) (m : ℕ) → position_from p n xs ≡ Some m → (k : ℕ) × (m ≡ n + k) × ((x : A) × (slice_get xs k ≡ Some x))
at_place p n [] m is = absurd (cc)
at_place p n (x ∷ xs) m is = elim (cases_Bool (p x)) [
  | inl here ↦ let e : ◌≡◌ {A = Option ℕ} (Some n) (Some m) = rw here at is in let same : n ≡ m = cc in (0, omega (arith, same), (x, refl))
  | inr there ↦ let more = at_place p (n + 1) xs m (rw there at is) in (suc more.0, omega (arith, more.1), (more.2.0, more.2.1))
]

places_there : (table : Table) (names : List (List ℕ)) → is_some (find_places table names) ≡ has_all table names
places_there table [] = refl
places_there table (name ∷ names) = at_name (places_there table names) (column_named table name) refl
  where
    after : ℕ → Option (List Place)
    after at = option_and_then (λ c. option_map (λ (more : List Place). (name, at, c) ∷ more) (find_places table names)) (slice_get table.columns at)

    at_column : (at : ℕ) (c : Column) → slice_get table.columns at ≡ Some c → is_some (find_places table names) ≡ has_all table names → is_some (after at) ≡ has_all table names
    at_column at c got rest = rw got (mapped_some (λ (more : List Place). (name, at, c) ∷ more) (find_places table names) ∙ rest)

    at_name : is_some (find_places table names) ≡ has_all table names → (o : Option ℕ) → column_named table name ≡ o → is_some (option_and_then after o) ≡ (is_some o && has_all table names)
    at_name rest None named = refl
    at_name rest (Some at) named =
        let it = at_place (λ c. same_name c.name name) 0 table.columns at named in
        let same : at ≡ it.0 = omega (arith, it.1) in
        at_column at it.2.0 (ap (slice_get table.columns) same ∙ it.2.1) rest

pub there_found : (db : Database) (kind : StoredTable) → is_some (contents_of db kind) ≡ is_there db.schema kind
there_found db kind = go (find_table db.schema (making kind).name)
  where
    go : (o : Option Table) → is_some (option_and_then (λ table. option_map (λ found. map (cells_at table found) (db.trees table.tree)) (find_places table (names_of (places kind)))) o) ≡ is_such o (λ table. has_all table (names_of (places kind)))
    go None = refl
    go (Some table) = mapped_some (λ found. map (cells_at table found) (db.trees table.tree)) (find_places table (names_of (places kind))) ∙ places_there table (names_of (places kind))

pub some_there : (db : Database) (kind : StoredTable) → is_there db.schema kind ≡ true → IsSome (contents_of db kind)
some_there db kind there = there_found db kind ∙ there

pub there_some : (db : Database) (kind : StoredTable) → IsSome (contents_of db kind) → is_there db.schema kind ≡ true
there_some db kind found = sym (there_found db kind) ∙ found

-- if the tables of a version are there with their columns, each of them is found, and otherwise one isn't
pub all_found : (db : Database) (version : ℕ) → (version ≡ 1) ⊎ (version ≡ 2) → are_there db.schema (tables_of version) ≡ true → (table : StoredTable) → IsTrue (is_wanted version table) → IsSome (contents_of db table)
all_found db version known all table wanted = some_there db table (each_of (is_there db.schema) version known all table wanted)

pub some_missed : (db : Database) (version : ℕ) → (version ≡ 1) ⊎ (version ≡ 2) → are_there db.schema (tables_of version) ≡ false → ((table : StoredTable) → IsTrue (is_wanted version table) → IsSome (contents_of db table)) → ⊥
some_missed db version known none all =
    let e = all_of (is_there db.schema) version known (λ table wanted. there_some db table (all table wanted)) in
    let clash = sym none ∙ e in cc
