-- A schema in which the tables can be created is the first stage of creating them.
use Rattle.std.proofs.Common.{◌≢◌, ◌≡◌, ◌⊎◌, inl, inr, ℕ, suc, ◌+◌, List, [], ◌∷◌, not, ◌&&◌, slice_get, Bool, true, false, Some, None, is_some, IsTrue, refl, ap, ◌∙◌, arith, codes}
use Rattle.std.specs.Prelude.{nat_eq}
use Rattle.std.specs.List.{AllByRecursion, list_any, list_all, position_from}
use Rattle.std.specs.Option.{option_and_then}
use Rattle.std.proofs.lemmas.Bool.{cases_Bool, or_parts, and_parts, not-true}
use Rattle.sqlite.specs.Schema.{Schema}
use Rattle.sqlite.specs.Table.{Table}
use Rattle.sqlite.specs.Does.{lacks_sequence}
use Rattle.sqlite.specs.Effect.{Database, IsDatabase}
use Rattle.sqlite_schema.specs.Names.{same_name, table_named}
use Rattle.role_tables.specs.TableByName.{is_referred}
use Rattle.role_tables.specs.OfficeTables.{StoredTable, Meta, Names, Pairs, Grants, Sets, Locks, making, is_wanted, row_tables, tables_of}
use Rattle.role_tables.specs.SchemaTests.{is_free, are_free, may_count, may_create}
use Rattle.role_tables.specs.private.CreationSteps.{IsStage, no_table, no_rows}

not_placed : {A : Type 0} (p : A → Bool) (n : ℕ) (xs : List A) → list_any p xs ≡ false → position_from p n xs ≡ None
not_placed p n [] none = refl
not_placed p n (x ∷ xs) none = let both = or_parts (p x) (list_any p xs) none in rw both.0 (not_placed p (n + 1) xs both.1)

-- if one element passes, one is found
placed : {A : Type 0} (p : A → Bool) (n : ℕ) (xs : List A) → list_any p xs ≡ true → (k : ℕ) × (position_from p n xs ≡ Some (n + k)) × ((x : A) × (slice_get xs k ≡ Some x))
placed p n [] some = absurd (cc)
placed p n (x ∷ xs) some = elim (cases_Bool (p x)) [
  | inl here ↦ let e : n + 0 ≡ n = omega arith in (0, rw (here, e) refl, (x, refl))
  | inr there ↦ let more = placed p (n + 1) xs (rw there at some) in let e : n + 1 + more.0 ≡ n + suc more.0 = omega arith in (suc more.0, rw there (more.1 ∙ ap Some e), (more.2.0, more.2.1))
]

pub counts : (schema : Schema) → may_count schema ≡ true → lacks_sequence schema ≡ false
counts schema may = elim (cases_Bool (list_any (λ t. t.is_counted) schema.tables)) [
  | inr plain ↦ rw plain refl
  | inl counted ↦ rw counted (go (placed (λ t. same_name t.name (codes "sqlite_sequence")) 0 schema.tables (rw counted at may)))
]
  where
    go : (k : ℕ) × (table_named schema (codes "sqlite_sequence") ≡ Some (0 + k)) × ((x : Table) × (slice_get schema.tables k ≡ Some x)) → not (is_some (option_and_then (slice_get schema.tables) (table_named schema (codes "sqlite_sequence")))) ≡ false
    go (k, is, got) = let first : 0 + k ≡ k = omega arith in rw (is ∙ ap Some first, got.1) refl

pub free_parts : (schema : Schema) (name : List ℕ) → is_free schema name ≡ true → (table_named schema name ≡ None) × (is_referred schema name ≡ false)
free_parts schema name free =
    let both = and_parts (not (list_any (λ t. same_name t.name name) schema.tables)) (not (is_referred schema name)) free in
    (not_placed (λ t. same_name t.name name) 0 schema.tables (not-true _ both.0), not-true _ both.1)

-- each of five tests is passed if all are
five_parts : (a b c d e : Bool) → (a && (b && (c && (d && (e && true))))) ≡ true → (a ≡ true) × (b ≡ true) × (c ≡ true) × (d ≡ true) × (e ≡ true)
five_parts a b c d e all =
    let one = and_parts a _ all in let two = and_parts b _ one.1 in let three = and_parts c _ two.1 in let four = and_parts d _ three.1 in (one.0, two.0, three.0, four.0, (and_parts e true four.1).0)

module _ (test : StoredTable → Bool) where
  -- if all tables of a version pass the test, each of them does
  pub each_of : (version : ℕ) → (version ≡ 1) ⊎ (version ≡ 2) → list_all test (tables_of version) ≡ true → (table : StoredTable) → IsTrue (is_wanted version table) → test table ≡ true
  each_of version (inl one) all table wanted = first (rw one at all) table (rw one at wanted)
    where
      first : list_all test (tables_of 1) ≡ true → (table : StoredTable) → IsTrue (is_wanted 1 table) → test table ≡ true
      first all table wanted = go table wanted (five_parts (test Meta) (test Names) (test Pairs) (test Grants) (test Sets) all)
        where
          go : (table : StoredTable) → IsTrue (is_wanted 1 table) → (test Meta ≡ true) × (test Names ≡ true) × (test Pairs ≡ true) × (test Grants ≡ true) × (test Sets ≡ true) → test table ≡ true
          go Meta w h = h.0
          go Names w h = h.1
          go Pairs w h = h.2
          go Grants w h = h.3
          go Sets w h = h.4
          go Locks w h = absurd (let e = w in cc)
  each_of version (inr two) all table wanted = second (rw two at all) table
    where
      second : list_all test (tables_of 2) ≡ true → (table : StoredTable) → test table ≡ true
      second all table =
          let one = and_parts (test Meta) _ all in let rest = five_parts (test Names) (test Pairs) (test Grants) (test Sets) (test Locks) one.1 in go table one.0 rest
        where
          go : (table : StoredTable) → test Meta ≡ true → (test Names ≡ true) × (test Pairs ≡ true) × (test Grants ≡ true) × (test Sets ≡ true) × (test Locks ≡ true) → test table ≡ true
          go Meta m h = m
          go Names m h = h.0
          go Pairs m h = h.1
          go Grants m h = h.2
          go Sets m h = h.3
          go Locks m h = h.4

  -- and all pass it if each does
  pub all_of : (version : ℕ) → (version ≡ 1) ⊎ (version ≡ 2) → ((table : StoredTable) → IsTrue (is_wanted version table) → test table ≡ true) → list_all test (tables_of version) ≡ true
  all_of version (inl one) each = rw one (let e = rw one at each in rw (e Meta refl, e Names refl, e Pairs refl, e Grants refl, e Sets refl) refl)
  all_of version (inr two) each = rw two (let e = rw two at each in rw (e Meta refl, e Names refl, e Pairs refl, e Grants refl, e Sets refl, e Locks refl) refl)

-- a test of all tables of a version is a test of meta_row and of those that hold rows of the state
pub with_rows : (test : StoredTable → Bool) (version : ℕ) → list_all test (tables_of version) ≡ (test Meta && list_all test (row_tables version))
with_rows test version = elim (cases_Bool (nat_eq version 1)) [ inl first ↦ rw first refl | inr other ↦ rw other refl ]

-- what holds of each table of a version except meta_row holds of those that hold rows of the state
pub rows_wanted : (P : StoredTable → Type 0) (version : ℕ) → (version ≡ 1) ⊎ (version ≡ 2) → ((table : StoredTable) → IsTrue (is_wanted version table) → table ≢ Meta → P table) → AllByRecursion P (row_tables version)
rows_wanted P version (inl one) each = rw one (let e = rw one at each in (e Names refl (λ is. cc), (e Pairs refl (λ is. cc), (e Grants refl (λ is. cc), (e Sets refl (λ is. cc), tt)))))
rows_wanted P version (inr two) each = rw two (let e = rw two at each in (e Names refl (λ is. cc), (e Pairs refl (λ is. cc), (e Grants refl (λ is. cc), (e Sets refl (λ is. cc), (e Locks refl (λ is. cc), tt))))))

pub first_stage : (version : ℕ) (db : Database) → (version ≡ 1) ⊎ (version ≡ 2) → may_create version db.schema ≡ true → IsDatabase db → IsStage version no_table db no_rows
first_stage version db known may sound =
    let both = and_parts (are_free db.schema (tables_of version)) (may_count db.schema) may in
    let free = λ (table : StoredTable) (wanted : IsTrue (is_wanted version table)). free_parts db.schema (making table).name (each_of (λ table. is_free db.schema (making table).name) version known both.0 table wanted) in
    record {
      held = record { sound = sound; tables = λ table is. absurd (let e = is in cc); solid = λ table. tt };
      unnamed = λ table wanted _. (free table wanted).0;
      unreferred = λ table wanted. (free table wanted).1;
      counted = counts db.schema both.1;
    }
