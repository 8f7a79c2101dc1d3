-- One more table is created, and the others stay as they were.
use Rattle.std.proofs.Common.{◌<◌, take, get_or, ◌≡◌, ◌⊎◌, inl, inr, ℕ, ◌==◌, ◌+◌, ◌++◌, List, [], ◌∷◌, length, map, not, ◌||◌, slice_get, Bool, true, false, Option, Some, None, is_some, IsTrue, Ok, refl, sym, ap, subst, ◌∙◌, arith, codes}
use Rattle.std.specs.List.{list_any, position_from}
use Rattle.std.specs.Option.{option_and_then}
use Rattle.std.proofs.lemmas.Bool.{cases_Bool, or_parts}
use Rattle.sqlite.specs.Schema.{Schema}
use Rattle.sqlite.specs.Table.{Table}
use Rattle.sqlite.specs.Change.{created, next_tree}
use Rattle.sqlite.specs.Does.{lacks_sequence}
use Rattle.sqlite.specs.Tree.{IsTable}
use Rattle.sqlite.specs.State.{State, Executes}
use Rattle.sqlite_schema.specs.Names.{same_name, table_named}
use Rattle.sqlite_tied.specs.Compute.{everything}
use Rattle.sqlite_rules.specs.Lists.{Has}
use Rattle.sqlite_rules.proofs.ListLemmas.{has_got, has_either}
use Rattle.sqlite_catalog.proofs.StepLemmas.{table_below}
use Rattle.sqlite_trees.proofs.ListLemmas.{all-slice_get}
use Rattle.role_tables.specs.TableByName.{IsAlone, HoldsRows, HaveIntIds, cells_at, is_referred, refers_to}
use Rattle.std.specs.List.Sorted.{IsPermutation}
use Rattle.role_tables.specs.private.CreationSteps.{Creates, with_table, with_tables, IsStage, AreNew, StageAfter}
use Rattle.role_tables.specs.OfficeTables.{StoredTable, Meta, Names, Pairs, Grants, Sets, Locks, making, made, places, Rows, code, is_wanted}
use Rattle.role_tables.specs.private.Texts.{create_text}
use Rattle.role_tables.proofs.OfficeTables.Lists.{found_first, none_last, got_first, any_last, any_same}
use Rattle.std.proofs.lemmas.List.{take_more, take_all}
use Rattle.role_tables.proofs.OfficeTables.Changes.{same_code}
use Rattle.role_tables.proofs.Meanings.CreatedTables.{creates_among}
use Rattle.role_tables.proofs.OfficeTables.Making.{create_is, holds_created}

-- the names of the tables differ
names_differ : (a b : StoredTable) → (code a == code b) ≡ false → same_name (making b).name (making a).name ≡ false
unfolding everything
names_differ Meta Meta differ = absurd (cc)
names_differ Meta Names differ = refl
names_differ Meta Pairs differ = refl
names_differ Meta Grants differ = refl
names_differ Meta Sets differ = refl
names_differ Meta Locks differ = refl
names_differ Names Meta differ = refl
names_differ Names Names differ = absurd (cc)
names_differ Names Pairs differ = refl
names_differ Names Grants differ = refl
names_differ Names Sets differ = refl
names_differ Names Locks differ = refl
names_differ Pairs Meta differ = refl
names_differ Pairs Names differ = refl
names_differ Pairs Pairs differ = absurd (cc)
names_differ Pairs Grants differ = refl
names_differ Pairs Sets differ = refl
names_differ Pairs Locks differ = refl
names_differ Grants Meta differ = refl
names_differ Grants Names differ = refl
names_differ Grants Pairs differ = refl
names_differ Grants Grants differ = absurd (cc)
names_differ Grants Sets differ = refl
names_differ Grants Locks differ = refl
names_differ Sets Meta differ = refl
names_differ Sets Names differ = refl
names_differ Sets Pairs differ = refl
names_differ Sets Grants differ = refl
names_differ Sets Sets differ = absurd (cc)
names_differ Sets Locks differ = refl
names_differ Locks Meta differ = refl
names_differ Locks Names differ = refl
names_differ Locks Pairs differ = refl
names_differ Locks Grants differ = refl
names_differ Locks Sets differ = refl
names_differ Locks Locks differ = absurd (cc)

-- the table of the rowid counts is still found
still_counted : (schema : Schema) (table : Table) → table.is_counted ≡ false → lacks_sequence schema ≡ false → lacks_sequence (created schema table) ≡ false
still_counted schema table plain none = elim (cases_Bool (list_any (λ t. t.is_counted) schema.tables)) [
  | inr no_counter ↦ rw (any_last (λ t. t.is_counted) schema.tables new no_counter plain) refl
  | inl counter ↦ rw (any_same (λ t. t.is_counted) schema.tables new plain, counter) (go (table_named schema (codes "sqlite_sequence")) refl (rw counter at none))
]
  where
    new : Table
    new = record table { tree = next_tree schema }

    later : (k : ℕ) (o : Option Table) → slice_get schema.tables k ≡ o → not (is_some o) ≡ false → not (is_some (slice_get (schema.tables ++ new ∷ []) k)) ≡ false
    later k None got h = absurd (cc)
    later k (Some t) got h = rw (got_first schema.tables (new ∷ []) k t got) refl

    go : (o : Option ℕ) → table_named schema (codes "sqlite_sequence") ≡ o → not (is_some (option_and_then (slice_get schema.tables) (table_named schema (codes "sqlite_sequence")))) ≡ false
        → not (is_some (option_and_then (slice_get (schema.tables ++ new ∷ [])) (position_from (λ t. same_name t.name (codes "sqlite_sequence")) 0 (schema.tables ++ new ∷ [])))) ≡ false
    go None is h = absurd (let e = rw is at h in cc)
    go (Some k) is h = rw (found_first (λ t. same_name t.name (codes "sqlite_sequence")) 0 schema.tables (new ∷ []) k is) (later k (slice_get schema.tables k) refl (rw is at h))

-- the table of one kind is created, and those created before stay
module _ (version : ℕ) (want : StoredTable → Bool) (rows : Rows) (kind : StoredTable) (wanted : IsTrue (is_wanted version kind)) (fresh : want kind ≡ false) (none : rows kind ≡ []) (old new : State)
    (stage : IsStage version want old.now rows) (c : Creates old.now.schema (made kind 0) old new) where
  abbrev schema : Schema
  schema = old.now.schema

  abbrev added : Table
  added = made kind (next_tree schema)

  abbrev all : List Table
  all = schema.tables ++ added ∷ []

  -- a table is one of those before, whose trees are lower, or the new one
  lone : (t : Table) → Has all t → Has schema.tables t ⊎ (t ≡ added)
  lone t h = elim (has_either schema.tables (added ∷ []) t h) [
    | inl before ↦ inl before
    | inr (inl new_one) ↦ inr new_one
    | inr (inr none) ↦ absurd none
  ]

  added_alone : (t : Table) → Has all t → t.tree ≡ next_tree schema → t ≡ added
  added_alone t h e = elim (lone t h) [ inl before ↦ absurd (omega (arith, table_below schema t before, e)) | inr new_one ↦ new_one ]

  old_alone : (u : Table) → Has schema.tables u → IsAlone schema u → (t : Table) → Has all t → t.tree ≡ u.tree → t ≡ u
  old_alone u known alone t h e = elim (lone t h) [
    | inl before ↦ alone t before e
    | inr new_one ↦ absurd (omega (arith, table_below schema u known, sym e ∙ ap (λ (v : Table). v.tree) new_one))
  ]

  unreferred_next : (k : StoredTable) → is_referred schema (making k).name ≡ false → list_any (refers_to (making k).name) all ≡ false
  unreferred_next k before = any_last (refers_to (making k).name) schema.tables added before refl

  kept : (k : StoredTable) → IsTrue (want k) → HoldsRows new.now (making k).name (made k) (places k) (rows k)
  kept k is =
      let table = stage.held.tables k is in
      let same = all-slice_get (λ t. new.now.trees t.tree ≡ old.now.trees t.tree) schema.tables table.at (made k table.tree) table.is_named.1 c.others in
      record {
        at = table.at;
        tree = table.tree;
        is_named = subst (λ (s : Schema). (table_named s (making k).name ≡ Some table.at) × (slice_get s.tables table.at ≡ Some (made k table.tree))) (sym c.schema_is)
            (found_first (λ t. same_name t.name (making k).name) 0 schema.tables (added ∷ []) table.at table.is_named.0, got_first schema.tables (added ∷ []) table.at (made k table.tree) table.is_named.1);
        alone = subst (λ s. IsAlone s (made k table.tree)) (sym c.schema_is) (old_alone (made k table.tree) (has_got schema.tables table.at (made k table.tree) table.is_named.1) table.alone);
        unreferenced = subst (λ s. is_referred s (making k).name ≡ false) (sym c.schema_is) (unreferred_next k table.unreferenced);
        keyed = subst IsTable (sym same) table.keyed;
        int_ids = subst HaveIntIds (sym same) table.int_ids;
        rows_are = subst (λ l. IsPermutation (rows k) (map (cells_at (made k table.tree) (places k)) l)) (sym same) table.rows_are;
      }

  here : HoldsRows new.now (making kind).name (made kind) (places kind) (rows kind)
  here = subst (HoldsRows new.now (making kind).name (made kind) (places kind)) (sym none)
      (holds_created kind old new c (stage.unnamed kind wanted fresh) (subst (λ s. is_referred s (making kind).name ≡ false) (sym c.schema_is) (unreferred_next kind (stage.unreferred kind wanted))) (subst (λ s. IsAlone s added) (sym c.schema_is) added_alone))

  pub stage_next : IsStage version (with_table kind want) new.now rows
  stage_next = record {
    held = record {
      sound = c.sound;
      tables = λ k is. go k (want k) refl is;
      solid = stage.held.solid;
    };
    unnamed = λ k is not_yet. let both = or_parts (want k) (code k == code kind) not_yet in
        subst (λ s. table_named s (making k).name ≡ None) (sym c.schema_is) (none_last (λ t. same_name t.name (making k).name) 0 schema.tables added (stage.unnamed k is both.0) (names_differ k kind both.1));
    unreferred = λ k is. subst (λ s. is_referred s (making k).name ≡ false) (sym c.schema_is) (unreferred_next k (stage.unreferred k is));
    counted = subst (λ s. lacks_sequence s ≡ false) (sym c.schema_is) (still_counted schema (made kind 0) refl stage.counted);
  }
    where
      go : (k : StoredTable) (b : Bool) → want k ≡ b → IsTrue (b || (code k == code kind)) → HoldsRows new.now (making k).name (made k) (places k) (rows k)
      go k true before is = kept k before
      go k false before is = subst (λ j. HoldsRows new.now (making j).name (made j) (places j) (rows j)) (sym (same_code k kind is)) here

pub stage_created : (table : StoredTable) (old new : State) (count : ℕ) → Executes (create_text table) [] old new (Ok count) → new.in_transaction ≡ old.in_transaction → StageAfter old new (table ∷ [])
stage_created table old new count ran mode = record {
  stage = λ version want rows are stage. stage_next version want rows table are.0 are.1 are.2 old new stage
      (creates_among (create_text table) (made table 0) old new count (create_is table) (still_counted old.now.schema (made table 0) refl stage.counted) ran);
  mode = mode;
}

pub stage_none : (s : State) → StageAfter s s []
stage_none s = record { stage = λ version want rows are stage. stage; mode = refl }

new_append : (version : ℕ) (want : StoredTable → Bool) (rows : Rows) (ks ls : List StoredTable) → AreNew version want rows (ks ++ ls) → AreNew version want rows ks × AreNew version (with_tables ks want) rows ls
new_append version want rows [] ls are = (tt, are)
new_append version want rows (k ∷ ks) ls are = let more = new_append version (with_table k want) rows ks ls are.3 in ((are.0, are.1, are.2, more.0), more.1)

with_append : (ks ls : List StoredTable) (want : StoredTable → Bool) → with_tables (ks ++ ls) want ≡ with_tables ls (with_tables ks want)
with_append [] ls want = refl
with_append (k ∷ ks) ls want = with_append ks ls (with_table k want)

pub stage_both : (a b c : State) (ks ls : List StoredTable) → StageAfter a b ks → StageAfter b c ls → StageAfter a c (ks ++ ls)
stage_both a b c ks ls one two = record {
  stage = λ version want rows are stage.
      let parts = new_append version want rows ks ls are in
      subst (λ w. IsStage version w c.now rows) (sym (with_append ks ls want)) (two.stage version (with_tables ks want) rows parts.1 (one.stage version want rows parts.0 stage));
  mode = two.mode ∙ one.mode;
}

-- one table after the other
pub stage_more : (a b c : State) (tables : List StoredTable) (i : ℕ) (table : StoredTable) → i < length tables → table ≡ get_or tables i table → StageAfter a b (take i tables) → StageAfter b c (table ∷ []) → StageAfter a c (take (i + 1) tables)
stage_more a b c tables i table low is one two = subst (StageAfter a c) (sym (take_more tables i table low ∙ ap (λ x. take i tables ++ x ∷ []) (sym is))) (stage_both a b c (take i tables) (table ∷ []) one two)

pub stage_all : (a b : State) (tables : List StoredTable) (i : ℕ) → length tables ≡ i → StageAfter a b (take i tables) → StageAfter a b tables
stage_all a b tables i end h = subst (StageAfter a b) (take_all i tables (omega arith)) h
