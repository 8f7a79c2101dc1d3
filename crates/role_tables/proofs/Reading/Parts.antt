-- What is gathered of one table after another.
use Rattle.std.proofs.Common.{◌+◌, ◌<◌, length, get_or, take, ◌≡◌, inl, ℕ, List, [], ◌∷◌, ◌++◌, map, Bool, true, false, ◌&&◌, Option, Some, None, IsSome, IsTrue, refl, sym, ap, subst, ◌∙◌, arith}
use Rattle.std.specs.List.{list_all}
use Rattle.std.specs.List.Sorted.{IsPermutation}
use Rattle.std.proofs.lemmas.Bool.{and_parts}
use Rattle.std.specs.List.{flat_map}
use Rattle.std.proofs.lemmas.List.{append-nil, append_assoc, take_more}
use Rattle.std.proofs.lemmas.List.Folds.{list_all-append}
use Rattle.std.proofs.lemmas.List.Sorted.{IsPermutation-map, IsPermutation-append, IsPermutation-refl}
use Rattle.rbac_sets.specs.declared.row.Row as stored
use Rattle.sqlite.specs.Order.{Row}
use Rattle.sqlite.specs.Effect.{Database}
use Rattle.sqlite.specs.State.{State, HasCleanDisk, IsUnchanged, KeepsCommit, Survives}
use Rattle.sqlite.proofs.InsideLemmas.{keeps_then, unchanged_keeps}
use Rattle.sqlite.proofs.Callers.{unchanged_then}
use Rattle.sqlite.proofs.StateLemmas.{survives_then}
use Rattle.role_tables.specs.OfficeTables.{StoredTable}
use Rattle.role_tables.specs.TableContents.{TableContents, is_well_typed, has_names, row_in, contents_of}
use Rattle.role_tables.specs.OpeningChecks.{rows_at}
use Rattle.role_tables.specs.declared.gathering.Gathering.{Gathering}
use Rattle.role_tables.specs.private.GatheredRows.{GathersTable, GathersPart, GathersTables, AreThere, HasTables, well_typed_at, named_at, IsRead}
use Rattle.role_tables.proofs.OfficeTables.Lists.{all_at}
use Rattle.role_tables.proofs.Reading.MetaRows.{list_all-IsPermutation}

pub part_of : (found : TableContents) (kind : StoredTable) (a b : Gathering) → GathersTable (found kind) kind a b → GathersPart (well_typed_at kind found) (named_at kind found) (rows_at kind found) a b
part_of found kind a b it = go (found kind) it.1
  where
    so : List Row → Gathering → Gathering → Type 0
    so rows a b = GathersPart (list_all (is_well_typed kind) rows) (list_all (has_names kind) rows) (map (row_in kind) rows) a b

    go : (o : Option (List Row)) → IsRead o it.0 → so (elim o [ Some rows ↦ rows | None ↦ [] ]) a b
    go None read = absurd read
    go (Some rows) read = record {
      whole = it.2.whole ∙ ap (λ o. a.is_well_typed && o) (sym (list_all-IsPermutation (is_well_typed kind) rows it.0 read));
      named = λ whole. it.2.named whole ∙ ap (λ o. a.is_named && o) (sym (list_all-IsPermutation (has_names kind) rows it.0 read));
      kept = λ whole named. (map (row_in kind) it.0, IsPermutation-map (row_in kind) rows it.0 read, it.2.rows whole named);
    }

and_assoc : (a b c : Bool) → ((a && b) && c) ≡ (a && (b && c))
and_assoc true b c = refl
and_assoc false b c = refl

and_true : (b : Bool) → b ≡ (b && true)
and_true true = refl
and_true false = refl

pub parts_both : (w v n m : Bool) (r q : List stored.Row) (a b c : Gathering) → GathersPart w n r a b → GathersPart v m q b c → GathersPart (w && v) (n && m) (r ++ q) a c
parts_both w v n m r q a b c one two = record {
  whole = two.whole ∙ ap (λ o. o && v) one.whole ∙ and_assoc a.is_well_typed w v;
  named = λ whole. two.named whole ∙ ap (λ o. o && m) (one.named (was_whole whole)) ∙ and_assoc a.is_named n m;
  kept = λ whole named.
      let first = one.kept (was_whole whole) (was_named whole named) in
      let second = two.kept whole named in (
        first.0 ++ second.0,
        IsPermutation-append r first.0 q second.0 first.1 second.1,
        second.2 ∙ ap (λ l. l ++ second.0) first.2 ∙ append_assoc a.rows.items first.0 second.0,
      );
}
  where
    was_whole : IsTrue c.is_well_typed → IsTrue b.is_well_typed
    was_whole whole = (and_parts b.is_well_typed v (sym two.whole ∙ whole)).0

    was_named : IsTrue c.is_well_typed → IsTrue c.is_named → IsTrue b.is_named
    was_named whole named = (and_parts b.is_named m (sym (two.named whole) ∙ named)).0

pub part_alone : (w n : Bool) (r : List stored.Row) (a b : Gathering) → GathersPart w n r a b → GathersPart (w && true) (n && true) (r ++ []) a b
part_alone w n r a b one = record {
  whole = one.whole ∙ ap (λ o. a.is_well_typed && o) (and_true w);
  named = λ whole. one.named whole ∙ ap (λ o. a.is_named && o) (and_true n);
  kept = λ whole named. let first = one.kept whole named in (first.0, subst (λ l. IsPermutation l first.0) (sym (append-nil r)) first.1, first.2);
}

-- ---- one reading after another, each of which succeeds if W holds

module _ (old mid new : State) (W V : Type 0) (Q : TableContents → Type 0) where
  -- what holds of what is found holds after the first reading, which changes nothing
  pub after_first : IsUnchanged old mid → Q (contents_of old.now) → Q (contents_of mid.now)
  after_first same holds = subst (λ (db : Database). Q (contents_of db)) (sym same.0.now_is) holds

  pub survives_next : Survives old mid (λ _. V → ⊥) → (W → V) → (W → Q (contents_of old.now)) → (HasCleanDisk mid → W → IsUnchanged old mid) → Survives mid new (λ _. Q (contents_of mid.now) → ⊥) → Survives old new (λ _. W → ⊥)
  survives_next first weaker there same second =
      survives_then old mid new (λ _. V → ⊥) (λ _. Q (contents_of mid.now) → ⊥) (λ _. W → ⊥) (λ _ db none holds. none (weaker holds)) (λ clean db none holds. none (after_first (same (omega (arith, clean, second.clean)) holds) (there holds))) first second

-- ---- one table more

pub gathers_nothing : (found : TableContents) (a : Gathering) → GathersTables found [] a a
gathers_nothing found a = record { whole = and_true a.is_well_typed; named = λ _. and_true a.is_named; kept = λ _ _. ([], IsPermutation-refl [], sym (append-nil a.rows.items)) }

flat_map_append : {A B : Type 0} (f : A → List B) (xs ys : List A) → flat_map f (xs ++ ys) ≡ flat_map f xs ++ flat_map f ys
flat_map_append f [] ys = refl
flat_map_append f (x ∷ xs) ys = ap (λ l. f x ++ l) (flat_map_append f xs ys) ∙ sym (append_assoc (f x) (flat_map f xs) (flat_map f ys))

gathers_last : (found : TableContents) (tables : List StoredTable) (table : StoredTable) (a b c : Gathering) → GathersTables found tables a b → GathersTable (found table) table b c → GathersTables found (tables ++ table ∷ []) a c
gathers_last found tables table a b c one two =
    let last = part_alone _ _ _ b c (part_of found table b c two) in
    let all = parts_both _ _ _ _ _ _ a b c one last in record {
      whole = all.whole ∙ ap (λ o. a.is_well_typed && o) (sym (list_all-append (λ table. well_typed_at table found) tables (table ∷ [])));
      named = λ whole. all.named whole ∙ ap (λ o. a.is_named && o) (sym (list_all-append (λ table. named_at table found) tables (table ∷ [])));
      kept = λ whole named. let more = all.kept whole named in (more.0, subst (λ l. IsPermutation l more.0) (sym (flat_map_append (λ table. rows_at table found) tables (table ∷ []))) more.1, more.2);
    }

there_at : (found : TableContents) (tables : List StoredTable) (i : ℕ) (table : StoredTable) → i < length tables → table ≡ get_or tables i table → AreThere found tables → IsSome (found table)
there_at found tables i table low is all = subst (λ t. IsSome (found t)) (sym is) (all_at (λ t. IsSome (found t)) tables i table low all)

-- the next table of the list is read
module _ (old mid new : State) (tables : List StoredTable) (i : ℕ) (table : StoredTable) (low : i < length tables) (is : table ≡ get_or tables i table) (start before after : Gathering)
    (first : Survives old mid (λ _. HasTables old tables → ⊥)) (gathered : HasCleanDisk mid → HasTables old tables → GathersTables (contents_of old.now) (take i tables) start before × IsUnchanged old mid)
    (second : Survives mid new (λ _. IsSome (contents_of mid.now table) → ⊥)) where
  pub next_survives : Survives old new (λ _. HasTables old tables → ⊥)
  next_survives = survives_next old mid new (HasTables old tables) (HasTables old tables) (λ found. IsSome (found table)) first (λ all. all) (λ all. there_at (contents_of old.now) tables i table low is all.1)
      (λ clean all. (gathered clean all).1) second

  was : HasCleanDisk new → HasCleanDisk mid
  was clean = omega (arith, clean, second.clean)

  still_there : HasCleanDisk new → HasTables old tables → IsSome (contents_of mid.now table)
  still_there clean all = after_first old mid new (HasTables old tables) (Unit {0}) (λ found. IsSome (found table)) (gathered (was clean) all).1 (there_at (contents_of old.now) tables i table low is all.1)

  pub next_kept : HasCleanDisk new → HasTables old tables → (HasCleanDisk new → IsSome (contents_of mid.now table) → KeepsCommit mid new) → KeepsCommit old new
  next_kept clean all kept = keeps_then old mid new (unchanged_keeps old mid (inl (gathered (was clean) all).1)) (kept clean (still_there clean all))

  pub next_gathered : HasCleanDisk new → HasTables old tables → (HasCleanDisk new → IsSome (contents_of mid.now table) → GathersTable (contents_of mid.now table) table before after × IsUnchanged mid new)
      → GathersTables (contents_of old.now) (take (i + 1) tables) start after × IsUnchanged old new
  next_gathered clean all read =
      let one = gathered (was clean) all in
      let two = read clean (still_there clean all) in
      let here : GathersTable (contents_of old.now table) table before after = subst (λ (db : Database). GathersTable (contents_of db table) table before after) one.1.0.now_is two.0 in (
        subst (λ l. GathersTables (contents_of old.now) l start after) (sym (take_more tables i table low ∙ ap (λ x. take i tables ++ x ∷ []) (sym is))) (gathers_last (contents_of old.now) (take i tables) table start before after one.0 here),
        unchanged_then old mid new one.1 two.1,
      )
