-- What was found is judged in the order of OpeningChecks.antt.
use Rattle.std.proofs.Common.{◌≡◌, ◌⊎◌, inl, inr, ℕ, zero, suc, ℤ, List, [], ◌∷◌, ◌++◌, Bool, true, false, ◌&&◌, Option, Some, None, is_none, IsTrue, refl, sym, ap, subst, ◌∙◌, arith}
use Rattle.std.specs.List.{Contains, list_all, list_any}
use Rattle.std.specs.List.Sorted.{IsPermutation}
use Rattle.std.proofs.lemmas.Bool.{cases_Bool, and_parts}
use Rattle.rbac_sets.specs.declared.refusal.Refusal.{Refusal}
use Rattle.rbac_sets.specs.declared.refusal.Refusal.TheVariants.{Memory, Store, NotAnOffice, Damaged, TooMany}
use Rattle.sqlite.specs.Order.{Row}
use Rattle.sqlite.specs.Effect.{Database}
use Rattle.admin_mgr.specs.RbacState.{RbacState}
use Rattle.admin_mgr.specs.RowChecks.{RefusesRows, IsStateOf}
use Rattle.role_tables.specs.OfficeTables.{StoredTable, Meta, Names, Pairs, Grants, Sets, Locks, is_wanted, row_tables}
use Rattle.role_tables.specs.TableContents.{TableContents, has_names, contents_of}
use Rattle.role_tables.specs.private.NamedTables.{is_there}
use Rattle.role_tables.specs.OpeningChecks.{IsOfVersion2, values, versions, is_number, is_known_version, HasCommonTables, IsOffice, HasKnownVersions, version_in, HasLocks, HasKnownOffice, AreWellTyped, HaveValidNames, rows_in_all, office_rows, RefusesContents, IsStateOfContents}
use Rattle.role_tables.specs.Migration.{RefusesMigration}
use Rattle.role_tables.specs.private.MetaRows.{IsUnknownOf, Sees}
use Rattle.role_tables.specs.declared.meta_rows.Metas.{Metas}
use Rattle.role_tables.specs.declared.gathering.Gathering.{Gathering}
use Rattle.role_tables.specs.private.GatheredRows.{GathersTables, AreThere, IsVersionSeen, RefusesVersion, RefusesGathering, well_typed_at, named_at}
use Rattle.role_tables.proofs.OfficeTables.Looking.{each_of, all_of, with_rows}
use Rattle.role_tables.proofs.OfficeTables.There.{some_there, there_some}

pub clash : {A : Type 0} (b : Bool) → b ≡ true → b ≡ false → A
clash b yes_it no_it = absurd (let e = sym yes_it ∙ no_it in cc)

-- if all elements pass a test, each of them does
pub passes_each : {A : Type 0} (p : A → Bool) (xs : List A) (x : A) → list_all p xs ≡ true → Contains xs x → p x ≡ true
passes_each p [] x all (k, low, is) = absurd (omega (arith, low))
passes_each p (y ∷ ys) x all (zero, low, is) = subst (λ z. p z ≡ true) is (and_parts (p y) (list_all p ys) all).0
passes_each p (y ∷ ys) x all (suc k, low, is) = passes_each p ys x (and_parts (p y) (list_all p ys) all).1 (k, omega (arith, low), is)

no_some : {A : Type 0} (o : Option A) → is_none o ≡ true → o ≡ None
no_some None h = refl
no_some (Some x) h = absurd (cc)

-- what is refused before the version is known is refused of a migration too
pub refused_early : (found : TableContents) (refusal : Refusal) → (refusal ≡ Memory) ⊎ ((refusal ≡ Store) ⊎ ((refusal ≡ NotAnOffice) × (HasCommonTables found → ⊥))) → RefusesMigration found refusal
refused_early found refusal (inl memory) = inr (inl memory)
refused_early found refusal (inr (inl store)) = inl store
refused_early found refusal (inr (inr none)) = inr (inr (inr (subst (RefusesContents found) (sym none.0) (inl (λ it. none.1 it.tables)), λ second. none.1 second.0.tables)))

-- ---- the version

module _ (db : Database) (metas : Metas) (five : HasCommonTables (contents_of db)) (so : Sees (values (contents_of db) Meta) metas) where
  abbrev found : TableContents
  found = contents_of db

  office : IsTrue metas.is_tagged → IsOffice found
  office tagged = record { tables = five; tagged = sym so.tagged ∙ tagged }

  version_2_in : IsTrue metas.has_version_2 → version_in found ≡ 2
  version_2_in second = let there : list_any (is_number 2) (versions (values found Meta)) ≡ true = sym so.second ∙ second in rw there refl

  version_1_in : metas.has_version_2 ≡ false → version_in found ≡ 1
  version_1_in first = let none : list_any (is_number 2) (versions (values found Meta)) ≡ false = sym so.second ∙ first in rw none refl

  known : metas.unknown ≡ None → HasKnownVersions found
  known none = subst (IsUnknownOf (versions (values found Meta))) none so.unknown

  pub version_refused : (refusal : Refusal) → RefusesVersion metas db.schema refusal → RefusesContents found refusal
  version_refused refusal (inl no_tag) = subst (RefusesContents found) (sym no_tag.0) (inl (λ it. clash metas.is_tagged (so.tagged ∙ it.tagged) no_tag.1))
  version_refused refusal (inr (inl other)) = subst (RefusesContents found) (sym other.1) (office other.2, subst (IsUnknownOf (versions (values found Meta))) other.3 so.unknown)
  version_refused refusal (inr (inr bare)) = subst (RefusesContents found) (sym bare.0) (inr (office bare.1, known bare.2, unlocked))
    where
      unlocked : HasLocks found → ⊥
      unlocked (inl one) = let two = version_2_in bare.3 in omega (arith, one, two)
      unlocked (inr there) = clash (is_there db.schema Locks) (there_some db Locks there) bare.4

  pub reached : (version : ℕ) → IsVersionSeen metas db.schema version → HasKnownOffice found × (version_in found ≡ version)
  reached version seen = elim seen.2 [
    | inl first ↦ ((office seen.0, known seen.1, inl (version_1_in first.1)), version_1_in first.1 ∙ sym first.0)
    | inr second ↦ ((office seen.0, known seen.1, inr (some_there db Locks second.2)), version_2_in second.1 ∙ sym second.0)
  ]

  pub tables_there : (version : ℕ) → IsVersionSeen metas db.schema version → AreThere found (row_tables version)
  tables_there version seen = elim seen.2 [
    | inl first ↦ rw first.0 (five Names refl, (five Pairs refl, (five Grants refl, (five Sets refl, tt))))
    | inr second ↦ rw second.0 (five Names refl, (five Pairs refl, (five Grants refl, (five Sets refl, (some_there db Locks second.2, tt)))))
  ]

  -- an office of version 2 is recognized, and no other is
  pub version_2_seen : (metas.is_tagged && (is_none metas.unknown && metas.has_version_2)) ≡ true → IsOfVersion2 found
  version_2_seen all =
      let one = and_parts metas.is_tagged _ all in
      let two = and_parts (is_none metas.unknown) metas.has_version_2 one.1 in
      (office one.0, known (no_some metas.unknown two.0), version_2_in two.1)

  pub version_2_missed : (metas.is_tagged && (is_none metas.unknown && metas.has_version_2)) ≡ false → IsOfVersion2 found → ⊥
  version_2_missed none (it, versions_known, two) =
      let tagged : metas.is_tagged ≡ true = so.tagged ∙ it.tagged in
      let second : metas.has_version_2 ≡ true = so.second ∙ is_second two in
      clash (metas.is_tagged && (is_none metas.unknown && metas.has_version_2)) (rw (tagged, no_unknown metas.unknown so.unknown versions_known, second) refl) none
    where
      is_second : version_in found ≡ 2 → list_any (is_number 2) (versions (values found Meta)) ≡ true
      is_second two = elim (cases_Bool (list_any (is_number 2) (versions (values found Meta)))) [ inl there ↦ there | inr away ↦ absurd (let one : version_in found ≡ 1 = rw away refl in omega (arith, one, two)) ]

      no_unknown : (o : Option ℤ) → IsUnknownOf (versions (values found Meta)) o → HasKnownVersions found → o ≡ None
      no_unknown None h all = refl
      no_unknown (Some n) h all = clash (is_known_version n) (passes_each is_known_version (versions (values found Meta)) n all h.there) h.unknown

pub seen_known : (metas : Metas) (version : ℕ) (schema : _) → IsVersionSeen metas schema version → (version ≡ 1) ⊎ (version ≡ 2)
seen_known metas version schema seen = elim seen.2 [ inl first ↦ inl first.0 | inr second ↦ inr second.0 ]

-- ---- the rows

all_true : (rows : List Row) → list_all (has_names Meta) rows ≡ true
all_true [] = refl
all_true (row ∷ rows) = all_true rows

both_true : (a b : Bool) → a ≡ true → b ≡ true → (a && b) ≡ true
both_true a b x y = rw (x, y) refl

-- if meta_row and the tables with rows of the state pass a test, each table of the version does
each_row_table : (test : StoredTable → Bool) (version : ℕ) → (version ≡ 1) ⊎ (version ≡ 2) → list_all test (row_tables version) ≡ true → test Meta ≡ true → (table : StoredTable) → IsTrue (is_wanted version table) → test table ≡ true
each_row_table test version known all first = each_of test version known (with_rows test version ∙ both_true (test Meta) (list_all test (row_tables version)) first all)

all_row_tables : (test : StoredTable → Bool) (version : ℕ) → (version ≡ 1) ⊎ (version ≡ 2) → ((table : StoredTable) → IsTrue (is_wanted version table) → test table ≡ true) → list_all test (row_tables version) ≡ true
all_row_tables test version known each = (and_parts (test Meta) (list_all test (row_tables version)) (sym (with_rows test version) ∙ all_of test version known each)).1

module _ (found : TableContents) (metas : Metas) (so : Sees (values found Meta) metas) (is_reached : HasKnownOffice found) (version : ℕ) (known : (version ≡ 1) ⊎ (version ≡ 2)) (is : version_in found ≡ version) (start all : Gathering)
    (begins : start.is_well_typed ≡ (metas.is_well_typed && metas.is_one)) (named : start.is_named ≡ true) (empty : start.rows.items ≡ []) (gathered : GathersTables found (row_tables version) start all) where
  whole_if : IsTrue all.is_well_typed → AreWellTyped found
  whole_if whole =
      let both = and_parts start.is_well_typed (list_all (λ table. well_typed_at table found) (row_tables version)) (sym gathered.whole ∙ whole) in
      let first = and_parts metas.is_well_typed metas.is_one (sym begins ∙ both.0) in record {
        rows = λ kind w. each_row_table (λ table. well_typed_at table found) version known both.1 (sym so.whole ∙ first.0) kind (subst (λ v. IsTrue (is_wanted v kind)) is w);
        one = sym so.one ∙ first.1;
      }

  whole_only : AreWellTyped found → all.is_well_typed ≡ true
  whole_only it =
      gathered.whole ∙ both_true start.is_well_typed (list_all (λ table. well_typed_at table found) (row_tables version)) (begins ∙ both_true metas.is_well_typed metas.is_one (so.whole ∙ it.rows Meta refl) (so.one ∙ it.one))
      (all_row_tables (λ table. well_typed_at table found) version known (λ kind w. it.rows kind (subst (λ v. IsTrue (is_wanted v kind)) (sym is) w)))

  named_if : IsTrue all.is_well_typed → IsTrue all.is_named → HaveValidNames found
  named_if whole names kind w =
      let both = and_parts start.is_named (list_all (λ table. named_at table found) (row_tables version)) (sym (gathered.named whole) ∙ names) in
      each_row_table (λ table. named_at table found) version known both.1 (all_true (values found Meta)) kind (subst (λ v. IsTrue (is_wanted v kind)) is w)

  named_only : IsTrue all.is_well_typed → HaveValidNames found → all.is_named ≡ true
  named_only whole it =
      gathered.named whole ∙ both_true start.is_named (list_all (λ table. named_at table found) (row_tables version)) named (all_row_tables (λ table. named_at table found) version known (λ kind w. it kind (subst (λ v. IsTrue (is_wanted v kind)) (sym is) w)))

  same_rows : IsTrue all.is_well_typed → IsTrue all.is_named → IsPermutation (office_rows found) all.rows.items
  same_rows whole names =
      let kept = gathered.kept whole names in
      let rows_are : all.rows.items ≡ kept.0 = kept.2 ∙ ap (λ l. l ++ kept.0) empty in
      subst (λ l. IsPermutation (office_rows found) l) (sym rows_are) (subst (λ v. IsPermutation (rows_in_all found (row_tables v)) kept.0) (sym is) kept.1)

  pub rows_refused : (refusal : Refusal) → RefusesGathering version all refusal → RefusesContents found refusal
  rows_refused refusal (inl broken) = subst (RefusesContents found) (sym broken.0) (is_reached, inl (refl, λ it. clash all.is_well_typed (whole_only it) broken.1))
  rows_refused refusal (inr (inl nameless)) = subst (RefusesContents found) (sym nameless.0) (is_reached, inr (inl (refl, whole_if nameless.1, λ it. clash all.is_named (named_only nameless.1 it) nameless.2)))
  rows_refused refusal (inr (inr bad)) = go refusal (subst (λ v. RefusesRows v all.rows.items refusal) (sym is) bad.2)
    where
      go : (refusal : Refusal) → RefusesRows (version_in found) all.rows.items refusal → RefusesContents found refusal
      go Memory h = tt
      go (Damaged check) h = (is_reached, inr (inr (whole_if bad.0, named_if bad.0 bad.1, (all.rows.items, same_rows bad.0 bad.1, h))))
      go (TooMany kind) h = (is_reached, whole_if bad.0, named_if bad.0 bad.1, (all.rows.items, same_rows bad.0 bad.1, h))
      go _ h = absurd h.1

  pub state_found : (S : RbacState) → IsTrue all.is_well_typed → IsTrue all.is_named → IsStateOf version all.rows.items S → IsStateOfContents found S
  state_found S whole names made = record {
    reached = is_reached;
    whole = whole_if whole;
    named = named_if whole names;
    rows = all.rows.items;
    same = same_rows whole names;
    state = subst (λ v. IsStateOf v all.rows.items S) (sym is) made;
  }
