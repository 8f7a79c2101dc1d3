-- Reading the state: meta_row, then the other tables, of the database as it was at the start.
use Rattle.std.proofs.Common.{◌≡◌, ◌⊎◌, inl, ℕ, [], true, ◌&&◌, Result, Ok, Err, IfOk, IfErr, IsTrue, sym, subst, arith}
use Rattle.rbac_sets.specs.declared.refusal.Refusal.{Refusal}
use Rattle.sqlite.specs.Effect.{Database}
use Rattle.sqlite.specs.State.{State, HasCleanDisk, IsUnchanged, KeepsCommit, Survives}
use Rattle.sqlite.proofs.InsideLemmas.{keeps_then, unchanged_keeps}
use Rattle.sqlite.proofs.Callers.{unchanged_then}
use Rattle.sqlite.proofs.StateLemmas.{survives_then}
use Rattle.sqlite_schema.specs.declared.schema.Schema.{Schema}
use Rattle.admin_mgr.specs.RbacState.{RbacState}
use Rattle.admin_mgr.specs.RowChecks.{IsStateOf}
use Rattle.role_tables.specs.OfficeTables.{Meta, row_tables}
use Rattle.role_tables.specs.TableContents.{contents_of}
use Rattle.role_tables.specs.OpeningChecks.{values, HasCommonTables, RefusesContents, IsStateOfContents}
use Rattle.role_tables.specs.private.MetaRows.{Sees}
use Rattle.role_tables.specs.declared.meta_rows.Metas.{Metas}
use Rattle.role_tables.specs.declared.gathering.Gathering.{Gathering}
use Rattle.role_tables.specs.private.GatheredRows.{AreThere, GathersTables, HasTables, IsVersionSeen, RefusesGathering}
use Rattle.role_tables.proofs.Reading.Judging.{seen_known, reached, tables_there, rows_refused, state_found}

pub if_ok : {T E : Type 0} (r : Result T E) (P Q : T → Type 0) → ((x : T) → P x → Q x) → IfOk r P → IfOk r Q
if_ok (Err e) P Q f p = tt
if_ok (Ok x) P Q f p = f x p

pub if_err : {T E : Type 0} (r : Result T E) (P Q : E → Type 0) → ((x : E) → P x → Q x) → IfErr r P → IfErr r Q
if_err (Ok x) P Q f p = tt
if_err (Err e) P Q f p = f e p

module _ (old mid : State) (metas : Metas) (five : HasCommonTables (contents_of old.now)) (seen : HasCleanDisk mid → Sees (values (contents_of old.now) Meta) metas × IsUnchanged old mid) where
  module _ (version : ℕ) (schema : Schema) (is : schema ≡ mid.now.schema) (told : IsVersionSeen metas schema version) where
    known : (version ≡ 1) ⊎ (version ≡ 2)
    known = seen_known metas version schema told

    before : HasCleanDisk mid → IsVersionSeen metas old.now.schema version
    before clean = subst (λ (db : Database). IsVersionSeen metas db.schema version) (seen clean).1.0.now_is (subst (λ schema. IsVersionSeen metas schema version) is told)

    there : HasCleanDisk mid → HasTables mid (row_tables version)
    there clean = let s = seen clean in (s.1.0.is_open, subst (λ (db : Database). AreThere (contents_of db) (row_tables version)) (sym s.1.0.now_is) (tables_there old.now metas five s.0 version (before clean)))

    pub read_survives : (new : State) → Survives old mid (λ _. ⊥) → Survives mid new (λ _. HasTables mid (row_tables version) → ⊥) → Survives old new (λ _. ⊥)
    read_survives new one two =
        survives_then old mid new (λ _. ⊥) (λ _. HasTables mid (row_tables version) → ⊥) (λ _. ⊥) (λ _ db none. none) (λ clean db none. none (there (omega (arith, clean, two.clean)))) one two

    pub read_kept : (new : State) → HasCleanDisk new → Survives mid new (λ _. HasTables mid (row_tables version) → ⊥) → (HasCleanDisk new → HasTables mid (row_tables version) → KeepsCommit mid new) → KeepsCommit old new
    read_kept new clean two kept =
        let was : HasCleanDisk mid = omega (arith, clean, two.clean) in
        keeps_then old mid new (unchanged_keeps old mid (inl (seen was).1)) (kept clean (there was))

    module _ (new : State) (start all : Gathering) (begins : start.is_well_typed ≡ (metas.is_well_typed && metas.is_one)) (named : start.is_named ≡ true) (empty : start.rows.items ≡ [])
        (kept : Survives mid new (λ _. HasTables mid (row_tables version) → ⊥)) (gathered : HasCleanDisk new → HasTables mid (row_tables version) → GathersTables (contents_of mid.now) (row_tables version) start all × IsUnchanged mid new) where
      whole : HasCleanDisk new → GathersTables (contents_of old.now) (row_tables version) start all × IsUnchanged old new
      whole clean =
          let was : HasCleanDisk mid = omega (arith, clean, kept.clean) in
          let same = (seen was).1 in
          let got = gathered clean (there was) in
          (subst (λ (db : Database). GathersTables (contents_of db) (row_tables version) start all) same.0.now_is got.0, unchanged_then old mid new same got.1)

      pub reads_state : HasCleanDisk new → (S : RbacState) → IsTrue all.is_well_typed → IsTrue all.is_named → IsStateOf version all.rows.items S → IsStateOfContents (contents_of old.now) S × IsUnchanged old new
      reads_state clean S is_well_typed is_named made =
          let was : HasCleanDisk mid = omega (arith, clean, kept.clean) in
          let r = reached old.now metas five (seen was).0 version (before was) in
          let got = whole clean in
          (state_found (contents_of old.now) metas (seen was).0 r.0 version known r.1 start all begins named empty got.0 S is_well_typed is_named made, got.1)

      pub reads_refusal : HasCleanDisk new → (refusal : Refusal) → RefusesGathering version all refusal → RefusesContents (contents_of old.now) refusal
      reads_refusal clean refusal bad =
          let was : HasCleanDisk mid = omega (arith, clean, kept.clean) in
          let r = reached old.now metas five (seen was).0 version (before was) in
          rows_refused (contents_of old.now) metas (seen was).0 r.0 version known r.1 start all begins named empty (whole clean).0 refusal bad
