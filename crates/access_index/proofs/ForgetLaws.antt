-- What an index that forgets which roles are barred still knows.
use Rattle.std.proofs.Common.{◌≡◌, ℕ, ◌+◌, ◌<◌, ◌≤◌, Bool, false, ◌||◌, List, [], ◌∷◌, length, take, get_or, inl, inr, refl, sym, ◌∙◌, ap, subst}
use Rattle.std.specs.Prelude.{Option, Some, None, IfSome}
use Rattle.std.specs.List.{list_any}
use Rattle.std.specs.Str.{bytes_eq}
use Rattle.std.specs.Map.{update}
use Rattle.std.proofs.lemmas.Bool.{false_from_ne_true}
use Rattle.std.proofs.lemmas.List.{take_all, take_more}
use Rattle.std.proofs.lemmas.List.Folds.{list_any-append}
use Rattle.bit_rows.specs.declared.row.BitRow.{BitRow}
use Rattle.rbac_sets.specs.Sets.{Bytes, same_name}
use Rattle.rbac_sets.specs.NameOrder.{name_total, name_exact}
use Rattle.rbac_sets.proofs.SetLaws.{tie_Decides}
use Rattle.rbac_sets.specs.declared.row.Change.{Change}
use Rattle.admin_mgr.specs.RbacState.{RbacState}
use Rattle.admin_mgr.specs.Changes.{Turns}
use Rattle.access_index.specs.declared.index.AccessIndex.{AccessIndex}
use Rattle.access_index.specs.Index.{Indexes, Keeps, Rows, row_by_set, rows_of}
use Rattle.access_index.specs.private.Barring.{Forgets, can_bar_by, changed_row}
use Rattle.access_index.proofs.BarLaws.{barred_by_turn}
use Rattle.access_index.proofs.IndexLaws.{keeps_forgotten}
use Rattle.bit_tables.proofs.ByName.{same_bytes, updated_here, updated_other}

-- whether one of the changes could bar a role by the set, or no longer bar one
abbrev pub some_bar_by : List Change → Bytes → Bool
some_bar_by changes set = list_any (λ (change : Change). can_bar_by set (changed_row change)) changes

-- nothing is forgotten at first
pub forget_none : (index : AccessIndex) → Forgets index index (some_bar_by [])
forget_none index set = by (row_by_set index set)
  where
    by : (row : Option BitRow) → IfSome row (λ r. (row ≡ Some r) × (false ≡ false))
    by None = tt
    by (Some r) = (refl, refl)

-- what follows for each row that there is
by_row : {A : Type 0} (P Q : A → Type 0) (row : Option A) → ((r : A) → P r → Q r) → IfSome row P → IfSome row Q
by_row P Q None more is = tt
by_row P Q (Some r) more is = more r is

-- a set is forgotten
pub forget_one : (old new : Bytes → Option BitRow) (name : Bytes) → ((other : Bytes) → new other ≡ update bytes_eq old name None other) → (set : Bytes) → IfSome (new set) (λ row. (old set ≡ Some row) × (same_name name set ≡ false))
forget_one old new name changed set = elim (same_bytes set name) [
  | inl same ↦ subst (λ o. IfSome o (λ row. (old set ≡ Some row) × (same_name name set ≡ false))) (sym (ap new same ∙ updated_here old new name None changed)) tt
  | inr differ ↦
      let kept = updated_other old new name None changed set differ in
      let apart = false_from_ne_true (same_name name set) (λ is. differ (sym ((tie_Decides name_total name_exact name set).0 is))) in
      by (new set) (sym kept) apart
]
  where
    by : (row : Option BitRow) → old set ≡ row → same_name name set ≡ false → IfSome row (λ r. (old set ≡ Some r) × (same_name name set ≡ false))
    by None is apart = tt
    by (Some r) is apart = (is, apart)

-- one more change
module _ (index mid new : AccessIndex) (changes : List Change) (i : ℕ) (change : Change) (within : i < length changes) (is : change ≡ get_or changes i change) where
  more_bar : (set : Bytes) → can_bar_by set (changed_row change) ≡ false → some_bar_by (take i changes) set ≡ false → some_bar_by (take (i + 1) changes) set ≡ false
  more_bar set apart earlier =
      ap (λ l. some_bar_by l set) (take_more changes i change within)
      ∙ list_any-append (λ (c : Change). can_bar_by set (changed_row c)) (take i changes) (get_or changes i change ∷ [])
      ∙ (λ t. earlier t || ((ap (λ (c : Change). can_bar_by set (changed_row c)) (sym is) ∙ apart) t || false))

  pub forget_more : mid ≡ record index { barred = None; by_set = mid.by_set } → Forgets index mid (some_bar_by (take i changes)) → new ≡ record mid { by_set = new.by_set } → Forgets mid new (λ set. can_bar_by set (changed_row change))
      → (new ≡ record index { barred = None; by_set = new.by_set }) × Forgets index new (some_bar_by (take (i + 1) changes))
  forget_more same before rest forgets = (
    rest ∙ ap {A = AccessIndex} {B = AccessIndex} (λ m. record m { by_set = new.by_set }) same,
    λ set. by_row (λ row. (row_by_set mid set ≡ Some row) × (can_bar_by set (changed_row change) ≡ false)) (λ row. (row_by_set index set ≡ Some row) × (some_bar_by (take (i + 1) changes) set ≡ false)) (row_by_set new set)
        (λ row known.
        let earlier = subst (λ o. IfSome o (λ r. (row_by_set index set ≡ Some r) × (some_bar_by (take i changes) set ≡ false))) known.0 (before set) in
        (earlier.0, more_bar set known.1 earlier.1)) (forgets set),
  )

-- the index keeps the same rows
pub forget_kept : (index new : AccessIndex) (rows : Rows) (forgotten : Bytes → Bool) → new ≡ record index { barred = None; by_set = new.by_set } → Forgets index new forgotten → Keeps index rows → Keeps new rows
forget_kept index new rows forgotten same forgets keeps =
    keeps_forgotten index new rows rows.barred rows.barred_by same
    (λ set. by_row (λ row. (row_by_set index set ≡ Some row) × (forgotten set ≡ false)) (λ row. (row_by_set index set ≡ Some row) × ((role : Bytes) → rows.barred_by set role ≡ rows.barred_by set role)) (row_by_set new set)
    (λ row known. (known.0, λ role. refl)) (forgets set)) keeps

-- and which roles the other sets bar in the state that the changes lead to
pub forget_turned : (index new : AccessIndex) (S T : RbacState) (changes : List Change) (i : ℕ) → new ≡ record index { barred = None; by_set = new.by_set } → Forgets index new (some_bar_by (take i changes)) → length changes ≤ i
    → Turns S changes T → Indexes index S → Keeps new (record (rows_of S) { barred = (rows_of T).barred; barred_by = (rows_of T).barred_by })
forget_turned index new S T changes i same forgets all turns indexes =
    keeps_forgotten index new (rows_of S) (rows_of T).barred (rows_of T).barred_by same
    (λ set. by_row (λ row. (row_by_set index set ≡ Some row) × (some_bar_by (take i changes) set ≡ false)) (λ row. (row_by_set index set ≡ Some row) × ((role : Bytes) → (rows_of T).barred_by set role ≡ (rows_of S).barred_by set role)) (row_by_set new set)
    (λ row known. (known.0, λ role. sym (barred_by_turn set S T changes (sym (ap (λ l. some_bar_by l set) (take_all i changes all)) ∙ known.1) turns role))) (forgets set)) indexes
