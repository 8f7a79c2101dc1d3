-- Rows that are gathered one by one.
use Rattle.std.proofs.Common.{◌≡◌, ℕ, Bool, true, false, not, ◌&&◌, List, [], ◌∷◌, ◌++◌, refl, sym, ◌∙◌, ap, subst}
use Rattle.std.specs.List.{list_any}
use Rattle.std.proofs.lemmas.Bool.{and_parts, and_from, not-true, true≢false}
use Rattle.std.proofs.lemmas.List.{append_assoc}
use Rattle.rbac_sets.specs.declared.row.Row.{Row}
use Rattle.admin_mgr.specs.StoredSets.{StoredSets, gathered, is_known, same_key}
use Rattle.admin_mgr.specs.private.OneRow.{has_key, with_stored}
use Rattle.admin_mgr.specs.RowChecks.{AreReadable}
use Rattle.admin_mgr.proofs.StoredRows.GatherLaws.{gathered_more, readable_none, readable_more, readable_known, readable_free}
use Rattle.admin_mgr.proofs.StoredRows.KeyLaws.{key_among}

-- the rows done so far are gathered and readable, and the rest is left
abbrev pub SoFar : ℕ → List Row → List Row → List Row → StoredSets → Type 0
SoFar version rows done rest made = (rows ≡ done ++ rest) × (made ≡ gathered version done) × AreReadable version done

-- rows don't change the version
pub version-gathered : (version : ℕ) (rows : List Row) → (gathered version rows).facts.version ≡ version
unfolding gathered
version-gathered version rows = refl

-- before the first row
pub none_so_far : (version : ℕ) (rows : List Row) (made : StoredSets) → made ≡ gathered version [] → SoFar version rows [] rows made
none_so_far version rows made is = (refl, is, readable_none version)

-- the row is known, and no row has its key
abbrev pub fits : StoredSets → Row → Bool
fits made row = is_known made.facts.version row && not (has_key made row)

module _ (version : ℕ) (rows done rest left : List Row) (row : Row) (made : StoredSets) (so_far : SoFar version rows done left made) (next : left ≡ row ∷ rest) where
  -- the version stays the same
  version_is : made.facts.version ≡ version
  version_is = ap (λ (g : StoredSets). g.facts.version) so_far.1 ∙ version-gathered version done

  -- a row that fits may be gathered too
  pub one_so_far : (after : StoredSets) → fits made row ≡ true → after ≡ with_stored made row → SoFar version rows (done ++ row ∷ []) rest after
  one_so_far after fit is =
      let parts = and_parts (is_known made.facts.version row) (not (has_key made row)) fit in
      let known : is_known version row ≡ true = ap (λ v. is_known v row) (sym version_is) ∙ parts.0 in
      let free : list_any (λ (other : Row). same_key other row) done ≡ false = sym (ap (λ g. has_key g row) so_far.1 ∙ key_among version done row known) ∙ not-true _ parts.1 in (
        so_far.0 ∙ ap (λ xs. done ++ xs) next ∙ sym (append_assoc done (row ∷ []) rest),
        is ∙ ap (λ g. with_stored g row) so_far.1 ∙ sym (gathered_more version done row),
        readable_more version done row so_far.2 known free,
      )

  -- rows with one that doesn't fit aren't readable
  pub stopped : fits made row ≡ false → AreReadable version rows → ⊥
  stopped unfit readable =
      let all = subst (AreReadable version) (so_far.0 ∙ ap (λ xs. done ++ xs) next) readable in
      let known = readable_known version done row rest all in
      let free : has_key made row ≡ false = ap (λ g. has_key g row) so_far.1 ∙ key_among version done row known ∙ readable_free version done row rest all in
      true≢false (sym (and_from _ _ (ap (λ v. is_known v row) version_is ∙ known) (ap not free)) ∙ unfit)
