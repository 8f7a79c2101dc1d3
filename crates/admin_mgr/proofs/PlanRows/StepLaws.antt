-- Changes of rows one after the other, and the state that they lead to: changes that only remove, or only insert.
use Rattle.std.proofs.Common.{◌≡◌, true, false, List, [], ◌∷◌, ◌++◌, refl, sym, ◌∙◌, ap, subst}
use Rattle.rbac_sets.specs.Sets.{Pairs}
use Rattle.rbac_sets.specs.declared.row.Row.{Row}
use Rattle.rbac_sets.specs.declared.row.Row.TheVariants.{NameRow, PairRow}
use Rattle.rbac_sets.specs.declared.row.Change.{Change}
use Rattle.rbac_sets.specs.declared.row.Change.TheVariants.{Put, Take}
use Rattle.admin_mgr.specs.RbacState.{RbacState}
use Rattle.admin_mgr.specs.Rows.{has_row}
use Rattle.admin_mgr.specs.RowUpdates.{with_edges}
use Rattle.admin_mgr.specs.private.OneRow.{is_plain, with_row, without_row, after_change, after_changes}
use Rattle.admin_mgr.proofs.PlanRows.ChangeLaws.{plain_pairs}

-- whether changes remove rows or insert them
pub data Way : Type 0 where
  taking : Way
  putting : Way

-- a change of this way, of a row of a set that changes row by row: it inserts an absent row, or removes one that is there
abbrev pub IsFitting : Way → RbacState → Change → Type 0
IsFitting taking S (Take row) = (is_plain row ≡ true) × (has_row S row ≡ true)
IsFitting taking S (Put row) = ⊥
IsFitting putting S (Take row) = ⊥
IsFitting putting S (Put row) = (is_plain row ≡ true) × (has_row S row ≡ false)

-- each change is fitting when its turn comes
abbrev pub AreFitting : Way → RbacState → List Change → Type 0
AreFitting way S [] = Unit {0}
AreFitting way S (change ∷ changes) = IsFitting way S change × AreFitting way (after_change S change) changes

-- the changes all go one way, are fitting when their turn comes, and lead from S to T
pub record Steps (way : Way) (S : RbacState) (changes : List Change) (T : RbacState) : Type 0 where
  pub fits : AreFitting way S changes
  pub leads : after_changes S changes ≡ T

-- no changes lead from a state to itself
pub steps_nothing : {way : Way} (S : RbacState) → Steps way S [] S
unfolding after_changes
steps_nothing S = record { fits = tt; leads = refl }

-- the state after one list of changes and then another
pub after_append : (S : RbacState) (xs ys : List Change) → after_changes S (xs ++ ys) ≡ after_changes (after_changes S xs) ys
unfolding after_changes
after_append S [] ys = refl
after_append S (x ∷ xs) ys = after_append (after_change S x) xs ys

-- a list is fitting after another if it is fitting in the state that the first leads to
fitting_append : (way : Way) (S : RbacState) (xs ys : List Change) → AreFitting way S xs → AreFitting way (after_changes S xs) ys → AreFitting way S (xs ++ ys)
unfolding after_changes
fitting_append way S [] ys first second = second
fitting_append way S (x ∷ xs) ys first second = (first.0, fitting_append way (after_change S x) xs ys first.1 second)

-- steps that continue where others end may be appended
pub steps_append : {way : Way} {S M T : RbacState} {xs ys : List Change} → Steps way S xs M → Steps way M ys T → Steps way S (xs ++ ys) T
steps_append {way} {S} {M} {T} {xs} {ys} first second = record {
  fits = fitting_append way S xs ys first.fits (subst (λ X. AreFitting way X ys) (sym first.leads) second.fits);
  leads = after_append S xs ys ∙ ap (λ X. after_changes X ys) first.leads ∙ second.leads;
}

-- the same changes lead to an equal state
pub steps_to : {way : Way} {S M T : RbacState} {changes : List Change} → Steps way S changes M → M ≡ T → Steps way S changes T
steps_to steps same = record { fits = steps.fits; leads = steps.leads ∙ same }

-- one row is removed
pub steps_take : (S : RbacState) (row : Row) → is_plain row ≡ true → has_row S row ≡ true → Steps taking S (Take row ∷ []) (without_row S row)
unfolding after_changes
steps_take S row plain there = record { fits = ((plain, there), tt); leads = refl }

-- one row is inserted
pub steps_put : (S : RbacState) (row : Row) → is_plain row ≡ true → has_row S row ≡ false → Steps putting S (Put row ∷ []) (with_row S row)
unfolding after_changes
steps_put S row plain absent = record { fits = ((plain, absent), tt); leads = refl }

-- ---- other edges

-- a state with other edges has the same rows of the sets that change row by row
pub has_row-with_edges : (S : RbacState) (edges : Pairs) (row : Row) → is_plain row ≡ true → has_row (with_edges S edges) row ≡ has_row S row
unfolding has_row
has_row-with_edges S edges (PairRow k x y) plain = plain_pairs (λ kind. has_row (with_edges S edges) (PairRow kind x y) ≡ has_row S (PairRow kind x y)) refl refl refl refl refl refl k plain
has_row-with_edges S edges _ plain = refl

-- a change of one row has the same effect on the other sets, whatever the edges are
edges_apart : (S : RbacState) (edges : Pairs) (change : Change) → after_change (with_edges S edges) change ≡ with_edges (after_change S change) edges
unfolding with_row without_row
edges_apart S edges (Put (NameRow k a)) = refl
edges_apart S edges (Put _) = refl
edges_apart S edges (Take (NameRow k a)) = refl
edges_apart S edges (Take _) = refl

-- a change is fitting whatever the edges are
fitting_edges : (way : Way) (S : RbacState) (edges : Pairs) (change : Change) → IsFitting way S change → IsFitting way (with_edges S edges) change
fitting_edges taking S edges (Take row) fits = (fits.0, has_row-with_edges S edges row fits.0 ∙ fits.1)
fitting_edges taking S edges (Put row) fits = fits
fitting_edges putting S edges (Take row) fits = fits
fitting_edges putting S edges (Put row) fits = (fits.0, has_row-with_edges S edges row fits.0 ∙ fits.1)

-- and so is a list of changes
all_fitting_edges : (way : Way) (S : RbacState) (edges : Pairs) (changes : List Change) → AreFitting way S changes → AreFitting way (with_edges S edges) changes
all_fitting_edges way S edges [] fits = tt
all_fitting_edges way S edges (change ∷ changes) fits = (
  fitting_edges way S edges change fits.0,
  subst (λ X. AreFitting way X changes) (sym (edges_apart S edges change)) (all_fitting_edges way (after_change S change) edges changes fits.1),
)

-- a list of changes has the same effect on the other sets, whatever the edges are
all_edges_apart : (S : RbacState) (edges : Pairs) (changes : List Change) → after_changes (with_edges S edges) changes ≡ with_edges (after_changes S changes) edges
unfolding after_changes
all_edges_apart S edges [] = refl
all_edges_apart S edges (change ∷ changes) = ap (λ X. after_changes X changes) (edges_apart S edges change) ∙ all_edges_apart (after_change S change) edges changes

-- the changes lead to the same state with other edges if they begin with these
pub steps_with_edges : {way : Way} {S T : RbacState} {changes : List Change} (edges : Pairs) → Steps way S changes T → Steps way (with_edges S edges) changes (with_edges T edges)
steps_with_edges {way} {S} {T} {changes} edges steps = record {
  fits = all_fitting_edges way S edges changes steps.fits;
  leads = all_edges_apart S edges changes ∙ ap (λ X. with_edges X edges) steps.leads;
}
