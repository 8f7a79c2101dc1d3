-- If a good state is found, nothing is refused except by Memory.
use Rattle.std.proofs.Common.{◌≡◌, inl, inr, List, refl, sym, subst}
use Rattle.std.specs.List.Sorted.{IsPermutation}
use Rattle.std.proofs.lemmas.List.Sorted.{IsPermutation-sym, IsPermutation-trans}
use Rattle.rbac_sets.specs.declared.row.Row.{Row}
use Rattle.rbac_sets.specs.declared.refusal.Refusal.{Refusal}
use Rattle.rbac_sets.specs.declared.refusal.Refusal.TheVariants.{Memory, NotAnOffice, Version, Damaged, TooMany}
use Rattle.admin_mgr.specs.RbacState.{RbacState}
use Rattle.admin_mgr.specs.RowChecks.{RefusesRows, AreRowsOf}
use Rattle.admin_mgr.proofs.StoredRows.AcceptLaws.{good_rows_are_read}
use Rattle.role_tables.specs.OfficeTables.{Meta}
use Rattle.role_tables.specs.TableContents.{TableContents}
use Rattle.role_tables.specs.OpeningChecks.{values, versions, is_known_version, office_rows, RefusesRead, RefusesContents, IsStateOfContents, RefusedHaveNoState}
use Rattle.role_tables.proofs.Reading.Judging.{clash, passes_each}
use Rattle.role_tables.proofs.StoredRows.Once.{rows_of_same}

module _ (found : TableContents) (S : RbacState) (it : IsStateOfContents found S) where
  rows_are : (rows : List Row) → IsPermutation (office_rows found) rows → AreRowsOf S rows
  rows_are rows same = rows_of_same S it.rows rows (IsPermutation-trans it.rows (office_rows found) rows (IsPermutation-sym _ _ it.same) same) it.state.stored

  read_refused : (refusal : Refusal) → RefusesRead found refusal → refusal ≡ Memory
  read_refused refusal (rows, same, bad) = good_rows_are_read S rows refusal it.state.good (rows_are rows same) (subst (λ v. RefusesRows v rows refusal) (sym it.state.version_is) bad)

  pub found_refused : (refusal : Refusal) → RefusesContents found refusal → refusal ≡ Memory
  found_refused Memory bad = refl
  found_refused NotAnOffice (inl none) = absurd (none it.reached.0)
  found_refused NotAnOffice (inr bare) = absurd (bare.2 it.reached.2)
  found_refused (Version n) bad = absurd (clash (is_known_version n) (passes_each is_known_version (versions (values found Meta)) n it.reached.1 bad.1.there) bad.1.unknown)
  found_refused (TooMany kind) bad = read_refused (TooMany kind) bad.3
  found_refused (Damaged check) (reached, inl broken) = absurd (broken.1 it.whole)
  found_refused (Damaged check) (reached, inr (inl nameless)) = absurd (nameless.2 it.named)
  found_refused (Damaged check) (reached, inr (inr bad)) = read_refused (Damaged check) bad.2
  found_refused _ bad = absurd bad

pub refused_find_none : RefusedHaveNoState
refused_find_none found refusal S bad other it = other (found_refused found S it refusal bad)
