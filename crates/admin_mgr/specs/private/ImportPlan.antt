-- The assignments that an import adds, and what its records have come to one after another.
use Rattle.std.specs.Prelude.{◌≡◌, ℕ, ◌+◌, ◌||◌, if◌then◌else◌, List, [], ◌∷◌, ◌++◌, Option, Some, None, is_none}
use Rattle.std.specs.List.{cons_option}
use Rattle.rbac_sets.specs.SortedSet.{set_of}
use Rattle.rbac_sets.specs.Sets.{Pair, Pairs, pair_cmp, empty, contains, insert, len, union}
use Rattle.rbac_sets.specs.declared.kind.Kind.TheVariants.{Assignment}
use Rattle.rbac_sets.specs.declared.refusal.Refusal.{Refusal}
use Rattle.rbac_sets.specs.declared.refusal.Refusal.TheVariants.{NoUser, NoRole, AlreadyAssigned}
use Rattle.rbac_sets.specs.declared.row.Row.TheVariants.{PairRow}
use Rattle.rbac_sets.specs.RowKinds.{assignment_kind}
use Rattle.rbac_sets.specs.declared.row.Change.{Change}
use Rattle.rbac_sets.specs.declared.row.Change.TheVariants.{Put}
use Rattle.admin_mgr.specs.RbacState.{RbacState}
use Rattle.admin_mgr.specs.Refusals.{refuse_if, refuse_unless, too_many}
use Rattle.admin_mgr.specs.Assignment.{assignment_verdict, after_record, is_already, refused_record}
use Rattle.admin_mgr.specs.declared.planning.importing.Imported.{Imported}

-- the state with more assignments
unfoldable pub with_assignments : RbacState → Pairs → RbacState
with_assignments S added = record S { assignments = union S.assignments added }

-- the pairs of the list that an import assigns, in their order
unfoldable pub accepted : RbacState → List Pair → List Pair
accepted S [] = []
accepted S (pair ∷ pairs) =
    if is_none (assignment_verdict S pair) then pair ∷ accepted (after_record S pair) pairs else accepted (after_record S pair) pairs

-- the change that puts the row of an assignment
abbrev pub put_assignment : Pair → Change
put_assignment pair = Put (PairRow assignment_kind pair.0 pair.1)

-- what refuses an assignment if these pairs were added before it, without the check of static separation
abbrev pub record_refusals : RbacState → Pairs → Pair → List (Option Refusal)
record_refusals S added (user, role) =
    refuse_unless (contains S.users user) NoUser
    ∷ refuse_unless (contains S.roles role) NoRole
    ∷ refuse_if (contains S.assignments (user, role) || contains added (user, role)) AlreadyAssigned
    ∷ too_many S Assignment (len S.assignments + len added + 1)
    ∷ []

-- ---- what the records so far have come to: the pairs added, their changes, and the report

-- no record was judged yet
pub record IsBegun (begun : Imported) : Type 0 where
  pub added : set_of pair_cmp begun.added ≡ empty
  pub changes : begun.changes.items ≡ []
  pub assigned : begun.report.assigned ≡ 0
  pub already : begun.report.already ≡ 0
  pub refused : begun.report.refused.items ≡ []

-- one more pair was assigned
pub record IsAssigned (pair : Pair) (before later : Imported) : Type 0 where
  pub added : set_of pair_cmp later.added ≡ insert (set_of pair_cmp before.added) pair
  pub changes : later.changes.items ≡ before.changes.items ++ put_assignment pair ∷ []
  pub assigned : later.report.assigned ≡ before.report.assigned + 1
  pub already : later.report.already ≡ before.report.already
  pub refused : later.report.refused.items ≡ before.report.refused.items

-- one more record was refused
pub record IsRefused (number : ℕ) (refusal : Refusal) (before later : Imported) : Type 0 where
  pub added : set_of pair_cmp later.added ≡ set_of pair_cmp before.added
  pub changes : later.changes.items ≡ before.changes.items
  pub assigned : later.report.assigned ≡ before.report.assigned
  pub already : later.report.already ≡ before.report.already + (if is_already (Some refusal) then 1 else 0)
  pub refused : later.report.refused.items ≡ before.report.refused.items ++ cons_option (refused_record (number, Some refusal)) []

-- one more record was judged, with this verdict
abbrev pub Follows : Option Refusal → ℕ → Pair → Imported → Imported → Type 0
Follows None number pair before later = IsAssigned pair before later
Follows (Some refusal) number pair before later = IsRefused number refusal before later
