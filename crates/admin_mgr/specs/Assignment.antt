-- Assigning a user to a role, in one command or for each record of an import; and which sessions a change ends.
use Rattle.std.specs.Prelude.{ℕ, ◌+◌, Bool, false, not, if◌then◌else◌, ◌&&◌, nat_eq, List, [], ◌∷◌, ◌++◌, Option, Some, None, is_none, count_by}
use Rattle.std.specs.List.{enumerate_from, filter_map}
use Rattle.rbac_sets.specs.Refusal.{code_of}
use Rattle.rbac_sets.specs.Sets.{Pair, any, all, same_name, contains, insert, retain, len}
use Rattle.rbac_sets.specs.declared.kind.Kind.TheVariants.{Assignment}
use Rattle.rbac_sets.specs.declared.refusal.Refusal.{Refusal}
use Rattle.rbac_sets.specs.declared.refusal.Refusal.TheVariants.{NoUser, NoRole, AlreadyAssigned}
use Rattle.admin_mgr.specs.RbacState.{RbacState, active_roles}
use Rattle.admin_mgr.specs.Authorization.{is_authorized}
use Rattle.admin_mgr.specs.Refusals.{refuse_if, refuse_unless, first, too_many, violates_static}

-- the session's user exists, is not locked, and is authorized for each role that was activated in the session
unfoldable pub may_go_on : RbacState → Pair → Bool
may_go_on S session = contains S.users session.1 && not (contains S.locked session.1) && all (is_authorized S session.1) (active_roles S session.0)

-- the state without the sessions that may not go on
unfoldable pub end_sessions : RbacState → RbacState
end_sessions S = record S {
  sessions = retain S.sessions (may_go_on S);
  active = retain S.active (λ active. any (λ session. same_name session.0 active.0 && may_go_on S session) S.sessions);
}

-- AssignUser: the state with one more assignment (user, role)
unfoldable pub after_assignment : RbacState → Pair → RbacState
after_assignment S pair = end_sessions (record S { assignments = insert S.assignments pair })

-- what refuses an assignment, in the order of judgement, without the check of static separation
abbrev pub assign_user_refusals : RbacState → Pair → List (Option Refusal)
assign_user_refusals S (user, role) =
    refuse_unless (contains S.users user) NoUser
    ∷ refuse_unless (contains S.roles role) NoRole
    ∷ refuse_if (contains S.assignments (user, role)) AlreadyAssigned
    ∷ too_many S Assignment (len S.assignments + 1)
    ∷ []

-- static separation is judged last, on the state after the assignment
unfoldable pub assignment_refusals : RbacState → Pair → List (Option Refusal)
assignment_refusals S pair = assign_user_refusals S pair ++ violates_static (after_assignment S pair) ∷ []

unfoldable pub assignment_verdict : RbacState → Pair → Option Refusal
assignment_verdict S pair = first (assignment_refusals S pair)

-- ---- an import: each record is assigned in turn, and a refused one leaves the state as it was

unfoldable pub after_record : RbacState → Pair → RbacState
after_record S pair = if is_none (assignment_verdict S pair) then after_assignment S pair else S

unfoldable pub after_import : RbacState → List Pair → RbacState
after_import S [] = S
after_import S (pair ∷ pairs) = after_import (after_record S pair) pairs

-- the verdict on each record, in order
unfoldable pub import_verdicts : RbacState → List Pair → List (Option Refusal)
import_verdicts S [] = []
import_verdicts S (pair ∷ pairs) = assignment_verdict S pair ∷ import_verdicts (after_record S pair) pairs

-- What is reported of an import: how many records were assigned, how many had been assigned before, and which others were
-- refused, each as its number, from 1, and the code of its refusal.
pub record Tally : Type 0 where
  pub assigned : ℕ
  pub already : ℕ
  pub refused : List (ℕ × ℕ)

-- the pair had been assigned before
abbrev pub is_already : Option Refusal → Bool
is_already None = false
is_already (Some refusal) = nat_eq (code_of refusal) (code_of AlreadyAssigned)

-- the number of a record with the code of its refusal, if it was refused for another reason than that
abbrev pub refused_record : ℕ × Option Refusal → Option (ℕ × ℕ)
refused_record (number, None) = None
refused_record (number, Some refusal) = if nat_eq (code_of refusal) (code_of AlreadyAssigned) then None else Some (number, code_of refusal)

-- the tally of a command that is no import
abbrev pub no_tally : Tally
no_tally = record { assigned = 0; already = 0; refused = [] }

unfoldable pub tally_of : List (Option Refusal) → Tally
tally_of verdicts = record {
  assigned = count_by is_none verdicts;
  already = count_by is_already verdicts;
  refused = filter_map refused_record (enumerate_from 1 verdicts);
}
