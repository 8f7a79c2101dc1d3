-- The sets of a state that change row by row, each with its rows.
use Rattle.std.proofs.Common.{ℕ}
use Rattle.rbac_sets.specs.Sets.{Bytes, Names, Pairs, Triples, Cardinality, Cardinalities}
use Rattle.rbac_sets.specs.declared.row.Row.{Row}
use Rattle.rbac_sets.specs.declared.row.Row.TheVariants.{NameRow, SetRow, LockedRow}
use Rattle.rbac_sets.specs.declared.row.TheConstants.Row.{USER, ROLE, OBJECT, PERMISSION, ASSIGNMENT, STATIC_MEMBER, DYNAMIC_MEMBER, SESSION, ACTIVATED_ROLE, STATIC_CARDINALITY, DYNAMIC_CARDINALITY}
use Rattle.admin_mgr.specs.Rows.{has_row}
use Rattle.admin_mgr.specs.private.OneRow.{with_row, without_row}
use Rattle.admin_mgr.specs.private.PlanChanges.{pair_row, grant_row}
use Rattle.admin_mgr.proofs.PlanRows.RunLaws.{IsSetOf}

-- the row of a separation of duty set with its cardinality, by the kind of sets that it is
abbrev pub set_row : ℕ → Cardinality → Row
set_row kind entry = SetRow kind entry.0 entry.1

-- each law of a kind of rows holds by computation
pub user_rows : IsSetOf (λ (name : Bytes). NameRow USER name) (λ S. S.users) (λ S (s : Names). record S { users = s })
unfolding has_row with_row without_row
user_rows = assumption

pub role_rows : IsSetOf (λ (name : Bytes). NameRow ROLE name) (λ S. S.roles) (λ S (s : Names). record S { roles = s })
unfolding has_row with_row without_row
role_rows = assumption

pub object_rows : IsSetOf (λ (name : Bytes). NameRow OBJECT name) (λ S. S.objects) (λ S (s : Names). record S { objects = s })
unfolding has_row with_row without_row
object_rows = assumption

pub locked_rows : IsSetOf LockedRow (λ S. S.locked) (λ S (s : Names). record S { locked = s })
unfolding has_row with_row without_row
locked_rows = assumption

pub permission_rows : IsSetOf (pair_row PERMISSION) (λ S. S.permissions) (λ S (s : Pairs). record S { permissions = s })
unfolding has_row with_row without_row
permission_rows = assumption

pub assignment_rows : IsSetOf (pair_row ASSIGNMENT) (λ S. S.assignments) (λ S (s : Pairs). record S { assignments = s })
unfolding has_row with_row without_row
assignment_rows = assumption

-- the members of the static separation of duty sets
pub ssd_member_rows : IsSetOf (pair_row STATIC_MEMBER) (λ S. S.ssd.members) (λ S (s : Pairs). record S { ssd = record S.ssd { members = s } })
unfolding has_row with_row without_row
ssd_member_rows = assumption

-- the members of the dynamic separation of duty sets
pub dsd_member_rows : IsSetOf (pair_row DYNAMIC_MEMBER) (λ S. S.dsd.members) (λ S (s : Pairs). record S { dsd = record S.dsd { members = s } })
unfolding has_row with_row without_row
dsd_member_rows = assumption

-- the sessions with their users
pub session_pair_rows : IsSetOf (pair_row SESSION) (λ S. S.sessions) (λ S (s : Pairs). record S { sessions = s })
unfolding has_row with_row without_row
session_pair_rows = assumption

pub active_rows : IsSetOf (pair_row ACTIVATED_ROLE) (λ S. S.active) (λ S (s : Pairs). record S { active = s })
unfolding has_row with_row without_row
active_rows = assumption

pub grant_rows : IsSetOf grant_row (λ S. S.grants) (λ S (s : Triples). record S { grants = s })
unfolding has_row with_row without_row
grant_rows = assumption

-- the static separation of duty sets with their cardinalities
pub ssd_cardinality_rows : IsSetOf (set_row STATIC_CARDINALITY) (λ S. S.ssd.cardinalities) (λ S (s : Cardinalities). record S { ssd = record S.ssd { cardinalities = s } })
unfolding has_row with_row without_row
ssd_cardinality_rows = assumption

-- the dynamic separation of duty sets with their cardinalities
pub dsd_cardinality_rows : IsSetOf (set_row DYNAMIC_CARDINALITY) (λ S. S.dsd.cardinalities) (λ S (s : Cardinalities). record S { dsd = record S.dsd { cardinalities = s } })
unfolding has_row with_row without_row
dsd_cardinality_rows = assumption
