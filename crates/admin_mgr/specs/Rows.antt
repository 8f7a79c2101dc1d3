-- The rows in which a state is stored: one for each entry of its sets, and one for each pair of the closure of its edges.
use Rattle.std.specs.Prelude.{ℕ, Bool, false, not, ◌&&◌, nat_eq, if◌then◌else◌}
use Rattle.rbac_sets.specs.Sets.{Bytes, same_name, contains}
use Rattle.rbac_sets.specs.declared.row.Row.{Row}
use Rattle.rbac_sets.specs.declared.row.Row.TheVariants.{NameRow, PairRow, GrantRow, SetRow, LockedRow}
use Rattle.rbac_sets.specs.RowKinds.{user_kind, role_kind, object_kind, permission_kind, assignment_kind, inheritance_kind, closure_pair_kind, static_member_kind, dynamic_member_kind, session_kind, activated_role_kind, static_cardinality_kind, dynamic_cardinality_kind}
use Rattle.role_order.specs.Order.{geq}
use Rattle.admin_mgr.specs.RbacState.{RbacState}

-- the state has a row of this kind with this name
abbrev pub has_name : RbacState → ℕ → Bytes → Bool
has_name S kind name =
    if nat_eq kind user_kind then contains S.users name
    else if nat_eq kind role_kind then contains S.roles name
    else if nat_eq kind object_kind then contains S.objects name
    else false

-- r is a senior of q: another role, with r >= q
abbrev pub is_above : RbacState → Bytes → Bytes → Bool
is_above S r q = geq S.edges r q && not (same_name r q)

-- the state has a row of this kind with this pair; the closure pairs are those of a role and its juniors
abbrev pub has_pair : RbacState → ℕ → Bytes → Bytes → Bool
has_pair S kind a b =
    if nat_eq kind permission_kind then contains S.permissions (a, b)
    else if nat_eq kind assignment_kind then contains S.assignments (a, b)
    else if nat_eq kind inheritance_kind then contains S.edges (a, b)
    else if nat_eq kind closure_pair_kind then is_above S a b
    else if nat_eq kind static_member_kind then contains S.ssd.members (a, b)
    else if nat_eq kind dynamic_member_kind then contains S.dsd.members (a, b)
    else if nat_eq kind session_kind then contains S.sessions (a, b)
    else if nat_eq kind activated_role_kind then contains S.active (a, b)
    else false

-- the state has this row
unfoldable pub has_row : RbacState → Row → Bool
has_row S (NameRow kind name) = has_name S kind name
has_row S (PairRow kind a b) = has_pair S kind a b
has_row S (GrantRow object operation role) = contains S.grants (object, operation, role)
has_row S (SetRow kind name n) =
    if nat_eq kind static_cardinality_kind then contains S.ssd.cardinalities (name, n)
    else if nat_eq kind dynamic_cardinality_kind then contains S.dsd.cardinalities (name, n)
    else false
has_row S (LockedRow name) = contains S.locked name
