-- The relation of a row, and the order of the relations.
use Rattle.std.specs.Prelude.{ℕ, Bool, false, Option, Some, None, nat_eq, if◌then◌else◌}
use Rattle.rbac_sets.specs.declared.row.Row.{Row}
use Rattle.rbac_sets.specs.declared.row.Row.TheVariants.{NameRow, PairRow, GrantRow, SetRow, LockedRow}
use Rattle.rbac_sets.specs.RowKinds.{user_kind, role_kind, object_kind, permission_kind, assignment_kind, inheritance_kind, closure_pair_kind, static_member_kind, dynamic_member_kind, session_kind, activated_role_kind, static_cardinality_kind, dynamic_cardinality_kind}
use Rattle.rbac_sets.specs.declared.table.Table.{Table}
use Rattle.rbac_sets.specs.declared.table.Table.TheVariants.{Users, Roles, Objects, Permissions, Assignments, Inheritances, ClosurePairs, StaticMembers, DynamicMembers, Sessions, ActivatedRoles, Grants, StaticCardinalities, DynamicCardinalities, Locks}

-- the relation that a row belongs to, if there is one of its kind
abbrev pub table_of : Row → Option Table
table_of (NameRow kind name) =
    if nat_eq kind user_kind then Some Users
    else if nat_eq kind role_kind then Some Roles
    else if nat_eq kind object_kind then Some Objects
    else None
table_of (PairRow kind a b) =
    if nat_eq kind permission_kind then Some Permissions
    else if nat_eq kind assignment_kind then Some Assignments
    else if nat_eq kind inheritance_kind then Some Inheritances
    else if nat_eq kind closure_pair_kind then Some ClosurePairs
    else if nat_eq kind static_member_kind then Some StaticMembers
    else if nat_eq kind dynamic_member_kind then Some DynamicMembers
    else if nat_eq kind session_kind then Some Sessions
    else if nat_eq kind activated_role_kind then Some ActivatedRoles
    else None
table_of (GrantRow object operation role) = Some Grants
table_of (SetRow kind set cardinality) =
    if nat_eq kind static_cardinality_kind then Some StaticCardinalities
    else if nat_eq kind dynamic_cardinality_kind then Some DynamicCardinalities
    else None
table_of (LockedRow user) = Some Locks

-- the number of a relation in their order
abbrev pub number_of : Table → ℕ
number_of Users = 0
number_of Roles = 1
number_of Objects = 2
number_of Permissions = 3
number_of Assignments = 4
number_of Inheritances = 5
number_of ClosurePairs = 6
number_of StaticMembers = 7
number_of DynamicMembers = 8
number_of Sessions = 9
number_of ActivatedRoles = 10
number_of Grants = 11
number_of StaticCardinalities = 12
number_of DynamicCardinalities = 13
number_of Locks = 14

-- how many relations there are
abbrev pub relation_count : ℕ
relation_count = 15

-- whether it is the relation of this number
abbrev pub is_number : ℕ → Option Table → Bool
is_number number None = false
is_number number (Some table) = nat_eq (number_of table) number
