-- Who is authorized for a role, and what a role and a session may do.
use Rattle.std.specs.Prelude.{Bool, List}
use Rattle.std.specs.List.{list_any}
use Rattle.rbac_sets.specs.Sets.{Bytes, Names, Pair, Pairs, Triple, any, image, contains, retain}
use Rattle.role_order.specs.Order.{geq}
use Rattle.admin_mgr.specs.RbacState.{RbacState, active_roles}

-- whether the holder of these pairs (holder, role), a user or a session, has the role: it is the role of one of the pairs, or a
-- junior of that role
abbrev pub is_reached : Pairs → List Pair → Bytes → Bool
is_reached edges held role = list_any (λ (pair : Pair). geq edges pair.1 role) held

-- AuthorizedUsers, authorized_users: the users who are assigned to the role or to a senior of it
unfoldable pub authorized_users : RbacState → Bytes → Names
authorized_users S role = image (λ (assignment : Pair). assignment.0) (retain S.assignments (λ assignment. geq S.edges assignment.1 role))

-- whether the user is authorized for the role
abbrev pub is_authorized : RbacState → Bytes → Bytes → Bool
is_authorized S user role = contains (authorized_users S role) user

-- AuthorizedRoles: the roles for which the user is authorized
unfoldable pub authorized_roles : RbacState → Bytes → Names
authorized_roles S user = retain S.roles (is_authorized S user)

-- RolePermissions, authorized_permissions: the permissions granted to the role or to a junior of it, as (object, operation)
unfoldable pub authorized_permissions : RbacState → Bytes → Pairs
authorized_permissions S role = image (λ (grant : Triple). (grant.0, grant.1)) (retain S.grants (λ grant. geq S.edges role grant.2))

-- whether the role, or a senior of it, was activated in the session
abbrev pub is_session_role : RbacState → Bytes → Bytes → Bool
is_session_role S session role = any (λ active. geq S.edges active role) (active_roles S session)

-- SessionRoles, session_roles: the roles that were activated in the session, and their juniors
unfoldable pub session_roles : RbacState → Bytes → Names
session_roles S session = retain S.roles (is_session_role S session)

-- CheckAccess: whether a role of the session is granted the operation on the object
unfoldable pub has_access : RbacState → Bytes → Bytes → Bytes → Bool
has_access S session operation object = any (λ role. contains S.grants (object, operation, role)) (session_roles S session)
