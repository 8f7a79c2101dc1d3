-- The values of the review functions of the standard, as sets.
use Rattle.std.specs.Prelude.{Bool}
use Rattle.std.specs.Ordering.{eq_by_cmp}
use Rattle.rbac_sets.specs.Sets.{Bytes, Names, Pair, Pairs, Triple, Cardinality, pair_cmp, any, contains, firsts, image, retain, seconds}
use Rattle.role_order.specs.Order.{geq}
use Rattle.admin_mgr.specs.RbacState.{RbacState, Separation}
use Rattle.admin_mgr.specs.Authorization.{authorized_permissions, session_roles}

-- the permission of a grant
abbrev pub permission_of : Triple → Pair
permission_of grant = (grant.0, grant.1)

-- whether a grant is one of this permission
abbrev pub is_grant_of : Bytes → Bytes → Triple → Bool
is_grant_of object operation grant = eq_by_cmp pair_cmp (permission_of grant) (object, operation)

module _ (S : RbacState) where
  -- AssignedUsers, assigned_users: the users that are assigned to the role
  unfoldable pub assigned_users : Bytes → Names
  assigned_users role = firsts S.assignments role

  -- AssignedRoles: the roles that are assigned to the user
  unfoldable pub assigned_roles : Bytes → Names
  assigned_roles user = seconds S.assignments user

  -- UserPermissions: the permissions that are granted to a role that is assigned to the user, or to a junior of one
  unfoldable pub user_permissions : Bytes → Pairs
  user_permissions user = image permission_of (retain S.grants (λ grant. any (λ role. geq S.edges role grant.2) (assigned_roles user)))

  -- SessionPermissions: the permissions that are granted to a role of the session
  unfoldable pub session_permissions : Bytes → Pairs
  session_permissions session = image permission_of (retain S.grants (λ grant. contains (session_roles S session) grant.2))

  -- RoleOperationsOnObject: the operations on the object among the permissions of the role
  unfoldable pub role_operations_on_object : Bytes → Bytes → Names
  role_operations_on_object role object = seconds (authorized_permissions S role) object

  -- UserOperationsOnObject: the operations on the object among the permissions of the user
  unfoldable pub user_operations_on_object : Bytes → Bytes → Names
  user_operations_on_object user object = seconds (user_permissions user) object

  -- the roles to which the permission is granted directly
  unfoldable pub permission_roles : Bytes → Bytes → Names
  permission_roles object operation = image (λ (grant : Triple). grant.2) (retain S.grants (is_grant_of object operation))

-- SsdRoleSets, DsdRoleSets: the names of the separation of duty sets of one kind
unfoldable pub role_sets : Separation → Names
role_sets separation = image (λ (entry : Cardinality). entry.0) separation.cardinalities
