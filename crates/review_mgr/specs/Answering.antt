-- The answer to a question that isn't refused.
use Rattle.std.specs.Prelude.{ℕ, Bool, List, Option, Some}
use Rattle.rbac_sets.specs.Sets.{Bytes, Names, Pair, Pairs, members}
use Rattle.admin_mgr.specs.RbacState.{RbacState, members_of, cardinality_of}
use Rattle.admin_mgr.specs.Authorization.{authorized_users, authorized_roles, authorized_permissions, session_roles, has_access}
use Rattle.review_mgr.specs.Review.{assigned_users, assigned_roles, user_permissions, session_permissions, role_operations_on_object, user_operations_on_object, permission_roles, role_sets}
use Rattle.review_mgr.specs.declared.query.Query.{Query}
use Rattle.review_mgr.specs.declared.query.Query.TheVariants.{CheckAccess, AssignedUsers, AssignedRoles, AuthorizedUsers, AuthorizedRoles, RolePermissions, UserPermissions, SessionRoles, SessionPermissions, RoleOperationsOnObject, UserOperationsOnObject, SsdRoleSets, SsdRoleSetRoles, SsdRoleSetCardinality, DsdRoleSets, DsdRoleSetRoles, DsdRoleSetCardinality, PermissionRoles}
use Rattle.review_mgr.specs.declared.query.Answer.{Answer}
use Rattle.review_mgr.specs.declared.query.Answer.TheVariants as answers

-- an answer, regardless of its place in memory
pub data AnswerContent : Type 0 where
  NamesContent : List Bytes → AnswerContent
  PermissionsContent : List Pair → AnswerContent
  CountContent : Option ℕ → AnswerContent
  AccessContent : Bool → AnswerContent

-- the content of an answer
abbrev pub answer_content : Answer → AnswerContent
answer_content (answers.Names names) = NamesContent names.items
answer_content (answers.Permissions permissions) = PermissionsContent permissions.items
answer_content (answers.Count number) = CountContent (Some number)
answer_content (answers.Access access) = AccessContent access

-- the members in byte order
abbrev pub names_content : Names → AnswerContent
names_content names = NamesContent (members names)

abbrev pub permissions_content : Pairs → AnswerContent
permissions_content permissions = PermissionsContent (members permissions)

-- the content of the answer to each question
unfoldable pub value : RbacState → Query → AnswerContent
value S (CheckAccess session operation object) = AccessContent (has_access S session operation object)
value S (AssignedUsers role) = names_content (assigned_users S role)
value S (AssignedRoles user) = names_content (assigned_roles S user)
value S (AuthorizedUsers role) = names_content (authorized_users S role)
value S (AuthorizedRoles user) = names_content (authorized_roles S user)
value S (RolePermissions role) = permissions_content (authorized_permissions S role)
value S (UserPermissions user) = permissions_content (user_permissions S user)
value S (SessionRoles session) = names_content (session_roles S session)
value S (SessionPermissions session) = permissions_content (session_permissions S session)
value S (RoleOperationsOnObject role object) = names_content (role_operations_on_object S role object)
value S (UserOperationsOnObject user object) = names_content (user_operations_on_object S user object)
value S SsdRoleSets = names_content (role_sets S.ssd)
value S (SsdRoleSetRoles name) = names_content (members_of S.ssd name)
value S (SsdRoleSetCardinality name) = CountContent (cardinality_of S.ssd name)
value S DsdRoleSets = names_content (role_sets S.dsd)
value S (DsdRoleSetRoles name) = names_content (members_of S.dsd name)
value S (DsdRoleSetCardinality name) = CountContent (cardinality_of S.dsd name)
value S (PermissionRoles object operation) = names_content (permission_roles S object operation)
