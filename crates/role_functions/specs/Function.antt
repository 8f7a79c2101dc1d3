-- The functions, their names, and how long what calls them may be.
use Rattle.std.specs.Prelude.{Bool, true, false, ℕ, List, [], ◌∷◌, Option, find, codes, if◌then◌else◌}
use Rattle.std.specs.Str.{bytes_eq}
use Rattle.rbac_sets.specs.Kind.{limit_of}
use Rattle.rbac_sets.specs.declared.kind.Kind.TheVariants.{Byte}
use Rattle.role_functions.specs.declared.function.Function.{Function}
use Rattle.role_functions.specs.declared.function.Function.TheVariants.{AddUser, DeleteUser, AddRole, DeleteRole, AddPermObj, DeletePermObj, AddPermission, DeletePermission, GrantPermission, RevokePermission, AssignUser, DeassignUser, AddInheritance, DeleteInheritance, AddAscendant, AddDescendant, CreateSsdSet, AddSsdRoleMember, DeleteSsdRoleMember, SetSsdSetCardinality, DeleteSsdSet, CreateDsdSet, AddDsdRoleMember, DeleteDsdRoleMember, SetDsdSetCardinality, DeleteDsdSet, CreateSession, DeleteSession, AddActiveRole, DropActiveRole, LockUserAccount, UnlockUserAccount, ImportAssignments, CheckAccess, AssignedUsers, AssignedRoles, AuthorizedUsers, AuthorizedRoles, RolePermissions, UserPermissions, SessionRoles, SessionPermissions, RoleOperationsOnObject, UserOperationsOnObject, SsdRoleSets, SsdRoleSetRoles, SsdRoleSetCardinality, DsdRoleSets, DsdRoleSetRoles, DsdRoleSetCardinality, PermissionRoles}

-- the name by which a request calls a function
abbrev pub name_of : Function → List ℕ
name_of AddUser = codes "addUser"
name_of DeleteUser = codes "deleteUser"
name_of AddRole = codes "addRole"
name_of DeleteRole = codes "deleteRole"
name_of AddPermObj = codes "addPermObj"
name_of DeletePermObj = codes "deletePermObj"
name_of AddPermission = codes "addPermission"
name_of DeletePermission = codes "deletePermission"
name_of GrantPermission = codes "grantPermission"
name_of RevokePermission = codes "revokePermission"
name_of AssignUser = codes "assignUser"
name_of DeassignUser = codes "deassignUser"
name_of AddInheritance = codes "addInheritance"
name_of DeleteInheritance = codes "deleteInheritance"
name_of AddAscendant = codes "addAscendant"
name_of AddDescendant = codes "addDescendant"
name_of CreateSsdSet = codes "createSsdSet"
name_of AddSsdRoleMember = codes "addSsdRoleMember"
name_of DeleteSsdRoleMember = codes "deleteSsdRoleMember"
name_of SetSsdSetCardinality = codes "setSsdSetCardinality"
name_of DeleteSsdSet = codes "deleteSsdSet"
name_of CreateDsdSet = codes "createDsdSet"
name_of AddDsdRoleMember = codes "addDsdRoleMember"
name_of DeleteDsdRoleMember = codes "deleteDsdRoleMember"
name_of SetDsdSetCardinality = codes "setDsdSetCardinality"
name_of DeleteDsdSet = codes "deleteDsdSet"
name_of CreateSession = codes "createSession"
name_of DeleteSession = codes "deleteSession"
name_of AddActiveRole = codes "addActiveRole"
name_of DropActiveRole = codes "dropActiveRole"
name_of LockUserAccount = codes "lockUserAccount"
name_of UnlockUserAccount = codes "unlockUserAccount"
name_of ImportAssignments = codes "importAssignments"
name_of CheckAccess = codes "checkAccess"
name_of AssignedUsers = codes "assignedUsers"
name_of AssignedRoles = codes "assignedRoles"
name_of AuthorizedUsers = codes "authorizedUsers"
name_of AuthorizedRoles = codes "authorizedRoles"
name_of RolePermissions = codes "rolePermissions"
name_of UserPermissions = codes "userPermissions"
name_of SessionRoles = codes "sessionRoles"
name_of SessionPermissions = codes "sessionPermissions"
name_of RoleOperationsOnObject = codes "roleOperationsOnObject"
name_of UserOperationsOnObject = codes "userOperationsOnObject"
name_of SsdRoleSets = codes "ssdRoleSets"
name_of SsdRoleSetRoles = codes "ssdRoleSetRoles"
name_of SsdRoleSetCardinality = codes "ssdRoleSetCardinality"
name_of DsdRoleSets = codes "dsdRoleSets"
name_of DsdRoleSetRoles = codes "dsdRoleSetRoles"
name_of DsdRoleSetCardinality = codes "dsdRoleSetCardinality"
name_of PermissionRoles = codes "permissionRoles"

-- every function, each once
abbrev pub functions : List Function
functions =
    AddUser ∷ DeleteUser ∷ AddRole ∷ DeleteRole ∷ AddPermObj ∷ DeletePermObj ∷ AddPermission ∷ DeletePermission ∷ GrantPermission ∷ RevokePermission ∷ AssignUser ∷ DeassignUser ∷ AddInheritance ∷ DeleteInheritance ∷ AddAscendant ∷ AddDescendant ∷ CreateSsdSet ∷ AddSsdRoleMember ∷ DeleteSsdRoleMember ∷ SetSsdSetCardinality ∷ DeleteSsdSet ∷ CreateDsdSet ∷ AddDsdRoleMember ∷ DeleteDsdRoleMember ∷ SetDsdSetCardinality ∷ DeleteDsdSet ∷ CreateSession ∷ DeleteSession ∷ AddActiveRole ∷ DropActiveRole ∷ LockUserAccount ∷ UnlockUserAccount ∷ ImportAssignments ∷ CheckAccess ∷ AssignedUsers ∷ AssignedRoles ∷ AuthorizedUsers ∷ AuthorizedRoles ∷ RolePermissions ∷ UserPermissions ∷ SessionRoles ∷ SessionPermissions ∷ RoleOperationsOnObject ∷ UserOperationsOnObject ∷ SsdRoleSets ∷ SsdRoleSetRoles ∷ SsdRoleSetCardinality ∷ DsdRoleSets ∷ DsdRoleSetRoles ∷ DsdRoleSetCardinality ∷ PermissionRoles ∷ []

-- the function that a request calls by this name
unfoldable pub function_named : List ℕ → Option Function
function_named name = find (λ function. bytes_eq (name_of function) name) functions

-- whether the body of a call is CSV instead of JSON
abbrev pub takes_csv : Function → Bool
takes_csv ImportAssignments = true
takes_csv _ = false

-- the most bytes of a line
abbrev pub longest_line : ℕ
longest_line = 65536

-- the most bytes of a body that calls the function: those of a file of assignments if it is CSV, otherwise those of a line
abbrev pub longest_body : Function → ℕ
longest_body called = if takes_csv called then limit_of Byte 2 else longest_line
