-- What a call of each function asks for: one line for each function, with its keys in the order of its arguments.
use Rattle.std.specs.Prelude.{codes, Result, Ok}
use Rattle.serde_json.specs.Data.{Data}
use Rattle.rbac_sets.specs.CommandContent.{Single, Import, without_room}
use Rattle.rbac_sets.specs.declared.command.Command.{Command}
use Rattle.rbac_sets.specs.declared.command.Command.TheVariants as command
use Rattle.rbac_sets.specs.declared.refusal.Refusal.{Refusal}
use Rattle.review_mgr.specs.declared.query.Query.{Query}
use Rattle.review_mgr.specs.declared.query.Query.TheVariants as query
use Rattle.role_csv.specs.Assignments.{assignments}
use Rattle.role_json.specs.Fields.{access_at, activation_at, assignment_at, grant_at, inheritance_at, set_cardinality_at, member_at, name_at, names_at, new_session_at, owned_session_at, permission_at, separation_at, text_at}
use Rattle.role_json.specs.RequestContent.{RequestContent, Change, Ask}
use Rattle.role_json.specs.Steps.{◌>>=◌}
use Rattle.role_functions.specs.declared.function.Function.{Function}
use Rattle.role_functions.specs.declared.function.Function.TheVariants as function

-- the call asks for this command
abbrev pub change : Command → Result RequestContent Refusal
change command = Ok (Change (Single command))

-- the call asks this question
abbrev pub ask : Query → Result RequestContent Refusal
ask query = Ok (Ask query)

-- what a call of a function asks for with the arguments in `value`
unfoldable pub request_to : Function → Data → Result RequestContent Refusal
request_to function.AddUser value = name_at (codes "user") value >>= λ user. change (command.AddUser user)
request_to function.DeleteUser value = name_at (codes "user") value >>= λ user. change (command.DeleteUser user)
request_to function.AddRole value = name_at (codes "role") value >>= λ role. change (command.AddRole role)
request_to function.DeleteRole value = name_at (codes "role") value >>= λ role. change (command.DeleteRole role)
request_to function.AddPermObj value = name_at (codes "object") value >>= λ object. change (command.AddPermObj object)
request_to function.DeletePermObj value = name_at (codes "object") value >>= λ object. change (command.DeletePermObj object)
request_to function.AddPermission value = permission_at value >>= λ p. change (command.AddPermission p.0 p.1)
request_to function.DeletePermission value = permission_at value >>= λ p. change (command.DeletePermission p.0 p.1)
request_to function.GrantPermission value = grant_at value >>= λ p. change (command.GrantPermission p.0 p.1 p.2)
request_to function.RevokePermission value = grant_at value >>= λ p. change (command.RevokePermission p.0 p.1 p.2)
request_to function.AssignUser value = assignment_at value >>= λ p. change (command.AssignUser p.0 p.1)
request_to function.DeassignUser value = assignment_at value >>= λ p. change (command.DeassignUser p.0 p.1)
request_to function.LockUserAccount value = name_at (codes "user") value >>= λ user. change (command.LockUserAccount user)
request_to function.UnlockUserAccount value = name_at (codes "user") value >>= λ user. change (command.UnlockUserAccount user)
request_to function.ImportAssignments value = text_at (codes "csv") value >>= assignments >>= λ pairs. Ok (Change (Import pairs))
request_to function.AddInheritance value = inheritance_at value >>= λ p. change (command.AddInheritance p.0 p.1)
request_to function.DeleteInheritance value = inheritance_at value >>= λ p. change (command.DeleteInheritance p.0 p.1)
request_to function.AddAscendant value = inheritance_at value >>= λ p. change (command.AddAscendant p.0 p.1)
request_to function.AddDescendant value = inheritance_at value >>= λ p. change (command.AddDescendant p.0 p.1)
request_to function.CreateSsdSet value = separation_at value >>= λ p. change (command.CreateSsdSet p.0 (without_room p.1) p.2)
request_to function.AddSsdRoleMember value = member_at value >>= λ p. change (command.AddSsdRoleMember p.0 p.1)
request_to function.DeleteSsdRoleMember value = member_at value >>= λ p. change (command.DeleteSsdRoleMember p.0 p.1)
request_to function.SetSsdSetCardinality value = set_cardinality_at value >>= λ p. change (command.SetSsdSetCardinality p.0 p.1)
request_to function.DeleteSsdSet value = name_at (codes "set") value >>= λ set. change (command.DeleteSsdSet set)
request_to function.CreateDsdSet value = separation_at value >>= λ p. change (command.CreateDsdSet p.0 (without_room p.1) p.2)
request_to function.AddDsdRoleMember value = member_at value >>= λ p. change (command.AddDsdRoleMember p.0 p.1)
request_to function.DeleteDsdRoleMember value = member_at value >>= λ p. change (command.DeleteDsdRoleMember p.0 p.1)
request_to function.SetDsdSetCardinality value = set_cardinality_at value >>= λ p. change (command.SetDsdSetCardinality p.0 p.1)
request_to function.DeleteDsdSet value = name_at (codes "set") value >>= λ set. change (command.DeleteDsdSet set)
request_to function.CreateSession value = new_session_at value >>= λ p. change (command.CreateSession p.0 (without_room p.1) p.2)
request_to function.DeleteSession value = owned_session_at value >>= λ p. change (command.DeleteSession p.0 p.1)
request_to function.AddActiveRole value = activation_at value >>= λ p. change (command.AddActiveRole p.0 p.1 p.2)
request_to function.DropActiveRole value = activation_at value >>= λ p. change (command.DropActiveRole p.0 p.1 p.2)
request_to function.CheckAccess value = access_at value >>= λ p. ask (query.CheckAccess p.0 p.1 p.2)
request_to function.AssignedUsers value = name_at (codes "role") value >>= λ role. ask (query.AssignedUsers role)
request_to function.AssignedRoles value = name_at (codes "user") value >>= λ user. ask (query.AssignedRoles user)
request_to function.AuthorizedUsers value = name_at (codes "role") value >>= λ role. ask (query.AuthorizedUsers role)
request_to function.AuthorizedRoles value = name_at (codes "user") value >>= λ user. ask (query.AuthorizedRoles user)
request_to function.RolePermissions value = name_at (codes "role") value >>= λ role. ask (query.RolePermissions role)
request_to function.UserPermissions value = name_at (codes "user") value >>= λ user. ask (query.UserPermissions user)
request_to function.SessionRoles value = name_at (codes "session") value >>= λ session. ask (query.SessionRoles session)
request_to function.SessionPermissions value = name_at (codes "session") value >>= λ session. ask (query.SessionPermissions session)
request_to function.RoleOperationsOnObject value = names_at (codes "role") (codes "object") value >>= λ p. ask (query.RoleOperationsOnObject p.0 p.1)
request_to function.UserOperationsOnObject value = names_at (codes "user") (codes "object") value >>= λ p. ask (query.UserOperationsOnObject p.0 p.1)
request_to function.PermissionRoles value = permission_at value >>= λ p. ask (query.PermissionRoles p.0 p.1)
request_to function.SsdRoleSets value = ask query.SsdRoleSets
request_to function.SsdRoleSetRoles value = name_at (codes "set") value >>= λ set. ask (query.SsdRoleSetRoles set)
request_to function.SsdRoleSetCardinality value = name_at (codes "set") value >>= λ set. ask (query.SsdRoleSetCardinality set)
request_to function.DsdRoleSets value = ask query.DsdRoleSets
request_to function.DsdRoleSetRoles value = name_at (codes "set") value >>= λ set. ask (query.DsdRoleSetRoles set)
request_to function.DsdRoleSetCardinality value = name_at (codes "set") value >>= λ set. ask (query.DsdRoleSetCardinality set)
