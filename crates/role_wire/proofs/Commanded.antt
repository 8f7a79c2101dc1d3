-- Each command that a line asks for, except an import, is a value of `Command`.
use Rattle.std.proofs.Common.{◌≡◌, ℕ, List, [], ◌∷◌, map, false, Option, Some, None, Result, Ok, Err, IfOk, refl, ap, ◌∙◌}
use Rattle.std.specs.Prelude.{codes}
use Rattle.std.specs.List.{cons_option, list_any}
use Rattle.std.proofs.lemmas.Bool.{or_parts}
use Rattle.serde_json.specs.Data.{Data}
use Rattle.rbac_sets.specs.CommandContent.{CommandContent, Single, content_of, without_room}
use Rattle.rbac_sets.specs.NameOrder.{name_total, name_exact}
use Rattle.rbac_sets.specs.declared.command.Command.{Command}
use Rattle.rbac_sets.specs.declared.command.Command.TheVariants as command
use Rattle.rbac_sets.specs.declared.refusal.Refusal.{Refusal}
use Rattle.rbac_sets.specs.declared.refusal.Refusal.TheVariants.{UnknownFunction}
use Rattle.rbac_sets.proofs.SetLaws.{from_members}
use Rattle.role_csv.specs.Assignments.{assignments}
use Rattle.role_json.specs.Calls.{change, request_to}
use Rattle.role_json.specs.Fields.{access_at, activation_at, assignment_at, grant_at, inheritance_at, set_cardinality_at, member_at, name_at, names_at, new_session_at, owned_session_at, permission_at, separation_at, text_at}
use Rattle.role_functions.specs.Function.{function_named}
use Rattle.role_json.specs.Request.{json_of, request}
use Rattle.role_json.specs.RequestContent.{RequestContent}
use Rattle.role_json.specs.Steps.{◌>>=◌, or_refuse}
use Rattle.role_functions.specs.declared.function.Function.{Function}
use Rattle.role_functions.specs.declared.function.Function.TheVariants as function
use Rattle.role_wire.specs.LineCommands.{command_read, line_command, commands_in, is_import, LinesHaveCommands}

-- a command asks for this
abbrev IsAskedFor : CommandContent → Type 0
IsAskedFor asked = (command : Command) × (content_of command ≡ asked)

-- if this is asked for, and is no import, a command asks for it
abbrev IsWithCommand : Option CommandContent → Type 0
IsWithCommand None = Unit {0}
IsWithCommand (Some asked) = is_import asked ≡ false → IsAskedFor asked

abbrev IsReadWithCommand : RequestContent → Type 0
IsReadWithCommand requested = IsWithCommand (command_read (Ok requested))

-- ---- what a call asks for

after_step : {A B : Type 0} (first : Result A Refusal) (then : A → Result B Refusal) (P : B → Type 0) → ((a : A) → IfOk (then a) P) → IfOk (first >>= then) P
after_step (Ok a) then P holds = holds a
after_step (Err refusal) then P holds = tt

asks_for : {A : Type 0} (first : Result A Refusal) (command : A → Command) → ((a : A) → content_of (command a) ≡ Single (command a)) → IfOk (first >>= (λ a. change (command a))) IsReadWithCommand
asks_for first command same = after_step first (λ a. change (command a)) IsReadWithCommand (λ a _. (command a, same a))

calls : (called : Function) (value : Data) → IfOk (request_to called value) IsReadWithCommand
unfolding request_to content_of
calls function.AddUser value = asks_for (name_at (codes "user") value) command.AddUser (λ user. refl)
calls function.DeleteUser value = asks_for (name_at (codes "user") value) command.DeleteUser (λ user. refl)
calls function.AddRole value = asks_for (name_at (codes "role") value) command.AddRole (λ role. refl)
calls function.DeleteRole value = asks_for (name_at (codes "role") value) command.DeleteRole (λ role. refl)
calls function.AddPermObj value = asks_for (name_at (codes "object") value) command.AddPermObj (λ object. refl)
calls function.DeletePermObj value = asks_for (name_at (codes "object") value) command.DeletePermObj (λ object. refl)
calls function.AddPermission value = asks_for (permission_at value) (λ p. command.AddPermission p.0 p.1) (λ p. refl)
calls function.DeletePermission value = asks_for (permission_at value) (λ p. command.DeletePermission p.0 p.1) (λ p. refl)
calls function.GrantPermission value = asks_for (grant_at value) (λ p. command.GrantPermission p.0 p.1 p.2) (λ p. refl)
calls function.RevokePermission value = asks_for (grant_at value) (λ p. command.RevokePermission p.0 p.1 p.2) (λ p. refl)
calls function.AssignUser value = asks_for (assignment_at value) (λ p. command.AssignUser p.0 p.1) (λ p. refl)
calls function.DeassignUser value = asks_for (assignment_at value) (λ p. command.DeassignUser p.0 p.1) (λ p. refl)
calls function.LockUserAccount value = asks_for (name_at (codes "user") value) command.LockUserAccount (λ user. refl)
calls function.UnlockUserAccount value = asks_for (name_at (codes "user") value) command.UnlockUserAccount (λ user. refl)
calls function.ImportAssignments value = after_step (text_at (codes "csv") value >>= assignments) _ IsReadWithCommand (λ pairs no. absurd (cc))
calls function.AddInheritance value = asks_for (inheritance_at value) (λ p. command.AddInheritance p.0 p.1) (λ p. refl)
calls function.DeleteInheritance value = asks_for (inheritance_at value) (λ p. command.DeleteInheritance p.0 p.1) (λ p. refl)
calls function.AddAscendant value = asks_for (inheritance_at value) (λ p. command.AddAscendant p.0 p.1) (λ p. refl)
calls function.AddDescendant value = asks_for (inheritance_at value) (λ p. command.AddDescendant p.0 p.1) (λ p. refl)
calls function.CreateSsdSet value = asks_for (separation_at value) (λ p. command.CreateSsdSet p.0 (without_room p.1) p.2) (λ p. ap (λ roles. Single (command.CreateSsdSet p.0 (without_room roles) p.2)) (from_members name_total name_exact p.1))
calls function.AddSsdRoleMember value = asks_for (member_at value) (λ p. command.AddSsdRoleMember p.0 p.1) (λ p. refl)
calls function.DeleteSsdRoleMember value = asks_for (member_at value) (λ p. command.DeleteSsdRoleMember p.0 p.1) (λ p. refl)
calls function.SetSsdSetCardinality value = asks_for (set_cardinality_at value) (λ p. command.SetSsdSetCardinality p.0 p.1) (λ p. refl)
calls function.DeleteSsdSet value = asks_for (name_at (codes "set") value) command.DeleteSsdSet (λ set. refl)
calls function.CreateDsdSet value = asks_for (separation_at value) (λ p. command.CreateDsdSet p.0 (without_room p.1) p.2) (λ p. ap (λ roles. Single (command.CreateDsdSet p.0 (without_room roles) p.2)) (from_members name_total name_exact p.1))
calls function.AddDsdRoleMember value = asks_for (member_at value) (λ p. command.AddDsdRoleMember p.0 p.1) (λ p. refl)
calls function.DeleteDsdRoleMember value = asks_for (member_at value) (λ p. command.DeleteDsdRoleMember p.0 p.1) (λ p. refl)
calls function.SetDsdSetCardinality value = asks_for (set_cardinality_at value) (λ p. command.SetDsdSetCardinality p.0 p.1) (λ p. refl)
calls function.DeleteDsdSet value = asks_for (name_at (codes "set") value) command.DeleteDsdSet (λ set. refl)
calls function.CreateSession value = asks_for (new_session_at value) (λ p. command.CreateSession p.0 (without_room p.1) p.2) (λ p. ap (λ roles. Single (command.CreateSession p.0 (without_room roles) p.2)) (from_members name_total name_exact p.1))
calls function.DeleteSession value = asks_for (owned_session_at value) (λ p. command.DeleteSession p.0 p.1) (λ p. refl)
calls function.AddActiveRole value = asks_for (activation_at value) (λ p. command.AddActiveRole p.0 p.1 p.2) (λ p. refl)
calls function.DropActiveRole value = asks_for (activation_at value) (λ p. command.DropActiveRole p.0 p.1 p.2) (λ p. refl)
calls function.CheckAccess value = after_step (access_at value) _ IsReadWithCommand (λ p. tt)
calls function.AssignedUsers value = after_step (name_at (codes "role") value) _ IsReadWithCommand (λ role. tt)
calls function.AssignedRoles value = after_step (name_at (codes "user") value) _ IsReadWithCommand (λ user. tt)
calls function.AuthorizedUsers value = after_step (name_at (codes "role") value) _ IsReadWithCommand (λ role. tt)
calls function.AuthorizedRoles value = after_step (name_at (codes "user") value) _ IsReadWithCommand (λ user. tt)
calls function.RolePermissions value = after_step (name_at (codes "role") value) _ IsReadWithCommand (λ role. tt)
calls function.UserPermissions value = after_step (name_at (codes "user") value) _ IsReadWithCommand (λ user. tt)
calls function.SessionRoles value = after_step (name_at (codes "session") value) _ IsReadWithCommand (λ session. tt)
calls function.SessionPermissions value = after_step (name_at (codes "session") value) _ IsReadWithCommand (λ session. tt)
calls function.RoleOperationsOnObject value = after_step (names_at (codes "role") (codes "object") value) _ IsReadWithCommand (λ p. tt)
calls function.UserOperationsOnObject value = after_step (names_at (codes "user") (codes "object") value) _ IsReadWithCommand (λ p. tt)
calls function.PermissionRoles value = after_step (permission_at value) _ IsReadWithCommand (λ p. tt)
calls function.SsdRoleSets value = tt
calls function.SsdRoleSetRoles value = after_step (name_at (codes "set") value) _ IsReadWithCommand (λ set. tt)
calls function.SsdRoleSetCardinality value = after_step (name_at (codes "set") value) _ IsReadWithCommand (λ set. tt)
calls function.DsdRoleSets value = tt
calls function.DsdRoleSetRoles value = after_step (name_at (codes "set") value) _ IsReadWithCommand (λ set. tt)
calls function.DsdRoleSetCardinality value = after_step (name_at (codes "set") value) _ IsReadWithCommand (λ set. tt)

-- ---- what a line asks for

requests : (line : List ℕ) → IfOk (request line) IsReadWithCommand
unfolding request
requests line =
    after_step (json_of line) _ IsReadWithCommand (λ value.
    after_step (text_at (codes "fn") value) _ IsReadWithCommand (λ name.
    after_step (or_refuse UnknownFunction (function_named name)) _ IsReadWithCommand (λ called.
    calls called value)))

when_read : (read : Result RequestContent Refusal) → IfOk read IsReadWithCommand → IsWithCommand (command_read read)
when_read (Ok requested) is = is
when_read (Err refusal) is = tt

-- ---- what lines ask for

one_more : (asked : Option CommandContent) (rest : List CommandContent) → IsWithCommand asked → (list_any is_import rest ≡ false → (commands : List Command) × (map content_of commands ≡ rest))
    → list_any is_import (cons_option asked rest) ≡ false → (commands : List Command) × (map content_of commands ≡ cons_option asked rest)
one_more None rest is later none = later none
one_more (Some asked) rest is later none =
    let both = or_parts (is_import asked) (list_any is_import rest) none in
    let (command, first) = is both.0 in
    let (commands, same) = later both.1 in
    (command ∷ commands, ap (λ a. a ∷ map content_of commands) first ∙ ap (λ r. asked ∷ r) same)

pub lines_have_commands : LinesHaveCommands
lines_have_commands [] none = ([], refl)
lines_have_commands (line ∷ lines) none = one_more (line_command line) (commands_in lines) (when_read (request line) (requests line)) (lines_have_commands lines) none
