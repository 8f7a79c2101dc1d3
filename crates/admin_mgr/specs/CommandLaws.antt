-- What holds of every command: what it may be refused for, and what it may add to a state.
use Rattle.std.specs.Prelude.{◌≡◌, ◌⊎◌, Bool, true, ◌&&◌, ◌||◌, nat_eq, nat_le, Some, IsTrue}
use Rattle.rbac_sets.specs.Refusal.{code_of}
use Rattle.rbac_sets.specs.Sets.{Bytes, contains}
use Rattle.rbac_sets.specs.declared.command.Command.{Command}
use Rattle.rbac_sets.specs.declared.refusal.Refusal.{Refusal}
use Rattle.admin_mgr.specs.RbacState.{RbacState}
use Rattle.admin_mgr.specs.After.{after}
use Rattle.admin_mgr.specs.Verdict.{verdict}
use Rattle.admin_mgr.specs.OfficeRun.{assigns, grants_to}

-- a command may be refused so: by a code from 2 to 32, by 37 UserLocked, or by 51 Version
abbrev pub refuses_commands : Refusal → Bool
refuses_commands refusal = nat_le 2 (code_of refusal) && nat_le (code_of refusal) 32 || nat_eq (code_of refusal) 37 || nat_eq (code_of refusal) 51

-- a verdict is no other refusal: it is never 40 Memory, 41 Store or 42 Closed
abbrev pub VerdictsRefuseCommands : Type 0
VerdictsRefuseCommands = (S : RbacState) (command : Command) (refusal : Refusal) → verdict S command ≡ Some refusal → refuses_commands refusal ≡ true

-- a pair is added to UA only by assignUser of this pair, or by an import that lists it
abbrev pub AssignedByCommand : Type 0
AssignedByCommand = (S : RbacState) (command : Command) (user role : Bytes) → IsTrue (contains (after S command).assignments (user, role)) →
    IsTrue (contains S.assignments (user, role)) ⊎ IsTrue (assigns user role command)

-- a grant is added to PA only by grantPermission of this grant
abbrev pub GrantedByCommand : Type 0
GrantedByCommand = (S : RbacState) (command : Command) (object operation role : Bytes) → IsTrue (contains (after S command).grants (object, operation, role)) →
    IsTrue (contains S.grants (object, operation, role)) ⊎ IsTrue (grants_to object operation role command)

-- no command changes the version
abbrev pub VersionStays : Type 0
VersionStays = (S : RbacState) (command : Command) → (after S command).version ≡ S.version
