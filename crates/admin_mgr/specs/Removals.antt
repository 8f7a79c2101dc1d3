-- What removals can't do: no decision becomes a yes by one of them.
use Rattle.std.specs.Prelude.{◌≡◌, IsTrue, Bool, true, false}
use Rattle.rbac_sets.specs.Sets.{Bytes}
use Rattle.rbac_sets.specs.declared.command.Command.{Command}
use Rattle.rbac_sets.specs.declared.command.Command.TheVariants.{DeleteUser, DeleteRole, DeletePermObj, DeletePermission, RevokePermission, DeassignUser, DeleteSession, DropActiveRole, LockUserAccount, DeleteSsdRoleMember, DeleteSsdSet, DeleteInheritance, DeleteDsdRoleMember, DeleteDsdSet, SetDsdSetCardinality}
use Rattle.admin_mgr.specs.RbacState.{RbacState}
use Rattle.admin_mgr.specs.Authorization.{has_access}
use Rattle.admin_mgr.specs.After.{after}
use Rattle.admin_mgr.specs.UserAccess.{could_have_access}

-- whether the command locks a user, or only removes what decisions rest on or what no decision reads
abbrev pub only_removes : Command → Bool
only_removes (DeleteUser user) = true
only_removes (DeleteRole role) = true
only_removes (DeletePermObj object) = true
only_removes (DeletePermission object operation) = true
only_removes (RevokePermission object operation role) = true
only_removes (DeassignUser user role) = true
only_removes (DeleteSession user session) = true
only_removes (DropActiveRole user session role) = true
only_removes (LockUserAccount user) = true
only_removes (DeleteSsdRoleMember name role) = true
only_removes (DeleteSsdSet name) = true
only_removes _ = false

-- whether it does so, or removes an inheritance, or removes or changes a dynamic set: then a role may stand alone that didn't before
abbrev pub loosens : Command → Bool
loosens (DeleteInheritance asc desc) = true
loosens (DeleteDsdRoleMember name role) = true
loosens (DeleteDsdSet name) = true
loosens (SetDsdSetCardinality name cardinality) = true
loosens command = only_removes command

-- no such command gives a session access that it didn't have
abbrev pub RemovalsGiveNoSessionAccess : Type 0
RemovalsGiveNoSessionAccess = (S : RbacState) (command : Command) (session operation object : Bytes) → loosens command ≡ true →
    IsTrue (has_access (after S command) session operation object) → IsTrue (has_access S session operation object)

-- and none that only removes lets a user have access that the user couldn't have
abbrev pub RemovalsGiveNoUserAccess : Type 0
RemovalsGiveNoUserAccess = (S : RbacState) (command : Command) (user operation object : Bytes) → only_removes command ≡ true →
    IsTrue (could_have_access (after S command) user operation object) → IsTrue (could_have_access S user operation object)
