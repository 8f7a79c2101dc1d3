-- Each accepted command leads from a good state to a good state.
use Rattle.rbac_sets.specs.declared.command.Command.TheVariants.{AddUser, DeleteUser, AddRole, DeleteRole, AddPermObj, DeletePermObj, AddPermission, DeletePermission, GrantPermission, RevokePermission, AssignUser, DeassignUser, AddInheritance, DeleteInheritance, AddAscendant, AddDescendant, CreateSsdSet, AddSsdRoleMember, DeleteSsdRoleMember, SetSsdSetCardinality, DeleteSsdSet, CreateDsdSet, AddDsdRoleMember, DeleteDsdRoleMember, SetDsdSetCardinality, DeleteDsdSet, CreateSession, DeleteSession, AddActiveRole, DropActiveRole, LockUserAccount, UnlockUserAccount, ImportAssignments}
use Rattle.admin_mgr.specs.declared.separation_of_duty.SeparationOfDuty.TheVariants.{Static, Dynamic}
use Rattle.admin_mgr.specs.Laws.{AcceptedIsGood}
use Rattle.admin_mgr.proofs.StateAfter.AdditionLaws.{good_after_add_user, good_after_add_role, good_after_add_perm_obj, good_after_add_permission, good_after_grant_permission}
use Rattle.admin_mgr.proofs.StateAfter.GoodAssignment.{good_after_assign_user}
use Rattle.admin_mgr.proofs.StateAfter.GoodInheritance.{good_after_add_inheritance}
use Rattle.admin_mgr.proofs.Imports.ImportLaws.{good_after_import}
use Rattle.admin_mgr.proofs.StateAfter.NewRoleLaws.{good_after_add_ascendant, good_after_add_descendant}
use Rattle.admin_mgr.proofs.StateAfter.NewSessionLaws.{good_after_create_session, good_after_add_active_role}
use Rattle.admin_mgr.proofs.StateAfter.SetCommandLaws.{good_after_create_set, good_after_add_member, good_after_delete_member, good_after_set_cardinality, good_after_delete_set}
use Rattle.admin_mgr.proofs.StateAfter.RemovalLaws.{good_after_delete_user, good_after_delete_role, good_after_delete_perm_obj, good_after_delete_permission, good_after_revoke_permission, good_after_deassign_user, good_after_delete_inheritance, good_after_delete_session, good_after_drop_active_role, good_after_lock_user_account, good_after_unlock_user_account}

-- a case for each command
pub good_after_accepted : AcceptedIsGood
good_after_accepted S good (AddUser user) accepted = good_after_add_user S good user accepted
good_after_accepted S good (DeleteUser user) accepted = good_after_delete_user S good user accepted
good_after_accepted S good (AddRole role) accepted = good_after_add_role S good role accepted
good_after_accepted S good (DeleteRole role) accepted = good_after_delete_role S good role accepted
good_after_accepted S good (AddPermObj object) accepted = good_after_add_perm_obj S good object accepted
good_after_accepted S good (DeletePermObj object) accepted = good_after_delete_perm_obj S good object accepted
good_after_accepted S good (AddPermission object operation) accepted = good_after_add_permission S good object operation accepted
good_after_accepted S good (DeletePermission object operation) accepted = good_after_delete_permission S good object operation accepted
good_after_accepted S good (GrantPermission object operation role) accepted = good_after_grant_permission S good object operation role accepted
good_after_accepted S good (RevokePermission object operation role) accepted = good_after_revoke_permission S good object operation role accepted
good_after_accepted S good (AssignUser user role) accepted = good_after_assign_user S good user role accepted
good_after_accepted S good (DeassignUser user role) accepted = good_after_deassign_user S good user role accepted
good_after_accepted S good (AddInheritance asc desc) accepted = good_after_add_inheritance S good asc desc accepted
good_after_accepted S good (DeleteInheritance asc desc) accepted = good_after_delete_inheritance S good asc desc accepted
good_after_accepted S good (AddAscendant asc desc) accepted = good_after_add_ascendant S good asc desc accepted
good_after_accepted S good (AddDescendant asc desc) accepted = good_after_add_descendant S good asc desc accepted
good_after_accepted S good (CreateSsdSet name roles n) accepted = good_after_create_set Static S name good roles n accepted
good_after_accepted S good (AddSsdRoleMember name role) accepted = good_after_add_member Static S name good role accepted
good_after_accepted S good (DeleteSsdRoleMember name role) accepted = good_after_delete_member Static S name good role accepted
good_after_accepted S good (SetSsdSetCardinality name n) accepted = good_after_set_cardinality Static S name good n accepted
good_after_accepted S good (DeleteSsdSet name) accepted = good_after_delete_set Static S name good
good_after_accepted S good (CreateDsdSet name roles n) accepted = good_after_create_set Dynamic S name good roles n accepted
good_after_accepted S good (AddDsdRoleMember name role) accepted = good_after_add_member Dynamic S name good role accepted
good_after_accepted S good (DeleteDsdRoleMember name role) accepted = good_after_delete_member Dynamic S name good role accepted
good_after_accepted S good (SetDsdSetCardinality name n) accepted = good_after_set_cardinality Dynamic S name good n accepted
good_after_accepted S good (DeleteDsdSet name) accepted = good_after_delete_set Dynamic S name good
good_after_accepted S good (CreateSession user roles session) accepted = good_after_create_session S good user roles session accepted
good_after_accepted S good (DeleteSession user session) accepted = good_after_delete_session S good user session accepted
good_after_accepted S good (AddActiveRole user session role) accepted = good_after_add_active_role S good user session role accepted
good_after_accepted S good (DropActiveRole user session role) accepted = good_after_drop_active_role S good user session role accepted
good_after_accepted S good (LockUserAccount user) accepted = good_after_lock_user_account S good user accepted
good_after_accepted S good (UnlockUserAccount user) accepted = good_after_unlock_user_account S good user accepted
good_after_accepted S good (ImportAssignments pairs) accepted = good_after_import S good pairs
