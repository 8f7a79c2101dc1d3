-- The state after an accepted command. Each clause of `changed` is the function of this name, of the standard or of this office.
use Rattle.std.specs.Prelude.{ℕ, not, ◌&&◌}
use Rattle.rbac_sets.specs.Sets.{Bytes, Names, Pairs, Cardinalities, name_cmp, image, same_name, insert, remove, retain, union}
use Rattle.rbac_sets.specs.SortedSet.{set_of}
use Rattle.rbac_sets.specs.declared.command.Command.{Command}
use Rattle.rbac_sets.specs.declared.command.Command.TheVariants.{AddUser, DeleteUser, AddRole, DeleteRole, AddPermObj, DeletePermObj, AddPermission, DeletePermission, GrantPermission, RevokePermission, AssignUser, DeassignUser, AddInheritance, DeleteInheritance, AddAscendant, AddDescendant, CreateSsdSet, AddSsdRoleMember, DeleteSsdRoleMember, SetSsdSetCardinality, DeleteSsdSet, CreateDsdSet, AddDsdRoleMember, DeleteDsdRoleMember, SetDsdSetCardinality, DeleteDsdSet, CreateSession, DeleteSession, AddActiveRole, DropActiveRole, ImportAssignments, LockUserAccount, UnlockUserAccount}
use Rattle.admin_mgr.specs.RbacState.{RbacState, Separation}
use Rattle.admin_mgr.specs.Assignment.{after_import, end_sessions}

-- the pairs of a name and each of the others
abbrev pub paired : Bytes → Names → Pairs
paired name others = image (λ other. (name, other)) others

-- the pairs whose first part is another name
abbrev pub without_first : Bytes → Pairs → Pairs
without_first name pairs = retain pairs (λ pair. not (same_name pair.0 name))

-- the pairs whose second part is another name
abbrev pub without_second : Bytes → Pairs → Pairs
without_second name pairs = retain pairs (λ pair. not (same_name pair.1 name))

-- the cardinalities of the other sets
abbrev pub without_cardinality : Bytes → Cardinalities → Cardinalities
without_cardinality name cardinalities = retain cardinalities (λ entry. not (same_name entry.0 name))

module _ (separation : Separation) where
  -- one more set, with its roles and its cardinality
  abbrev pub with_set : Bytes → Names → ℕ → Separation
  with_set name roles cardinality = record {
    members = union separation.members (paired name roles);
    cardinalities = insert separation.cardinalities (name, cardinality);
  }

  -- one more role in a set
  abbrev pub with_member : Bytes → Bytes → Separation
  with_member name role = record separation { members = insert separation.members (name, role) }

  -- one role less in a set
  abbrev pub without_member : Bytes → Bytes → Separation
  without_member name role = record separation { members = remove separation.members (name, role) }

  -- a set with this cardinality instead of its own
  abbrev pub with_cardinality : Bytes → ℕ → Separation
  with_cardinality name cardinality = record separation {
    cardinalities = insert (without_cardinality name separation.cardinalities) (name, cardinality);
  }

  -- without a set and its roles
  abbrev pub without_set : Bytes → Separation
  without_set name = record {
    members = without_first name separation.members;
    cardinalities = without_cardinality name separation.cardinalities;
  }

-- the sets and relations with what the command itself adds, removes or sets, before any session ends
unfoldable pub changed : RbacState → Command → RbacState
changed S (AddUser user) = record S { users = insert S.users user }
changed S (DeleteUser user) = record S {
  users = remove S.users user;
  locked = remove S.locked user;
  assignments = without_first user S.assignments;
}
changed S (AddRole role) = record S { roles = insert S.roles role }
changed S (DeleteRole role) = record S {
  roles = remove S.roles role;
  assignments = without_second role S.assignments;
  grants = retain S.grants (λ grant. not (same_name grant.2 role));
}
changed S (AddPermObj object) = record S { objects = insert S.objects object }
changed S (DeletePermObj object) = record S { objects = remove S.objects object }
changed S (AddPermission object operation) = record S { permissions = insert S.permissions (object, operation) }
changed S (DeletePermission object operation) = record S {
  permissions = remove S.permissions (object, operation);
  grants = retain S.grants (λ grant. not (same_name grant.0 object && same_name grant.1 operation));
}
changed S (GrantPermission object operation role) = record S { grants = insert S.grants (object, operation, role) }
changed S (RevokePermission object operation role) = record S { grants = remove S.grants (object, operation, role) }
changed S (AssignUser user role) = record S { assignments = insert S.assignments (user, role) }
changed S (DeassignUser user role) = record S { assignments = remove S.assignments (user, role) }
changed S (AddInheritance asc desc) = record S { edges = insert S.edges (asc, desc) }
changed S (DeleteInheritance asc desc) = record S { edges = remove S.edges (asc, desc) }
changed S (AddAscendant asc desc) = record S { roles = insert S.roles asc; edges = insert S.edges (asc, desc) }
changed S (AddDescendant asc desc) = record S { roles = insert S.roles desc; edges = insert S.edges (asc, desc) }
changed S (CreateSsdSet name roles cardinality) = record S { ssd = with_set S.ssd name (set_of name_cmp roles) cardinality }
changed S (AddSsdRoleMember name role) = record S { ssd = with_member S.ssd name role }
changed S (DeleteSsdRoleMember name role) = record S { ssd = without_member S.ssd name role }
changed S (SetSsdSetCardinality name cardinality) = record S { ssd = with_cardinality S.ssd name cardinality }
changed S (DeleteSsdSet name) = record S { ssd = without_set S.ssd name }
changed S (CreateDsdSet name roles cardinality) = record S { dsd = with_set S.dsd name (set_of name_cmp roles) cardinality }
changed S (AddDsdRoleMember name role) = record S { dsd = with_member S.dsd name role }
changed S (DeleteDsdRoleMember name role) = record S { dsd = without_member S.dsd name role }
changed S (SetDsdSetCardinality name cardinality) = record S { dsd = with_cardinality S.dsd name cardinality }
changed S (DeleteDsdSet name) = record S { dsd = without_set S.dsd name }
changed S (CreateSession user roles session) = record S {
  sessions = insert S.sessions (session, user);
  active = union S.active (paired session (set_of name_cmp roles));
}
changed S (DeleteSession user session) = record S {
  sessions = remove S.sessions (session, user);
  active = without_first session S.active;
}
changed S (AddActiveRole user session role) = record S { active = insert S.active (session, role) }
changed S (DropActiveRole user session role) = record S { active = remove S.active (session, role) }
changed S (ImportAssignments pairs) = after_import S pairs.items
changed S (LockUserAccount user) = record S { locked = insert S.locked user }
changed S (UnlockUserAccount user) = record S { locked = remove S.locked user }

-- the state after the command: sessions that may not go on have ended
unfoldable pub after : RbacState → Command → RbacState
after S command = end_sessions (changed S command)
