-- The state that the fields of `Relations` hold.
use Rattle.std.specs.Prelude.{[], ◌∷◌}
use Rattle.rbac_sets.specs.Sets.{name_cmp, pair_cmp, triple_cmp}
use Rattle.rbac_sets.specs.SortedSet.{set_of}
use Rattle.rbac_sets.specs.Table.{number_of}
use Rattle.rbac_sets.specs.declared.table.Table.TheVariants.{Users, Roles, Objects, Permissions, Assignments, StaticMembers, DynamicMembers, Sessions, ActivatedRoles, Grants, StaticCardinalities, DynamicCardinalities, Locks}
use Rattle.admin_mgr.specs.StateWithRoom.{StateWithRoom, separation_of}
use Rattle.admin_mgr.specs.declared.relations.Relations.TheInside.{Inside}

-- the state, and the room of each set by the number of its table; the role hierarchy has its own two numbers
abbrev pub view_of : Inside → StateWithRoom
view_of a = record {
  facts = record {
    version = a.version;
    users = set_of name_cmp a.users;
    locked = set_of name_cmp a.locked;
    roles = set_of name_cmp a.roles;
    objects = set_of name_cmp a.objects;
    permissions = set_of pair_cmp a.permissions;
    assignments = set_of pair_cmp a.assignments;
    grants = set_of triple_cmp a.grants;
    edges = a.order.edges;
    sessions = set_of pair_cmp a.sessions;
    active = set_of pair_cmp a.active;
    ssd = separation_of a.ssd_members a.ssd_cardinalities;
    dsd = separation_of a.dsd_members a.dsd_cardinalities;
  };
  room = (number_of Users, a.users.room) ∷ (number_of Roles, a.roles.room) ∷ (number_of Objects, a.objects.room)
      ∷ (number_of Permissions, a.permissions.room) ∷ (number_of Assignments, a.assignments.room)
      ∷ (number_of StaticMembers, a.ssd_members.room) ∷ (number_of DynamicMembers, a.dsd_members.room)
      ∷ (number_of Sessions, a.sessions.room) ∷ (number_of ActivatedRoles, a.active.room) ∷ (number_of Grants, a.grants.room)
      ∷ (number_of StaticCardinalities, a.ssd_cardinalities.room) ∷ (number_of DynamicCardinalities, a.dsd_cardinalities.room)
      ∷ (number_of Locks, a.locked.room) ∷ [];
  edge_room = a.order.edge_room;
  pair_room = a.order.pair_room;
}
