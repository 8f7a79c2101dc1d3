-- A state with one row more or less, stored sets with one row more, and changes one after the other. No change of one row touches the
-- rows of the role hierarchy: these change all at once, with its edges.
use Rattle.std.specs.Prelude.{◌≡◌, ℕ, ◌+◌, ◌≤◌, Bool, true, false, ◌&&◌, ◌||◌, nat_eq, if◌then◌else◌, List, [], ◌∷◌}
use Rattle.rbac_sets.specs.Sets.{Pairs, insert, remove, contains}
use Rattle.rbac_sets.specs.declared.row.Row.{Row}
use Rattle.rbac_sets.specs.declared.row.Row.TheVariants.{NameRow, PairRow, GrantRow, SetRow, LockedRow}
use Rattle.rbac_sets.specs.RowKinds.{user_kind, role_kind, object_kind, permission_kind, assignment_kind, static_member_kind, dynamic_member_kind, session_kind, activated_role_kind, static_cardinality_kind, dynamic_cardinality_kind, inheritance_kind, closure_pair_kind}
use Rattle.rbac_sets.specs.declared.row.Change.{Change}
use Rattle.rbac_sets.specs.declared.row.Change.TheVariants.{Put, Take}
use Rattle.admin_mgr.specs.RbacState.{RbacState, has_set}
use Rattle.admin_mgr.specs.Rows.{has_row, has_name, has_pair}
use Rattle.admin_mgr.specs.RowUpdates.{puts_at, with_edges}
use Rattle.admin_mgr.specs.StoredSets.{StoredSets}

-- a row of a set that changes row by row
abbrev pub is_plain : Row → Bool
is_plain (NameRow kind a) = nat_eq kind user_kind || nat_eq kind role_kind || nat_eq kind object_kind
is_plain (PairRow kind a b) = nat_eq kind permission_kind || nat_eq kind assignment_kind || nat_eq kind static_member_kind || nat_eq kind dynamic_member_kind || nat_eq kind session_kind || nat_eq kind activated_role_kind
is_plain (GrantRow a b c) = true
is_plain (SetRow kind a n) = nat_eq kind static_cardinality_kind || nat_eq kind dynamic_cardinality_kind
is_plain (LockedRow a) = true

-- the state with one row more
unfoldable pub with_row : RbacState → Row → RbacState
with_row S (NameRow kind a) = record S {
  users = if nat_eq kind user_kind then insert S.users a else S.users;
  roles = if nat_eq kind role_kind then insert S.roles a else S.roles;
  objects = if nat_eq kind object_kind then insert S.objects a else S.objects;
}
with_row S (PairRow kind a b) = record S {
  permissions = if nat_eq kind permission_kind then insert S.permissions (a, b) else S.permissions;
  assignments = if nat_eq kind assignment_kind then insert S.assignments (a, b) else S.assignments;
  ssd = record S.ssd { members = if nat_eq kind static_member_kind then insert S.ssd.members (a, b) else S.ssd.members };
  dsd = record S.dsd { members = if nat_eq kind dynamic_member_kind then insert S.dsd.members (a, b) else S.dsd.members };
  sessions = if nat_eq kind session_kind then insert S.sessions (a, b) else S.sessions;
  active = if nat_eq kind activated_role_kind then insert S.active (a, b) else S.active;
}
with_row S (GrantRow a b c) = record S { grants = insert S.grants (a, b, c) }
with_row S (SetRow kind a n) = record S {
  ssd = record S.ssd { cardinalities = if nat_eq kind static_cardinality_kind then insert S.ssd.cardinalities (a, n) else S.ssd.cardinalities };
  dsd = record S.dsd { cardinalities = if nat_eq kind dynamic_cardinality_kind then insert S.dsd.cardinalities (a, n) else S.dsd.cardinalities };
}
with_row S (LockedRow a) = record S { locked = insert S.locked a }

-- the state with one row less
unfoldable pub without_row : RbacState → Row → RbacState
without_row S (NameRow kind a) = record S {
  users = if nat_eq kind user_kind then remove S.users a else S.users;
  roles = if nat_eq kind role_kind then remove S.roles a else S.roles;
  objects = if nat_eq kind object_kind then remove S.objects a else S.objects;
}
without_row S (PairRow kind a b) = record S {
  permissions = if nat_eq kind permission_kind then remove S.permissions (a, b) else S.permissions;
  assignments = if nat_eq kind assignment_kind then remove S.assignments (a, b) else S.assignments;
  ssd = record S.ssd { members = if nat_eq kind static_member_kind then remove S.ssd.members (a, b) else S.ssd.members };
  dsd = record S.dsd { members = if nat_eq kind dynamic_member_kind then remove S.dsd.members (a, b) else S.dsd.members };
  sessions = if nat_eq kind session_kind then remove S.sessions (a, b) else S.sessions;
  active = if nat_eq kind activated_role_kind then remove S.active (a, b) else S.active;
}
without_row S (GrantRow a b c) = record S { grants = remove S.grants (a, b, c) }
without_row S (SetRow kind a n) = record S {
  ssd = record S.ssd { cardinalities = if nat_eq kind static_cardinality_kind then remove S.ssd.cardinalities (a, n) else S.ssd.cardinalities };
  dsd = record S.dsd { cardinalities = if nat_eq kind dynamic_cardinality_kind then remove S.dsd.cardinalities (a, n) else S.dsd.cardinalities };
}
without_row S (LockedRow a) = record S { locked = remove S.locked a }

abbrev pub after_change : RbacState → Change → RbacState
after_change S (Put row) = with_row S row
after_change S (Take row) = without_row S row

-- the state after the changes, one after the other
unfoldable pub after_changes : RbacState → List Change → RbacState
after_changes S [] = S
after_changes S (change ∷ changes) = after_changes (after_change S change) changes

-- if the change puts a plain row, the state doesn't have this row yet
abbrev pub IsFree : RbacState → Change → Type 0
IsFree S (Put row) = (is_plain row && has_row S row) ≡ false
IsFree S (Take row) = Unit {0}

-- this holds of each change in the state after the changes before it
abbrev pub AreFree : RbacState → List Change → Type 0
AreFree S [] = Unit {0}
AreFree S (change ∷ changes) = IsFree S change × AreFree (after_change S change) changes

-- the same tables have no less room, except that the table into which the change puts a row may have room for one entry less
abbrev pub UsesRoom : Change → List (ℕ × ℕ) → List (ℕ × ℕ) → Type 0
UsesRoom change [] [] = Unit {0}
UsesRoom change (old ∷ olds) (new ∷ news) = (old.0 ≡ new.0) × (old.1 ≤ new.1 + (if puts_at old.0 change then 1 else 0)) × UsesRoom change olds news
UsesRoom change _ _ = ⊥

-- the pairs, with that of the row if it is of this kind
abbrev pub with_pair_of : ℕ → Pairs → Row → Pairs
with_pair_of kind pairs (PairRow k a b) = if nat_eq k kind then insert pairs (a, b) else pairs
with_pair_of kind pairs _ = pairs

-- the sets with one row more
abbrev pub with_stored : StoredSets → Row → StoredSets
with_stored g row = record {
  facts = with_edges (with_row g.facts row) (with_pair_of inheritance_kind g.facts.edges row);
  pairs = with_pair_of closure_pair_kind g.pairs row;
}

-- there is a row with the key of this one
unfoldable pub has_key : StoredSets → Row → Bool
has_key g (NameRow kind a) = has_name g.facts kind a
has_key g (PairRow kind a b) = if nat_eq kind closure_pair_kind then contains g.pairs (a, b) else has_pair g.facts kind a b
has_key g (GrantRow a b c) = contains g.facts.grants (a, b, c)
has_key g (SetRow kind a _) = if nat_eq kind static_cardinality_kind then has_set g.facts.ssd a else if nat_eq kind dynamic_cardinality_kind then has_set g.facts.dsd a else false
has_key g (LockedRow a) = contains g.facts.locked a
