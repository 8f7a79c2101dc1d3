-- The rows of an office by their parts: a table, up to three names and a number.
use Rattle.std.specs.Prelude.{◌≡◌, ℕ, List, [], ◌++◌, Option, option_map, slice_get}
use Rattle.rbac_sets.specs.Sets.{Bytes, Pair, Pairs, Triple, Cardinality, members}
use Rattle.rbac_sets.specs.declared.row.Row.{Row}
use Rattle.rbac_sets.specs.declared.row.Row.TheVariants.{NameRow, PairRow, GrantRow, SetRow, LockedRow}
use Rattle.rbac_sets.specs.RowKinds.{user_kind, role_kind, object_kind, permission_kind, assignment_kind, inheritance_kind, closure_pair_kind, static_member_kind, dynamic_member_kind, session_kind, activated_role_kind, static_cardinality_kind, dynamic_cardinality_kind}
use Rattle.rbac_sets.specs.declared.table.Table.{Table}
use Rattle.rbac_sets.specs.declared.table.Table.TheVariants.{Users, Roles, Objects, Permissions, Assignments, Inheritances, ClosurePairs, StaticMembers, DynamicMembers, Sessions, ActivatedRoles, Grants, StaticCardinalities, DynamicCardinalities, Locks}
use Rattle.role_order.specs.Order.{IsClosure}
use Rattle.admin_mgr.specs.RbacState.{RbacState}
use Rattle.role_lines.specs.Decision.{IsNameText}

-- the names of a row and its number; a name that the table doesn't have is empty, and such a number is 0
pub record Parts : Type 0 where
  pub first : List ℕ
  pub second : List ℕ
  pub third : List ℕ
  pub number : ℕ

-- its names, one after the other
abbrev pub names_in : Parts → List ℕ
names_in row = row.first ++ row.second ++ row.third

abbrev pub parts : List ℕ → List ℕ → List ℕ → ℕ → Parts
parts first second third number = record { first = first; second = second; third = third; number = number }

-- ---- the parts of an entry

abbrev pub name_parts : Bytes → Parts
name_parts name = record { first = name; second = []; third = []; number = 0 }

abbrev pub pair_parts : Pair → Parts
pair_parts pair = record { first = pair.0; second = pair.1; third = []; number = 0 }

abbrev pub triple_parts : Triple → Parts
triple_parts triple = record { first = triple.0; second = triple.1; third = triple.2; number = 0 }

abbrev pub cardinality_parts : Cardinality → Parts
cardinality_parts entry = record { first = entry.0; second = []; third = []; number = entry.1 }

-- ---- the row at a place of a table, in the order of the table

abbrev pub name_at : List Bytes → ℕ → Option Parts
name_at names index = option_map name_parts (slice_get names index)

abbrev pub pair_at : List Pair → ℕ → Option Parts
pair_at pairs index = option_map pair_parts (slice_get pairs index)

abbrev pub triple_at : List Triple → ℕ → Option Parts
triple_at triples index = option_map triple_parts (slice_get triples index)

abbrev pub cardinality_at : List Cardinality → ℕ → Option Parts
cardinality_at entries index = option_map cardinality_parts (slice_get entries index)

-- this is the row of the state at this place of the table, or there is none
abbrev pub IsRowAt : RbacState → Table → ℕ → Option Parts → Type 0
IsRowAt S Users index row = row ≡ name_at (members S.users) index
IsRowAt S Roles index row = row ≡ name_at (members S.roles) index
IsRowAt S Objects index row = row ≡ name_at (members S.objects) index
IsRowAt S Permissions index row = row ≡ pair_at (members S.permissions) index
IsRowAt S Assignments index row = row ≡ pair_at (members S.assignments) index
IsRowAt S Inheritances index row = row ≡ pair_at (members S.edges) index
IsRowAt S ClosurePairs index row = (pairs : Pairs) × IsClosure S.edges pairs × (row ≡ pair_at (members pairs) index)
IsRowAt S StaticMembers index row = row ≡ pair_at (members S.ssd.members) index
IsRowAt S DynamicMembers index row = row ≡ pair_at (members S.dsd.members) index
IsRowAt S Sessions index row = row ≡ pair_at (members S.sessions) index
IsRowAt S ActivatedRoles index row = row ≡ pair_at (members S.active) index
IsRowAt S Grants index row = row ≡ triple_at (members S.grants) index
IsRowAt S StaticCardinalities index row = row ≡ cardinality_at (members S.ssd.cardinalities) index
IsRowAt S DynamicCardinalities index row = row ≡ cardinality_at (members S.dsd.cardinalities) index
IsRowAt S Locks index row = row ≡ name_at (members S.locked) index

-- ---- the row with these parts

abbrev pub row_with : Table → Parts → Row
row_with Users parts = NameRow user_kind parts.first
row_with Roles parts = NameRow role_kind parts.first
row_with Objects parts = NameRow object_kind parts.first
row_with Permissions parts = PairRow permission_kind parts.first parts.second
row_with Assignments parts = PairRow assignment_kind parts.first parts.second
row_with Inheritances parts = PairRow inheritance_kind parts.first parts.second
row_with ClosurePairs parts = PairRow closure_pair_kind parts.first parts.second
row_with StaticMembers parts = PairRow static_member_kind parts.first parts.second
row_with DynamicMembers parts = PairRow dynamic_member_kind parts.first parts.second
row_with Sessions parts = PairRow session_kind parts.first parts.second
row_with ActivatedRoles parts = PairRow activated_role_kind parts.first parts.second
row_with Grants parts = GrantRow parts.first parts.second parts.third
row_with StaticCardinalities parts = SetRow static_cardinality_kind parts.first parts.number
row_with DynamicCardinalities parts = SetRow dynamic_cardinality_kind parts.first parts.number
row_with Locks parts = LockedRow parts.first

-- each of its names is one
abbrev pub HasNames : Table → Parts → Type 0
HasNames Permissions parts = IsNameText parts.first × IsNameText parts.second
HasNames Assignments parts = IsNameText parts.first × IsNameText parts.second
HasNames Inheritances parts = IsNameText parts.first × IsNameText parts.second
HasNames ClosurePairs parts = IsNameText parts.first × IsNameText parts.second
HasNames StaticMembers parts = IsNameText parts.first × IsNameText parts.second
HasNames DynamicMembers parts = IsNameText parts.first × IsNameText parts.second
HasNames Sessions parts = IsNameText parts.first × IsNameText parts.second
HasNames ActivatedRoles parts = IsNameText parts.first × IsNameText parts.second
HasNames Grants parts = IsNameText parts.first × IsNameText parts.second × IsNameText parts.third
HasNames _ parts = IsNameText parts.first
