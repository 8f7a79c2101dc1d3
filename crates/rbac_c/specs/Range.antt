-- Where the rows of a table are that begin with a name. The rows are in the byte order of their first names.
use Rattle.std.specs.Prelude.{◌≡◌, ◌⊎◌, ◌≤◌, ℕ, List, Option, Some, None, count_by}
use Rattle.std.specs.Ordering.{is_le, is_lt}
use Rattle.rbac_sets.specs.Sets.{Bytes, Pair, Pairs, Triple, Cardinality, members, name_cmp}
use Rattle.rbac_sets.specs.Table.{number_of, relation_count}
use Rattle.rbac_sets.specs.declared.table.Table.{Table}
use Rattle.rbac_sets.specs.declared.table.Table.TheVariants.{Users, Roles, Objects, Permissions, Assignments, Inheritances, ClosurePairs, StaticMembers, DynamicMembers, Sessions, ActivatedRoles, Grants, StaticCardinalities, DynamicCardinalities, Locks}
use Rattle.role_order.specs.Order.{IsClosure}
use Rattle.admin_mgr.specs.RbacState.{RbacState}
use Rattle.role_lines.specs.OfficeInMemory.{OfficeInMemory}
use Rattle.rbac_c.specs.Results.{done, closed, absent}

-- `start` rows have a lesser first name, and `end` rows have one that isn't greater: those with this one are from `start` on, up to the
-- one before `end`
abbrev pub IsRange : {Row : Type 0} → (Row → Bytes) → List Row → List ℕ → ℕ → ℕ → Type 0
IsRange name rows first start end =
    (start ≡ count_by (λ row. is_lt (name_cmp (name row) first)) rows) × (end ≡ count_by (λ row. is_le (name_cmp (name row) first)) rows)

abbrev pub IsRangeOfNames : List Bytes → List ℕ → ℕ → ℕ → Type 0
IsRangeOfNames = IsRange (λ name. name)

abbrev pub IsRangeOfPairs : List Pair → List ℕ → ℕ → ℕ → Type 0
IsRangeOfPairs = IsRange (λ (pair : Pair). pair.0)

abbrev pub IsRangeOfTriples : List Triple → List ℕ → ℕ → ℕ → Type 0
IsRangeOfTriples = IsRange (λ (triple : Triple). triple.0)

abbrev pub IsRangeOfCardinalities : List Cardinality → List ℕ → ℕ → ℕ → Type 0
IsRangeOfCardinalities = IsRange (λ (entry : Cardinality). entry.0)

-- these two numbers are those of the rows of the table
abbrev pub HasRange : RbacState → Table → List ℕ → ℕ → ℕ → Type 0
HasRange S Users = IsRangeOfNames (members S.users)
HasRange S Roles = IsRangeOfNames (members S.roles)
HasRange S Objects = IsRangeOfNames (members S.objects)
HasRange S Permissions = IsRangeOfPairs (members S.permissions)
HasRange S Assignments = IsRangeOfPairs (members S.assignments)
HasRange S Inheritances = IsRangeOfPairs (members S.edges)
HasRange S ClosurePairs = λ first start end. (pairs : Pairs) × IsClosure S.edges pairs × IsRangeOfPairs (members pairs) first start end
HasRange S StaticMembers = IsRangeOfPairs (members S.ssd.members)
HasRange S DynamicMembers = IsRangeOfPairs (members S.dsd.members)
HasRange S Sessions = IsRangeOfPairs (members S.sessions)
HasRange S ActivatedRoles = IsRangeOfPairs (members S.active)
HasRange S Grants = IsRangeOfTriples (members S.grants)
HasRange S StaticCardinalities = IsRangeOfCardinalities (members S.ssd.cardinalities)
HasRange S DynamicCardinalities = IsRangeOfCardinalities (members S.dsd.cardinalities)
HasRange S Locks = IsRangeOfNames (members S.locked)

-- the two numbers are written, or there is no such table
abbrev pub FindsRange : Option OfficeInMemory → ℕ → List ℕ → ℕ → ℕ → ℕ → Type 0
FindsRange None table first start end code = (start ≡ 0) × ((end ≡ 0) × (code ≡ closed))
FindsRange (Some office) table first start end code =
    ((t : Table) × ((number_of t ≡ table) × ((code ≡ done) × HasRange office.facts t first start end)))
    ⊎ ((start ≡ 0) × ((end ≡ 0) × ((code ≡ absent) × (relation_count ≤ table))))
