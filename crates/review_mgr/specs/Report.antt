-- The role report: one heading line, then one line for each role in byte order.
use Rattle.std.specs.Prelude.{ℕ, ◌-◌, length, replicate, List, [], ◌∷◌, ◌++◌, codes}
use Rattle.std.specs.Fmt.{decimal}
use Rattle.rbac_sets.specs.Sets.{Bytes, Triple, count, len, members, same_name}
use Rattle.role_order.specs.Order.{juniors, seniors}
use Rattle.admin_mgr.specs.RbacState.{RbacState}
use Rattle.admin_mgr.specs.Authorization.{authorized_users, authorized_permissions}
use Rattle.review_mgr.specs.Review.{assigned_users}

-- a number, right-aligned in twelve places
abbrev pub column : ℕ → List ℕ
column number = replicate (12 - length (decimal number)) 32 ++ decimal number

-- the columns of numbers, one after another
abbrev pub columns : List ℕ → List ℕ
columns [] = []
columns (number ∷ numbers) = column number ++ columns numbers

-- a line: the numbers and the name
abbrev pub counts_of : List ℕ → Bytes → List ℕ
counts_of numbers name = columns numbers ++ (codes "  " ++ (name ++ codes "\n"))

-- how many assigned users, authorized users, directly granted permissions, permissions, juniors and seniors a role has
unfoldable pub line_of : RbacState → Bytes → List ℕ
line_of S role = counts_of (
    len (assigned_users S role)
    ∷ len (authorized_users S role)
    ∷ count (λ (grant : Triple). same_name grant.2 role) S.grants
    ∷ len (authorized_permissions S role)
    ∷ len (juniors S.edges role)
    ∷ len (seniors S.edges role)
    ∷ []) role

-- the first line
abbrev pub heading : List ℕ
heading = codes "    assigned  authorized     granted   permitted     juniors     seniors  role\n"

-- the lines of these roles
abbrev pub lines_of : RbacState → List Bytes → List ℕ
lines_of S [] = []
lines_of S (role ∷ roles) = line_of S role ++ lines_of S roles

-- the whole text: the heading, then a line for each role in byte order
unfoldable pub report : RbacState → List ℕ
report S = heading ++ lines_of S (members S.roles)
