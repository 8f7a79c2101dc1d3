-- The roles of a state by their numbers, as the report counts them.
use Rattle.std.specs.Prelude.{◌≡◌, ℕ, List, filter, map}
use Rattle.std.specs.Ordering.{eq_by_cmp}
use Rattle.rbac_sets.specs.Sets.{Bytes, Names, Pair, Pairs, Triple, Triples, pair_cmp, members}
use Rattle.role_order.specs.private.Runs.{run_of}
use Rattle.order_matrix.specs.Table.{number_in, table_of}
use Rattle.admin_mgr.specs.RbacState.{RbacState}
use Rattle.review_mgr.specs.declared.report.numbering.Numbers.{Numbers}

-- of each user, the numbers of the roles that it is assigned
abbrev pub assigned_runs : Names → Names → Pairs → List (List ℕ)
assigned_runs roles users assignments = map (λ (user : Bytes). map (λ (pair : Pair). number_in (members roles) pair.1) (run_of assignments user)) (members users)

-- of each permission, the numbers of the roles that it is granted to
abbrev pub granted_runs : Names → Pairs → Triples → List (List ℕ)
granted_runs roles permissions grants =
    map (λ (permission : Pair). map (λ (grant : Triple). number_in (members roles) grant.2) (filter (λ (grant : Triple). eq_by_cmp pair_cmp (grant.0, grant.1) permission) (members grants))) (members permissions)

-- of each grant, the number of its role
abbrev pub grant_numbers : Names → Triples → List ℕ
grant_numbers roles grants = map (λ (grant : Triple). number_in (members roles) grant.2) (members grants)

-- the numbers are those of the state, and the matrix is that of its roles
pub record IsNumbering (S : RbacState) (numbers : Numbers) : Type 0 where
  pub table : numbers.table ≡ table_of S.edges (members S.roles)
  pub assigned : map (λ run. run.items) numbers.assigned.items ≡ assigned_runs S.roles S.users S.assignments
  pub granted : map (λ run. run.items) numbers.granted.items ≡ granted_runs S.roles S.permissions S.grants
  pub grants : numbers.grants.items ≡ grant_numbers S.roles S.grants
