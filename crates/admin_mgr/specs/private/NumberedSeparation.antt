-- Separation of duty over the numbers of roles. A run has the numbers of the roles of one user or session.
use Rattle.std.specs.Prelude.{ℕ, Bool, not, ◌&&◌, nat_lt, List, count_by, find, Option}
use Rattle.std.specs.List.{list_any, list_all}
use Rattle.rbac_sets.specs.Sets.{Bytes, Pairs, Cardinality}
use Rattle.order_matrix.specs.Table.{Table, entry, reaches, numbers_of}
use Rattle.admin_mgr.specs.private.HolderRoles.{run_of}

-- how many of the members are one of these roles, or a junior of one
abbrev pub count_reached : Table → List ℕ → List ℕ → ℕ
count_reached table run members = count_by (reaches table run) members

-- whether for each of the runs fewer of the members than the cardinality are one of its roles or a junior of one
abbrev pub keep_below : Table → List (List ℕ) → List ℕ → ℕ → Bool
keep_below table runs members cardinality = list_all (λ run. nat_lt (count_reached table run members) cardinality) runs

-- whether one of the members is this role or a junior of it, and one of the runs violates the set of these members
abbrev pub is_violated_by : Table → List (List ℕ) → ℕ → List ℕ → ℕ → Bool
is_violated_by table runs role members cardinality = list_any (λ member. entry table role member) members && not (keep_below table runs members cardinality)

-- whether none of the runs violates any of the sets, pairs (set, cardinality)
abbrev pub keep_all : Table → List Bytes → List (List ℕ) → Pairs → List Cardinality → Bool
keep_all table roles runs pairs sets = list_all (λ (set : Cardinality). keep_below table runs (numbers_of roles (run_of pairs set.0)) set.1) sets

-- the first of the sets that one of the runs violates; only sets are considered that have this role or a junior of it as a member
abbrev pub first_violated_by : Table → List Bytes → List (List ℕ) → ℕ → Pairs → List Cardinality → Option Cardinality
first_violated_by table roles runs role pairs sets = find (λ (set : Cardinality). is_violated_by table runs role (numbers_of roles (run_of pairs set.0)) set.1) sets
