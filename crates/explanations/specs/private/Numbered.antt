-- What this crate looks for by the numbers of roles: a role's number is its place among the roles in byte order.
use Rattle.std.specs.Prelude.{ℕ, Bool, cond, not, nat_lt, List, [], ◌∷◌, ◌++◌, map, filter, find, Option, None}
use Rattle.std.specs.List.{list_any}
use Rattle.std.specs.Option.{option_map}
use Rattle.rbac_sets.specs.Sets.{Bytes, Pair, Pairs, Cardinality}
use Rattle.order_matrix.specs.Table.{Table, entry, numbers_of}
use Rattle.admin_mgr.specs.private.HolderRoles.{run_of}
use Rattle.admin_mgr.specs.private.NumberedSeparation.{count_reached}
use Rattle.explanations.specs.private.Found.{conflicts_with}

-- whether no fewer of the members than the cardinality are one of the roles, or a junior of one
abbrev pub has_too_many : Table → List ℕ → List ℕ → ℕ → Bool
has_too_many table held members cardinality = not (nat_lt (count_reached table held members) cardinality)

-- the names of the sets, pairs (set, cardinality), for which this holds
abbrev pub numbered_violated : Table → List Bytes → List ℕ → Pairs → List Cardinality → List Bytes
numbered_violated table roles held pairs sets =
    map (λ (set : Cardinality). set.0) (filter (λ (set : Cardinality). has_too_many table held (numbers_of roles (run_of pairs set.0)) set.1) sets)

-- the holders with the numbers of their roles, of the pairs (holder, role), and one more number
abbrev pub number_roles : List Bytes → Pairs → ℕ → List Bytes → List (Bytes × List ℕ)
number_roles roles pairs more holders = map (λ holder. (holder, numbers_of roles (run_of pairs holder) ++ more ∷ [])) holders

-- the first of the holders that has no fewer of the members than the cardinality
abbrev pub first_reaching : Table → List (Bytes × List ℕ) → List ℕ → ℕ → Option Bytes
first_reaching table holders members cardinality =
    option_map (λ (holder : Bytes × List ℕ). holder.0) (find (λ (holder : Bytes × List ℕ). has_too_many table holder.1 members cardinality) holders)

-- the same if one of the members is a role or a junior of it
abbrev pub first_violating : Table → List (Bytes × List ℕ) → ℕ → List ℕ → ℕ → Option Bytes
first_violating table holders more members cardinality = cond (list_any (λ member. entry table more member) members) (first_reaching table holders members cardinality) None

-- the sets with the first holder of each, if it has one
abbrev pub numbered_conflicts : Table → List Bytes → List (Bytes × List ℕ) → ℕ → Pairs → List Cardinality → List Pair
numbered_conflicts table roles holders more pairs sets =
    conflicts_with (λ members cardinality. first_violating table holders more (numbers_of roles members) cardinality) pairs sets
