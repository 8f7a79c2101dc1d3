-- What the functions of this crate look for, in the rows of a holder, of a permission and of a set. A holder is a user or a session; its
-- rows are the pairs (holder, role) of the roles that are assigned to it, or activated in it.
use Rattle.std.specs.Prelude.{ℕ, Bool, cond, not, ◌&&◌, nat_lt, List, [], map, filter, find, Option, None, count_by}
use Rattle.std.specs.List.{filter_map, flat_map}
use Rattle.std.specs.Option.{option_map}
use Rattle.rbac_sets.specs.Sets.{Bytes, Pair, Pairs, Triple, Cardinality, members}
use Rattle.role_order.specs.Order.{geq}
use Rattle.admin_mgr.specs.RbacState.{RbacState}
use Rattle.admin_mgr.specs.UserAccess.{stands_alone}
use Rattle.admin_mgr.specs.private.HolderRoles.{has_all, is_reached, is_reached_from, is_touched, reached_with, run_of}

-- ---- roles to which a permission is granted, of the rows of its grants

-- the first that the holder has, and that a session may have alone
abbrev pub first_usable : RbacState → List Pair → List Triple → Option Bytes
first_usable S held granted =
    option_map (λ (grant : Triple). grant.2) (find (λ (grant : Triple). is_reached S.edges held grant.2 && stands_alone S grant.2) granted)

-- the first that the holder has
abbrev pub first_served : Pairs → List Pair → List Triple → Option Bytes
first_served edges held granted = option_map (λ (grant : Triple). grant.2) (find (λ (grant : Triple). is_reached edges held grant.2) granted)

-- ---- separation of duty sets, of pairs (set, cardinality)

-- whether the role and its juniors are no fewer of the members than the cardinality
abbrev pub is_full : Pairs → Bytes → List Pair → ℕ → Bool
is_full edges role members cardinality = not (nat_lt (count_by (λ (member : Pair). geq edges role member.1) members) cardinality)

-- the first of the sets for which this holds
abbrev pub first_full : Pairs → Bytes → Pairs → List Cardinality → Option Cardinality
first_full edges role pairs sets = find (λ (entry : Cardinality). is_full edges role (run_of pairs entry.0) entry.1) sets

-- whether the holder has no fewer of the members than the cardinality with one more role
abbrev pub has_too_many_with : Pairs → List Pair → Bytes → List Pair → ℕ → Bool
has_too_many_with edges held more members cardinality = not (nat_lt (reached_with edges held more members) cardinality)

-- the names of the sets for which this holds
abbrev pub violated_with : Pairs → List Pair → Bytes → Pairs → List Cardinality → List Bytes
violated_with edges held more pairs sets =
    map (λ (entry : Cardinality). entry.0) (filter (λ (entry : Cardinality). has_too_many_with edges held more (run_of pairs entry.0) entry.1) sets)

-- ---- the same if a role becomes an immediate ascendant of another one: those who have the ascendant get the descendant

-- the users who are authorized for a role, and the sessions that have it
abbrev pub users_with : RbacState → Bytes → List Bytes
users_with S role = filter (λ user. is_reached S.edges (run_of S.assignments user) role) (members S.users)

abbrev pub sessions_with : RbacState → Bytes → List Bytes
sessions_with S role = map (λ (session : Pair). session.0) (filter (λ (session : Pair). is_reached S.edges (run_of S.active session.0) role) (members S.sessions))

-- the first of the holders that has no fewer of the members than the cardinality with one more role, if this role or a junior of it
-- is one of the members
abbrev pub first_with : Pairs → Pairs → Bytes → List Bytes → List Pair → ℕ → Option Bytes
first_with edges pairs more holders members cardinality =
    cond (is_touched edges more members) (find (λ holder. has_too_many_with edges (run_of pairs holder) more members cardinality) holders) None

-- the sets with the first holder of each, if it has one
abbrev pub conflicts_with : (List Pair → ℕ → Option Bytes) → Pairs → List Cardinality → List Pair
conflicts_with first_of pairs sets =
    filter_map (λ (entry : Cardinality). option_map (λ holder. (entry.0, holder)) (first_of (run_of pairs entry.0) entry.1)) sets

-- ---- the same for somebody who has these roles and their juniors

-- the members that are one of the roles, or a junior of one
abbrev pub had_members : Pairs → List Bytes → List Pair → List Pair
had_members edges roles members = filter (λ (member : Pair). is_reached_from edges roles member.1) members

-- those of each set of which they are no fewer than the cardinality
abbrev pub violated_with_roles : Pairs → List Bytes → Pairs → List Cardinality → List Pair
violated_with_roles edges roles pairs sets =
    flat_map (λ (entry : Cardinality). cond (has_all edges roles (run_of pairs entry.0) entry.1) (had_members edges roles (run_of pairs entry.0)) []) sets
