-- The roles of a holder, which is a user or a session, by its pairs (holder, role): the assignments of the user, or the activated
-- roles of the session. The holder has the roles of these pairs and their juniors: a user is authorized for them, and in a
-- session they are the session roles.
use Rattle.std.specs.Prelude.{ℕ, Bool, not, ◌||◌, ◌&&◌, nat_lt, List, Option, count_by, find}
use Rattle.std.specs.List.{list_any, list_all}
use Rattle.std.specs.Option.{option_map}
use Rattle.rbac_sets.specs.Sets.{Bytes, Pair, Pairs, Cardinality, members}
use Rattle.rbac_sets.specs.declared.refusal.Refusal.{Refusal}
use Rattle.role_order.specs.Order.{geq}
pub use Rattle.role_order.specs.private.Runs.{run_of}
pub use Rattle.admin_mgr.specs.Authorization.{is_reached}
use Rattle.admin_mgr.specs.RbacState.{Separation}

-- how many of the roles the holder has
abbrev pub reached_roles : Pairs → List Pair → List Bytes → ℕ
reached_roles edges held roles = count_by (is_reached edges held) roles

-- how many of the members, pairs (set, role), the holder has
abbrev pub reached_members : Pairs → List Pair → List Pair → ℕ
reached_members edges held members = count_by (λ (member : Pair). is_reached edges held member.1) members

-- how many of the members the holder has if it gets one more role
abbrev pub reached_with : Pairs → List Pair → Bytes → List Pair → ℕ
reached_with edges held more members = count_by (λ (member : Pair). is_reached edges held member.1 || geq edges more member.1) members

-- whether the role is one of these, or a junior of one
abbrev pub is_reached_from : Pairs → List Bytes → Bytes → Bool
is_reached_from edges roles role = list_any (λ (above : Bytes). geq edges above role) roles

-- how many of the members are one of these roles, or a junior of one
abbrev pub reached_from : Pairs → List Bytes → List Pair → ℕ
reached_from edges roles members = count_by (λ (member : Pair). is_reached_from edges roles member.1) members

-- whether one of the members is this role, or a junior of it
abbrev pub is_touched : Pairs → Bytes → List Pair → Bool
is_touched edges role members = list_any (λ (member : Pair). geq edges role member.1) members

-- whether at least as many of the members as the cardinality are one of these roles, or a junior of one
abbrev pub has_all : Pairs → List Bytes → List Pair → ℕ → Bool
has_all edges roles members cardinality = not (nat_lt (reached_from edges roles members) cardinality)

-- whether one of the members is one more role or a junior of it, and the holder that gets this role has at least as many members
-- as the cardinality
abbrev pub has_with : Pairs → List Pair → Bytes → List Pair → ℕ → Bool
has_with edges held more members cardinality = is_touched edges more members && not (nat_lt (reached_with edges held more members) cardinality)

-- the same for some holder of these: each of `runs` has the pairs of one of them
abbrev pub is_violated : Pairs → List (List Pair) → Bytes → List Pair → ℕ → Bool
is_violated edges runs more members cardinality = is_touched edges more members && not (list_all (λ held. nat_lt (reached_with edges held more members) cardinality) runs)

-- the first of the sets, pairs (set, cardinality), whose members and cardinality pass the test
abbrev pub find_set : (List Pair → ℕ → Bool) → Pairs → List Cardinality → Option Cardinality
find_set test pairs sets = find (λ (entry : Cardinality). test (run_of pairs entry.0) entry.1) sets

-- the first of the sets that somebody with these roles violates
abbrev pub find_with_all : Pairs → List Bytes → Pairs → List Cardinality → Option Cardinality
find_with_all edges roles pairs sets = find_set (has_all edges roles) pairs sets

-- the first of the sets that the holder violates if it gets one more role; only sets are considered that have this role or a
-- junior of it as a member
abbrev pub find_with_one : Pairs → List Pair → Bytes → Pairs → List Cardinality → Option Cardinality
find_with_one edges held more pairs sets = find_set (has_with edges held more) pairs sets

-- the first of the sets that one of these holders violates if it gets one more role; only sets are considered that have this role
-- or a junior of it as a member
abbrev pub find_violated : Pairs → List (List Pair) → Bytes → Pairs → List Cardinality → Option Cardinality
find_violated edges runs more pairs sets = find_set (is_violated edges runs more) pairs sets

-- the refusal that names the first of the sets that passes the test
abbrev pub naming_first : (Bytes → Refusal) → (List Pair → ℕ → Bool) → Separation → Option Refusal
naming_first refusal test separation = option_map refusal (option_map (λ (entry : Cardinality). entry.0) (find_set test separation.members (members separation.cardinalities)))
