-- The checks of the sets that rows make, as tests.
use Rattle.std.specs.Prelude.{Bool, not, ◌&&◌, nat_le, if◌then◌else◌, Option, Some, None}
use Rattle.rbac_sets.specs.Sets.{Names, Pair, Pairs, Triple, Cardinality, all, contains, len, seconds}
use Rattle.rbac_sets.specs.declared.refusal.Refusal.{Refusal}
use Rattle.rbac_sets.specs.declared.refusal.Refusal.TheVariants.{TooMany, Damaged}
use Rattle.admin_mgr.specs.declared.separation_of_duty.SeparationOfDuty.{SeparationOfDuty}
use Rattle.admin_mgr.specs.declared.separation_of_duty.SeparationOfDuty.TheVariants.{Static, Dynamic}
use Rattle.admin_mgr.specs.RbacState.{RbacState, Separation, members_of, has_set, has_session, active_roles}
use Rattle.admin_mgr.specs.Authorization.{is_authorized}
use Rattle.admin_mgr.specs.Separation.{is_kept_statically, is_kept_dynamically}
use Rattle.admin_mgr.specs.StoredSets.{StoredSets}
use Rattle.admin_mgr.specs.RowChecks.{first_exceeded}

-- each pair begins with one of the names
abbrev pub are_firsts_in : Names → Pairs → Bool
are_firsts_in names pairs = all (λ (pair : Pair). contains names pair.0) pairs

-- each pair ends with one of the names
abbrev pub are_seconds_in : Names → Pairs → Bool
are_seconds_in names pairs = all (λ (pair : Pair). contains names pair.1) pairs

-- each member belongs to a set that has a cardinality
abbrev pub have_sets : Separation → Bool
have_sets separation = all (λ (pair : Pair). has_set separation pair.0) separation.members

-- each activated role belongs to a session that exists
abbrev pub have_sessions : RbacState → Bool
have_sessions S = all (λ (pair : Pair). has_session S pair.0) S.active

-- each grant is one of a permission that exists
abbrev pub have_permissions : RbacState → Bool
have_permissions S = all (λ (grant : Triple). contains S.permissions (grant.0, grant.1)) S.grants

-- each grant is one to a role that exists
abbrev pub have_roles : RbacState → Bool
have_roles S = all (λ (grant : Triple). contains S.roles grant.2) S.grants

-- what permissions, grants, assignments and locks refer to exists
abbrev pub is_core_complete : RbacState → Bool
is_core_complete S = are_firsts_in S.objects S.permissions && have_permissions S && have_roles S
    && are_firsts_in S.users S.assignments && are_seconds_in S.roles S.assignments && all (contains S.users) S.locked

-- the roles of edges and closure pairs exist
abbrev pub is_hierarchy_complete : StoredSets → Bool
is_hierarchy_complete g = are_firsts_in g.facts.roles g.facts.edges && are_seconds_in g.facts.roles g.facts.edges
    && are_firsts_in g.facts.roles g.pairs && are_seconds_in g.facts.roles g.pairs

-- the sets and roles of members of separation of duty sets exist
abbrev pub are_sets_complete : RbacState → Bool
are_sets_complete S = have_sets S.ssd && are_seconds_in S.roles S.ssd.members && have_sets S.dsd && are_seconds_in S.roles S.dsd.members

-- the users of sessions, and the sessions and roles of activated roles, exist
abbrev pub are_sessions_complete : RbacState → Bool
are_sessions_complete S = are_seconds_in S.users S.sessions && have_sessions S && are_seconds_in S.roles S.active

-- each user, role, object, permission, session and set that a row refers to exists
abbrev pub is_complete : StoredSets → Bool
is_complete g = is_core_complete g.facts && is_hierarchy_complete g && are_sets_complete g.facts && are_sessions_complete g.facts

-- a session has one user
abbrev pub have_one_user : RbacState → Bool
have_one_user S = all (λ (session : Pair). nat_le (len (seconds S.sessions session.0)) 1) S.sessions

-- the cardinality of each set is at least 2 and at most the number of its members
abbrev pub has_cardinalities : Separation → Bool
has_cardinalities separation = all (λ (entry : Cardinality). nat_le 2 entry.1 && nat_le entry.1 (len (members_of separation entry.0))) separation.cardinalities

-- a session's user is authorized for each role that was activated in it
abbrev pub have_authorized_users : RbacState → Bool
have_authorized_users S = all (λ (session : Pair). all (is_authorized S session.1) (active_roles S session.0)) S.sessions

-- the roles of assignments, of activations and of separation of duty sets exist
abbrev pub are_roles_there : RbacState → Bool
are_roles_there S = are_seconds_in S.roles S.assignments && are_seconds_in S.roles S.active && are_seconds_in S.roles S.ssd.members && are_seconds_in S.roles S.dsd.members

-- no static set is violated
abbrev pub are_kept_statically : RbacState → Bool
are_kept_statically S = all (λ (entry : Cardinality). is_kept_statically S (members_of S.ssd entry.0) entry.1) S.ssd.cardinalities

-- no dynamic set is violated
abbrev pub are_kept_dynamically : RbacState → Bool
are_kept_dynamically S = all (λ (entry : Cardinality). is_kept_dynamically S (members_of S.dsd entry.0) entry.1) S.dsd.cardinalities

-- no set of this kind is violated
abbrev pub are_kept : SeparationOfDuty → RbacState → Bool
are_kept Static S = are_kept_statically S
are_kept Dynamic S = are_kept_dynamically S

-- no locked user has a session
abbrev pub have_unlocked_users : RbacState → Bool
have_unlocked_users S = all (λ (session : Pair). not (contains S.locked session.1)) S.sessions

-- why these sets are refused before the role hierarchy is checked
abbrev pub early_refusal : StoredSets → Option Refusal
early_refusal g = elim (first_exceeded g.facts) [
  | Some kind ↦ Some (TooMany kind)
  | None ↦ if is_complete g then (if have_one_user g.facts then None else Some (Damaged 4)) else Some (Damaged 3)
]

-- why a state is refused whose rows are complete and whose role hierarchy is sound
abbrev pub late_refusal : RbacState → Option Refusal
late_refusal S =
    if has_cardinalities S.ssd && has_cardinalities S.dsd then
    (if have_authorized_users S then
    (if are_kept_statically S then
    (if are_kept_dynamically S then
    (if have_unlocked_users S then None else Some (Damaged 11))
    else Some (Damaged 10))
    else Some (Damaged 9))
    else Some (Damaged 8))
    else Some (Damaged 7)
