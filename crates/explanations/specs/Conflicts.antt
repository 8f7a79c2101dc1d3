-- The separation of duty sets that a state violates, and the questions for those that it would violate after a command.
use Rattle.std.specs.Prelude.{ℕ, Bool, not, ◌&&◌, nat_lt, List, [], ◌∷◌, map, Option}
use Rattle.std.specs.List.{filter_map, flat_map}
use Rattle.std.specs.Option.{option_map}
use Rattle.rbac_sets.specs.Sets.{Bytes, Names, Pair, Pairs, Cardinality, all, contains, count, members, retain, same_name}
use Rattle.rbac_sets.specs.declared.refusal.Refusal.{Refusal}
use Rattle.rbac_sets.specs.declared.refusal.Refusal.TheVariants.{NoUser, NoRole, Cycle, NoSession, NotOwner, NotAuthorized, UserLocked}
use Rattle.role_order.specs.Order.{geq}
use Rattle.admin_mgr.specs.Authorization.{is_authorized, is_session_role}
use Rattle.admin_mgr.specs.RbacState.{RbacState, Separation, has_session, members_of}
use Rattle.admin_mgr.specs.Refusals.{first, refuse_if, refuse_unless}
use Rattle.admin_mgr.specs.Separation.{is_kept_statically, is_kept_dynamically}
use Rattle.explanations.specs.UserReasons.{least}

-- the sets that are violated, in byte order: their roles and their cardinalities fail the test
unfoldable pub violated_sets : (Names → ℕ → Bool) → Separation → List Bytes
violated_sets is_kept separation =
    map (λ (entry : Cardinality). entry.0)
    (members (retain separation.cardinalities (λ (entry : Cardinality). not (is_kept (members_of separation entry.0) entry.1))))

-- the static sets that the state violates
abbrev pub static_violations : RbacState → List Bytes
static_violations S = violated_sets (is_kept_statically S) S.ssd

-- the dynamic sets that the state violates
abbrev pub dynamic_violations : RbacState → List Bytes
dynamic_violations S = violated_sets (is_kept_dynamically S) S.dsd

-- ---- the same with those who violate them

-- Each set that somebody violates, in byte order, with the first who does. `first_of` says who that is, by the roles of a set and its
-- cardinality.
unfoldable pub violated_by_first : (Names → ℕ → Option Bytes) → Separation → List Pair
violated_by_first first_of separation =
    filter_map (λ (entry : Cardinality). option_map (λ holder. (entry.0, holder)) (first_of (members_of separation entry.0) entry.1))
    (members separation.cardinalities)

-- the first user in byte order who is authorized for no fewer of the roles than the cardinality
unfoldable pub first_user_with : RbacState → Names → ℕ → Option Bytes
first_user_with S roles cardinality = least (retain S.users (λ user. not (nat_lt (count (is_authorized S user) roles) cardinality)))

-- the first session in byte order that has no fewer of the roles than the cardinality
unfoldable pub first_session_with : RbacState → Names → ℕ → Option Bytes
first_session_with S roles cardinality =
    option_map (λ (session : Pair). session.0)
    (least (retain S.sessions (λ (session : Pair). not (nat_lt (count (is_session_role S session.0) roles) cardinality))))

-- the static sets that the state violates, each with the first user
abbrev pub static_conflicts : RbacState → List Pair
static_conflicts S = violated_by_first (first_user_with S) S.ssd

-- the dynamic sets that the state violates, each with the first session
abbrev pub dynamic_conflicts : RbacState → List Pair
dynamic_conflicts S = violated_by_first (first_session_with S) S.dsd

-- ---- the dynamic sets with those of their roles that a session has

-- the roles of a set that the session has, as pairs (set, role)
unfoldable pub had_members : RbacState → Bytes → Bytes → Pairs
had_members S session set = retain S.dsd.members (λ (member : Pair). same_name member.0 set && is_session_role S session member.1)

-- those of each dynamic set that the state violates
unfoldable pub violated_members : RbacState → Bytes → List Pair
violated_members S session = flat_map (λ set. members (had_members S session set)) (dynamic_violations S)

-- ---- the refusals of the questions

-- for an assignment the user and the role have to exist
abbrev pub assignment_refused : RbacState → Bytes → Bytes → Option Refusal
assignment_refused S user role = first (refuse_unless (contains S.users user) NoUser ∷ refuse_unless (contains S.roles role) NoRole ∷ [])

-- for an activation the user, the session and the role have to exist, and the user has to own the session and to be authorized
abbrev pub activation_refusals : RbacState → Bytes → Bytes → Bytes → List (Option Refusal)
activation_refusals S user session role =
    refuse_unless (contains S.users user) NoUser
    ∷ refuse_unless (has_session S session) NoSession
    ∷ refuse_unless (contains S.roles role) NoRole
    ∷ refuse_unless (contains S.sessions (session, user)) NotOwner
    ∷ refuse_unless (is_authorized S user role) NotAuthorized
    ∷ []

abbrev pub activation_refused : RbacState → Bytes → Bytes → Bytes → Option Refusal
activation_refused S user session role = first (activation_refusals S user session role)

-- for a new session the user and the roles have to exist, and the user has to be authorized for them and not to be locked
abbrev pub creation_refusals : RbacState → Bytes → Names → List (Option Refusal)
creation_refusals S user roles =
    refuse_unless (contains S.users user) NoUser
    ∷ refuse_unless (all (contains S.roles) roles) NoRole
    ∷ refuse_unless (all (is_authorized S user) roles) NotAuthorized
    ∷ refuse_if (contains S.locked user) UserLocked
    ∷ []

abbrev pub creation_refused : RbacState → Bytes → Names → Option Refusal
creation_refused S user roles = first (creation_refusals S user roles)

-- for an inheritance the roles have to exist, and the ascendant must be no junior of the descendant
abbrev pub inheritance_refusals : RbacState → Bytes → Bytes → List (Option Refusal)
inheritance_refusals S asc desc =
    refuse_unless (contains S.roles asc) NoRole
    ∷ refuse_unless (contains S.roles desc) NoRole
    ∷ refuse_if (geq S.edges desc asc) Cycle
    ∷ []

abbrev pub inheritance_refused : RbacState → Bytes → Bytes → Option Refusal
inheritance_refused S asc desc = first (inheritance_refusals S asc desc)
