-- Separation of duty: no user is authorized for n roles of a static set of cardinality n, and no session has n roles of a dynamic
-- one.
use Rattle.std.specs.Prelude.{ℕ, Bool, not, nat_lt, Option, find}
use Rattle.std.specs.Option.{option_map}
use Rattle.rbac_sets.specs.Sets.{Bytes, Names, Pair, Cardinality, all, count, members}
use Rattle.admin_mgr.specs.RbacState.{RbacState, Separation, members_of}
use Rattle.admin_mgr.specs.Authorization.{is_authorized, is_session_role}

-- each user is authorized for fewer of the roles than the cardinality
unfoldable pub is_kept_statically : RbacState → Names → ℕ → Bool
is_kept_statically S roles cardinality = all (λ user. nat_lt (count (is_authorized S user) roles) cardinality) S.users

-- each session has fewer of the roles than the cardinality
unfoldable pub is_kept_dynamically : RbacState → Names → ℕ → Bool
is_kept_dynamically S roles cardinality = all (λ (session : Pair). nat_lt (count (is_session_role S session.0) roles) cardinality) S.sessions

-- the first set in byte order that is violated: its roles and its cardinality fail the test
unfoldable pub least_violated : (Names → ℕ → Bool) → Separation → Option Bytes
least_violated is_kept separation =
    option_map (λ (entry : Cardinality). entry.0)
    (find (λ (entry : Cardinality). not (is_kept (members_of separation entry.0) entry.1)) (members separation.cardinalities))

-- the first static set that the state violates
abbrev pub static_violation : RbacState → Option Bytes
static_violation S = least_violated (is_kept_statically S) S.ssd

-- the first dynamic set that the state violates
abbrev pub dynamic_violation : RbacState → Option Bytes
dynamic_violation S = least_violated (is_kept_dynamically S) S.dsd
