-- The roles of users and sessions, from their assigned and activated roles, and separation of duty sets by their cardinality.
-- Crates that depend on this one may use these laws.
use Rattle.std.proofs.Common.{◌≡◌, Bool, List, refl, sym, ◌∙◌, ap}
use Rattle.std.specs.Prelude.{count_by, is_some}
use Rattle.std.proofs.lemmas.Bool.{and_parts, and_from}
use Rattle.std.specs.Cmp.{both_ways}
use Rattle.rbac_sets.specs.Sets.{Bytes, Pair, Pairs, Names, Cardinality, same_name, contains, members, retain, seconds, any, count}
use Rattle.rbac_sets.specs.NameOrder.{name_total, name_exact, pair_total, pair_exact}
use Rattle.rbac_sets.proofs.SetLaws.{image-Decides, any-Decides, contains-retain, seconds-Decides}
use Rattle.rbac_sets.proofs.Lists.{is_some_found}
use Rattle.role_order.specs.Order.{geq}
use Rattle.role_order.proofs.Runs.{any_seconds, count_seconds}
use Rattle.admin_mgr.specs.RbacState.{RbacState, Separation, cardinality_of, has_set}
use Rattle.admin_mgr.specs.Authorization.{authorized_users, is_authorized, is_session_role}
use Rattle.admin_mgr.specs.private.HolderRoles.{run_of, is_reached, reached_roles, reached_members}

-- a user is authorized for the roles that are reachable from the user's assignments
pub authorized_reached : (S : RbacState) (user role : Bytes) → is_authorized S user role ≡ is_reached S.edges (run_of S.assignments user) role
unfolding authorized_users
authorized_reached S user role =
    let test : Pair → Bool = λ a. geq S.edges a.1 role in
    let found = image-Decides pair_total pair_exact name_total name_exact (λ (a : Pair). a.0) (retain S.assignments test) user in
    let above = any-Decides name_total name_exact (λ r. geq S.edges r role) (seconds S.assignments user) in
    both_ways _ _
    (λ h. (let one = found.0 h in
    let parts = and_parts _ _ (sym (contains-retain pair_total pair_exact S.assignments test one.0) ∙ one.1) in
    above.1 (one.0.1, (seconds-Decides S.assignments user one.0.1).1 (sym (ap (λ u. contains S.assignments (u, one.0.1)) one.2) ∙ parts.0), parts.1)))
    (λ h. (let one = above.0 h in
    found.1 (
      (user, one.0),
      contains-retain pair_total pair_exact S.assignments test (user, one.0)
          ∙ and_from _ _ ((seconds-Decides S.assignments user one.0).0 one.1) one.2,
      refl,
    )))
    ∙ any_seconds (λ r. geq S.edges r role) S.assignments user

-- a session has the roles that are reachable from the roles activated in it
pub session_reached : (S : RbacState) (session role : Bytes) → is_session_role S session role ≡ is_reached S.edges (run_of S.active session) role
session_reached S session role = any_seconds (λ r. geq S.edges r role) S.active session

-- ---- how many of some roles users and sessions have

pub authorized_roles_count : (S : RbacState) (user : Bytes) (roles : Names) →
    count (is_authorized S user) roles ≡ reached_roles S.edges (run_of S.assignments user) (members roles)
unfolding count
authorized_roles_count S user roles = λ i. count_by (λ role. authorized_reached S user role i) (members roles)

pub session_roles_count : (S : RbacState) (session : Bytes) (roles : Names) →
    count (is_session_role S session) roles ≡ reached_roles S.edges (run_of S.active session) (members roles)
unfolding count
session_roles_count S session roles = λ i. count_by (λ role. session_reached S session role i) (members roles)

-- the members of a set by their run
pub reached_seconds : (edges : Pairs) (held : List Pair) (pairs : Pairs) (name : Bytes) → reached_roles edges held (members (seconds pairs name)) ≡ reached_members edges held (run_of pairs name)
unfolding count
reached_seconds edges held = count_seconds (is_reached edges held)

pub authorized_members_count : (S : RbacState) (user : Bytes) (pairs : Pairs) (name : Bytes) →
    count (is_authorized S user) (seconds pairs name) ≡ reached_members S.edges (run_of S.assignments user) (run_of pairs name)
authorized_members_count S user pairs name = authorized_roles_count S user (seconds pairs name) ∙ reached_seconds S.edges (run_of S.assignments user) pairs name

pub session_members_count : (S : RbacState) (session : Bytes) (pairs : Pairs) (name : Bytes) →
    count (is_session_role S session) (seconds pairs name) ≡ reached_members S.edges (run_of S.active session) (run_of pairs name)
session_members_count S session pairs name = session_roles_count S session (seconds pairs name) ∙ reached_seconds S.edges (run_of S.active session) pairs name

-- ---- sets by their cardinality

-- a separation of duty set is there exactly if it has a cardinality
pub is_some_cardinality : (separation : Separation) (name : Bytes) → is_some (cardinality_of separation name) ≡ has_set separation name
unfolding cardinality_of any
is_some_cardinality separation name = is_some_found (λ (entry : Cardinality). entry.1) (λ (entry : Cardinality). same_name entry.0 name) (members separation.cardinalities)
