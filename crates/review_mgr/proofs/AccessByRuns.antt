-- The access decision by runs.
use Rattle.std.proofs.Common.{◌≡◌, Bool, true, not, length, refl, sym, ◌∙◌, ap}
use Rattle.std.specs.Prelude.{IsTrue, ◌==◌, ◌&&◌}
use Rattle.std.specs.List.{filter, list_any}
use Rattle.std.proofs.lemmas.Bool.{and_parts, and_from}
use Rattle.std.specs.Cmp.{both_ways}
use Rattle.rbac_sets.specs.Sets.{Bytes, Pair, Pairs, Triple, same_name, contains, members, retain, any}
use Rattle.rbac_sets.specs.NameOrder.{name_total, name_exact, pair_total, pair_exact, triple_total, triple_exact}
use Rattle.rbac_sets.proofs.SetLaws.{any-Decides, contains-retain, tie_Decides}
use Rattle.rbac_sets.proofs.Members.{members-retain}
use Rattle.rbac_sets.proofs.Lists.{any_filter}
use Rattle.admin_mgr.specs.RbacState.{RbacState, has_session}
use Rattle.admin_mgr.specs.Authorization.{authorized_roles, session_roles, is_authorized, is_session_role, has_access}
use Rattle.admin_mgr.specs.UserAccess.{could_have_access, stands_alone}
use Rattle.admin_mgr.specs.Good.{IsGood}
use Rattle.admin_mgr.specs.private.HolderRoles.{run_of, is_reached}
use Rattle.admin_mgr.proofs.Verdicts.AuthorizationLaws.{authorized_reached, session_reached}
use Rattle.review_mgr.specs.Questions.{has_operation}
use Rattle.review_mgr.specs.Review.{permission_of, is_grant_of}

-- an activated role equals or dominates a role that is granted the permission exactly if the session has access
pub access_reached : (S : RbacState) → IsGood S → (session operation object : Bytes) →
    list_any (λ (grant : Triple). is_reached S.edges (run_of S.active session) grant.2) (filter (is_grant_of object operation) (members S.grants)) ≡ has_access S session operation object
unfolding has_access any session_roles
access_reached S good session operation object =
    let reached : Triple → Bool = λ grant. is_reached S.edges (run_of S.active session) grant.2 in
    let granted = retain S.grants (is_grant_of object operation) in
    let by_run = any-Decides triple_total triple_exact reached granted in
    let by_role = any-Decides name_total name_exact (λ role. contains S.grants (object, operation, role)) (session_roles S session) in
    ap (list_any reached) (sym (members-retain triple_total triple_exact S.grants (is_grant_of object operation)))
    ∙ both_ways _ _
    (λ h.
    let found = by_run.0 h in
    let grant = found.0 in
    let parts = and_parts _ _ (sym (contains-retain triple_total triple_exact S.grants (is_grant_of object operation) grant) ∙ found.1) in
    let same = (tie_Decides pair_total pair_exact (permission_of grant) (object, operation)).0 parts.1 in
    let role_there = (good.well_formed.grants grant.0 grant.1 grant.2 parts.0).1 in
    let of_session : IsTrue (contains (session_roles S session) grant.2) = contains-retain name_total name_exact S.roles (is_session_role S session) grant.2
    ∙ and_from _ _ role_there (session_reached S session grant.2 ∙ found.2) in
    by_role.1 (grant.2, of_session, sym (ap (λ (p : Pair). contains S.grants (p.0, p.1, grant.2)) same) ∙ parts.0))
    (λ h.
    let found = by_role.0 h in
    let role = found.0 in
    let parts = and_parts _ _ (sym (contains-retain name_total name_exact S.roles (is_session_role S session) role) ∙ found.1) in
    let member : IsTrue (contains granted (object, operation, role)) = contains-retain triple_total triple_exact S.grants (is_grant_of object operation) (object, operation, role)
    ∙ and_from _ _ found.2 ((tie_Decides pair_total pair_exact (object, operation) (object, operation)).1 refl) in
    by_run.1 ((object, operation, role), member, sym (session_reached S session role) ∙ parts.1))

-- a user who isn't locked has a role that is granted the permission and stands alone exactly if the user could have access
pub user_access_reached : (S : RbacState) → IsGood S → (user operation object : Bytes) →
    (not (contains S.locked user) && list_any (λ (grant : Triple). is_reached S.edges (run_of S.assignments user) grant.2 && stands_alone S grant.2) (filter (is_grant_of object operation) (members S.grants)))
    ≡ could_have_access S user operation object
unfolding could_have_access any authorized_roles
user_access_reached S good user operation object =
    let usable : Triple → Bool = λ grant. is_reached S.edges (run_of S.assignments user) grant.2 && stands_alone S grant.2 in
    let granted = retain S.grants (is_grant_of object operation) in
    let by_run = any-Decides triple_total triple_exact usable granted in
    let by_role = any-Decides name_total name_exact (λ role. contains S.grants (object, operation, role) && stands_alone S role) (authorized_roles S user) in
    ap (λ b. not (contains S.locked user) && b) (ap (list_any usable) (sym (members-retain triple_total triple_exact S.grants (is_grant_of object operation)))
    ∙ both_ways _ _
    (λ h.
    let found = by_run.0 h in
    let grant = found.0 in
    let parts = and_parts _ _ (sym (contains-retain triple_total triple_exact S.grants (is_grant_of object operation) grant) ∙ found.1) in
    let same = (tie_Decides pair_total pair_exact (permission_of grant) (object, operation)).0 parts.1 in
    let role_there = (good.well_formed.grants grant.0 grant.1 grant.2 parts.0).1 in
    let both = and_parts _ _ found.2 in
    let of_user : IsTrue (contains (authorized_roles S user) grant.2) = contains-retain name_total name_exact S.roles (is_authorized S user) grant.2
    ∙ and_from _ _ role_there (authorized_reached S user grant.2 ∙ both.0) in
    by_role.1 (grant.2, of_user, and_from _ _ (sym (ap (λ (p : Pair). contains S.grants (p.0, p.1, grant.2)) same) ∙ parts.0) both.1))
    (λ h.
    let found = by_role.0 h in
    let role = found.0 in
    let parts = and_parts _ _ (sym (contains-retain name_total name_exact S.roles (is_authorized S user) role) ∙ found.1) in
    let both = and_parts _ _ found.2 in
    let member : IsTrue (contains granted (object, operation, role)) = contains-retain triple_total triple_exact S.grants (is_grant_of object operation) (object, operation, role)
    ∙ and_from _ _ both.0 ((tie_Decides pair_total pair_exact (object, operation) (object, operation)).1 refl) in
    by_run.1 ((object, operation, role), member, and_from _ _ (sym (authorized_reached S user role) ∙ parts.1) both.1)))

-- the operation of a permission is one of OPS
pub any_second : (pairs : Pairs) (first second : Bytes) → contains pairs (first, second) ≡ true → any (λ (pair : Pair). same_name pair.1 second) pairs ≡ true
any_second pairs first second h =
    (any-Decides pair_total pair_exact (λ (pair : Pair). same_name pair.1 second) pairs).1 ((first, second), h, (tie_Decides name_total name_exact second second).1 refl)

pub any-members : (p : Pair → Bool) (pairs : Pairs) → list_any p (members pairs) ≡ any p pairs
unfolding any
any-members p pairs = refl

-- ---- what is there if activated roles or grants are found

-- the session of an activated role is there
pub session_if_activated : (S : RbacState) → IsGood S → (session : Bytes) → not (length (run_of S.active session) == 0) ≡ true → has_session S session ≡ true
unfolding any
session_if_activated S good session activated =
    let of_session : Pair → Bool = λ pair. same_name pair.0 session in
    let found = (any-Decides pair_total pair_exact of_session S.active).0 (any_filter of_session (members S.active) ∙ activated) in
    let owner = good.well_formed.owned found.0.0 found.0.1 found.1 in
    (any-Decides pair_total pair_exact of_session S.sessions).1 ((found.0.0, owner.0), owner.1, found.2)

-- the permission of a grant is there
granted_permission : (S : RbacState) → IsGood S → (operation object : Bytes) → not (length (filter (is_grant_of object operation) (members S.grants)) == 0) ≡ true →
    IsTrue (contains S.permissions (object, operation))
unfolding any
granted_permission S good operation object granted =
    let found = (any-Decides triple_total triple_exact (is_grant_of object operation) S.grants).0 (any_filter (is_grant_of object operation) (members S.grants) ∙ granted) in
    let same = (tie_Decides pair_total pair_exact (permission_of found.0) (object, operation)).0 found.2 in
    sym (ap (contains S.permissions) same) ∙ (good.well_formed.grants found.0.0 found.0.1 found.0.2 found.1).0

-- so its object is
pub object_if_granted : (S : RbacState) → IsGood S → (operation object : Bytes) → not (length (filter (is_grant_of object operation) (members S.grants)) == 0) ≡ true →
    contains S.objects object ≡ true
object_if_granted S good operation object granted = good.well_formed.permissions object operation (granted_permission S good operation object granted)

-- and its operation
pub operation_if_granted : (S : RbacState) → IsGood S → (operation object : Bytes) → not (length (filter (is_grant_of object operation) (members S.grants)) == 0) ≡ true →
    has_operation S operation ≡ true
operation_if_granted S good operation object granted = any_second S.permissions object operation (granted_permission S good operation object granted)
