-- The permissions of users and sessions, by the runs of their assigned and activated roles.
use Rattle.std.proofs.Common.{◌≡◌, Bool, List, sym, ◌∙◌, ap}
use Rattle.std.proofs.lemmas.Bool.{and_parts, and_from}
use Rattle.rbac_sets.specs.Sets.{Bytes, Pair, Pairs, Triple, Triples, name_cmp, pair_cmp, same_name, contains, retain, image, seconds}
use Rattle.rbac_sets.specs.NameOrder.{name_total, name_exact, pair_total, pair_exact, triple_total, triple_exact}
use Rattle.rbac_sets.proofs.SetLaws.{image-Decides, contains-retain, seconds-Decides, tie_Decides, same_members}
use Rattle.role_order.specs.Order.{geq}
use Rattle.role_order.proofs.Runs.{any_seconds}
use Rattle.admin_mgr.specs.RbacState.{RbacState}
use Rattle.admin_mgr.specs.Authorization.{session_roles, is_session_role}
use Rattle.admin_mgr.specs.Good.{IsGood}
use Rattle.admin_mgr.specs.private.HolderRoles.{run_of, is_reached}
use Rattle.admin_mgr.proofs.Verdicts.AuthorizationLaws.{session_reached}
use Rattle.review_mgr.specs.Review.{permission_of, assigned_roles, user_permissions, session_permissions}

-- the permissions that are granted to the role of one of these pairs or to a junior of one
abbrev pub reached_permissions : RbacState → List Pair → Pairs
reached_permissions S held = image permission_of (retain S.grants (λ (grant : Triple). is_reached S.edges held grant.2))

pub user_permissions-reached : (S : RbacState) (user : Bytes) → reached_permissions S (run_of S.assignments user) ≡ user_permissions S user
unfolding user_permissions assigned_roles
user_permissions-reached S user = sym (λ i. image permission_of (retain S.grants (λ (grant : Triple). any_seconds (λ role. geq S.edges role grant.2) S.assignments user i)))

-- a granted role is a role of the state, so that it is one of the session's if an activated role equals or dominates it
pub session_permissions-reached : (S : RbacState) → IsGood S → (session : Bytes) → reached_permissions S (run_of S.active session) ≡ session_permissions S session
unfolding session_permissions session_roles
session_permissions-reached S good session =
    let reached : Triple → Bool = λ grant. is_reached S.edges (run_of S.active session) grant.2 in
    let had : Triple → Bool = λ grant. contains (session_roles S session) grant.2 in
    ap (image {Q = pair_cmp} permission_of) (same_members triple_total triple_exact (retain S.grants reached) (retain S.grants had) (λ grant. (
      λ h.
          let parts = and_parts _ _ (sym (contains-retain triple_total triple_exact S.grants reached grant) ∙ h) in
          let role_there = (good.well_formed.grants grant.0 grant.1 grant.2 parts.0).1 in
          contains-retain triple_total triple_exact S.grants had grant
          ∙ and_from _ _ parts.0 (contains-retain name_total name_exact S.roles (is_session_role S session) grant.2
          ∙ and_from _ _ role_there (session_reached S session grant.2 ∙ parts.1)),
      λ h.
          let parts = and_parts _ _ (sym (contains-retain triple_total triple_exact S.grants had grant) ∙ h) in
          let had_parts = and_parts _ _ (sym (contains-retain name_total name_exact S.roles (is_session_role S session) grant.2) ∙ parts.1) in
          contains-retain triple_total triple_exact S.grants reached grant
          ∙ and_from _ _ parts.0 (sym (session_reached S session grant.2) ∙ had_parts.1),
    )))

-- ---- the operations on one object

-- the operations of the grants of the object are those of its permissions
pub seconds-permissions : (grants : Triples) (test : Triple → Bool) (object : Bytes) →
    image {Q = name_cmp} (λ (grant : Triple). grant.1) (retain (retain grants (λ grant. same_name grant.0 object)) test) ≡ seconds (image permission_of (retain grants test)) object
seconds-permissions grants test object =
    let begins : Triple → Bool = λ grant. same_name grant.0 object in
    let by_run = image-Decides triple_total triple_exact name_total name_exact (λ (grant : Triple). grant.1) (retain (retain grants begins) test) in
    let by_pair = image-Decides triple_total triple_exact pair_total pair_exact permission_of (retain grants test) in
    let behind = seconds-Decides (image permission_of (retain grants test)) object in
    same_members name_total name_exact _ _ (λ operation. (
      λ h.
          let found = (by_run operation).0 h in
          let passes = and_parts _ _ (sym (contains-retain triple_total triple_exact (retain grants begins) test found.0) ∙ found.1) in
          let there = and_parts _ _ (sym (contains-retain triple_total triple_exact grants begins found.0) ∙ passes.0) in
          let same = (tie_Decides name_total name_exact found.0.0 object).0 there.1 in
          (behind operation).1 ((by_pair (object, operation)).1
          (found.0, contains-retain triple_total triple_exact grants test found.0 ∙ and_from _ _ there.0 passes.1, λ i. (same i, found.2 i))),
      λ h.
          let found = (by_pair (object, operation)).0 ((behind operation).0 h) in
          let parts = and_parts _ _ (sym (contains-retain triple_total triple_exact grants test found.0) ∙ found.1) in
          let same = (tie_Decides name_total name_exact found.0.0 object).1 (ap (λ (p : Pair). p.0) found.2) in
          (by_run operation).1 (
            found.0,
            contains-retain triple_total triple_exact (retain grants begins) test found.0
                ∙ and_from _ _ (contains-retain triple_total triple_exact grants begins found.0 ∙ and_from _ _ parts.0 same) parts.1,
            ap (λ (p : Pair). p.1) found.2,
          ),
    ))
