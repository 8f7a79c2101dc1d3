-- No session and no user gains access by a removal.
use Rattle.std.proofs.Common.{◌≡◌, true, not, ◌&&◌, refl, sym, ◌∙◌, ap, subst, inr}
use Rattle.std.specs.Prelude.{IsTrue, nat_lt}
use Rattle.std.proofs.lemmas.Bool.{and_parts, and_from, not-true, true≢false, false_from_ne_true}
use Rattle.rbac_sets.specs.Sets.{Bytes, Pair, Cardinality, all, contains, count, retain, same_name}
use Rattle.rbac_sets.specs.NameOrder.{name_total, name_exact, pair_total, pair_exact}
use Rattle.rbac_sets.specs.declared.command.Command.{Command}
use Rattle.rbac_sets.specs.declared.command.Command.TheVariants.{DeleteUser, DeleteRole, DeletePermObj, DeletePermission, RevokePermission, DeassignUser, DeleteSession, DropActiveRole, LockUserAccount, DeleteSsdRoleMember, DeleteSsdSet, DeleteInheritance, DeleteDsdRoleMember, DeleteDsdSet, SetDsdSetCardinality}
use Rattle.rbac_sets.proofs.SetLaws.{any-Decides, image-Decides, contains-retain, contains-insert-Decides}
use Rattle.role_order.specs.Order.{geq}
use Rattle.admin_mgr.specs.RbacState.{RbacState, members_of}
use Rattle.admin_mgr.specs.Authorization.{authorized_roles, authorized_users, has_access, is_authorized, is_session_role, session_roles}
use Rattle.admin_mgr.specs.UserAccess.{could_have_access, stands_alone}
use Rattle.admin_mgr.specs.Assignment.{end_sessions}
use Rattle.admin_mgr.specs.After.{after, changed}
use Rattle.admin_mgr.specs.Removals.{only_removes, loosens, RemovalsGiveNoSessionAccess, RemovalsGiveNoUserAccess}
use Rattle.admin_mgr.proofs.StateAfter.EndLaws.{ended_session, ended_active}
use Rattle.admin_mgr.proofs.StateAfter.PartLaws.{IsPart, IsSubset, authorized-fewer, session_role-fewer}
use Rattle.admin_mgr.proofs.StateAfter.RemovalLaws.{user_deleted, role_deleted, object_deleted, permission_deleted, permission_revoked, user_deassigned, inheritance_deleted, session_deleted, role_dropped, other_name, remove-keeps, retain-passes}

-- ---- what a removal leaves

-- T has no more than S of what gives access: a part of S has, but T may have more locks and other separation of duty sets.
pub record GivesLess (T S : RbacState) : Type 0 where
  pub users : IsSubset T.users S.users
  pub roles : IsSubset T.roles S.roles
  pub objects : IsSubset T.objects S.objects
  pub permissions : IsSubset T.permissions S.permissions
  pub assignments : IsSubset T.assignments S.assignments
  pub grants : IsSubset T.grants S.grants
  pub edges : IsSubset T.edges S.edges
  pub sessions : IsSubset T.sessions S.sessions
  pub active : IsSubset T.active S.active

part_less : (T S : RbacState) → IsPart T S → GivesLess T S
part_less T S part = assumption

-- a removal leaves less
changed_less : (S : RbacState) (command : Command) → loosens command ≡ true → GivesLess (changed S command) S
unfolding changed
changed_less S (DeleteUser user) is = part_less _ _ (user_deleted S user)
changed_less S (DeleteRole role) is = part_less _ _ (role_deleted S role)
changed_less S (DeletePermObj object) is = part_less _ _ (object_deleted S object)
changed_less S (DeletePermission object operation) is = part_less _ _ (permission_deleted S object operation)
changed_less S (RevokePermission object operation role) is = part_less _ _ (permission_revoked S object operation role)
changed_less S (DeassignUser user role) is = part_less _ _ (user_deassigned S user role)
changed_less S (DeleteSession user session) is = part_less _ _ (session_deleted S user session)
changed_less S (DropActiveRole user session role) is = part_less _ _ (role_dropped S user session role)
changed_less S (DeleteInheritance asc desc) is = part_less _ _ (inheritance_deleted S asc desc)
changed_less S (LockUserAccount user) is = assumption
changed_less S (DeleteSsdRoleMember name role) is = assumption
changed_less S (DeleteSsdSet name) is = assumption
changed_less S (DeleteDsdRoleMember name role) is = assumption
changed_less S (DeleteDsdSet name) is = assumption
changed_less S (SetDsdSetCardinality name cardinality) is = assumption
changed_less S _ is = absurd (true≢false (sym is))

-- also once sessions have ended
pub after_less : (S : RbacState) (command : Command) → loosens command ≡ true → GivesLess (after S command) S
unfolding after end_sessions
after_less S command is =
    let T = changed S command in
    let less = changed_less S command is in
    let sessions : IsSubset (end_sessions T).sessions S.sessions = λ p h. less.sessions p (ended_session T p h).0 in
    let active : IsSubset (end_sessions T).active S.active = λ p h. less.active p (ended_active T p h).0 in
    assumption

-- ---- sessions

pub session_access-less : (T S : RbacState) → GivesLess T S → (session operation object : Bytes) → IsTrue (has_access T session operation object) → IsTrue (has_access S session operation object)
unfolding has_access session_roles
session_access-less T S less session operation object access =
    let found = (any-Decides name_total name_exact (λ role. contains T.grants (object, operation, role)) (retain T.roles (is_session_role T session))).0 access in
    let role = found.0 in
    let parts = and_parts _ _ (sym (contains-retain name_total name_exact T.roles (is_session_role T session) role) ∙ found.1) in
    (any-Decides name_total name_exact (λ role. contains S.grants (object, operation, role)) (retain S.roles (is_session_role S session))).1 (
      role,
      contains-retain name_total name_exact S.roles (is_session_role S session) role
          ∙ and_from _ _ (less.roles role parts.0) (session_role-fewer S T less.edges less.active session role parts.1),
      less.grants (object, operation, role) found.2,
    )

pub no_session_access : RemovalsGiveNoSessionAccess
no_session_access S command session operation object is = session_access-less (after S command) S (after_less S command is) session operation object

-- ---- users

-- T has all of S that keeps a user from having access, if the user is authorized for some role in T.
pub record KeepsBars (T S : RbacState) : Type 0 where
  pub edges : T.edges ≡ S.edges
  pub dsd : T.dsd ≡ S.dsd
  pub locked : (user role : Bytes) → IsTrue (is_authorized T user role) → IsTrue (contains S.locked user) → IsTrue (contains T.locked user)

-- whoever is authorized for a role is assigned to some role
assigned_above : (S : RbacState) (user role : Bytes) → IsTrue (is_authorized S user role) → (above : Bytes) × IsTrue (contains S.assignments (user, above))
unfolding authorized_users
assigned_above S user role h =
    let found = (image-Decides pair_total pair_exact name_total name_exact (λ (a : Pair). a.0) (retain S.assignments (λ a. geq S.edges a.1 role)) user).0 h in
    let assigned = (and_parts _ _ (sym (contains-retain pair_total pair_exact S.assignments (λ (a : Pair). geq S.edges a.1 role) found.0) ∙ found.1)).0 in
    (found.0.1, subst (λ u. IsTrue (contains S.assignments (u, found.0.1))) found.2 assigned)

-- only the lock of a deleted user is removed, and nobody of this name is authorized then
bars_stay : (S : RbacState) (command : Command) → only_removes command ≡ true → KeepsBars (after S command) S
unfolding after changed end_sessions
bars_stay S (DeleteUser gone) is = record {
  edges = refl;
  dsd = refl;
  locked = λ user role authorized there.
      let assigned = assigned_above (after S (DeleteUser gone)) user role authorized in
      let other = other_name user gone (retain-passes pair_total pair_exact S.assignments (λ (pair : Pair). not (same_name pair.0 gone)) (user, assigned.0) assigned.1) in
      remove-keeps name_total name_exact S.locked gone user there other;
}
bars_stay S (LockUserAccount locked) is = record {
  edges = refl;
  dsd = refl;
  locked = λ user role authorized there. (contains-insert-Decides name_total name_exact S.locked locked user).1 (inr there);
}
bars_stay S (DeleteRole role) is = assumption
bars_stay S (DeletePermObj object) is = assumption
bars_stay S (DeletePermission object operation) is = assumption
bars_stay S (RevokePermission object operation role) is = assumption
bars_stay S (DeassignUser user role) is = assumption
bars_stay S (DeleteSession user session) is = assumption
bars_stay S (DropActiveRole user session role) is = assumption
bars_stay S (DeleteSsdRoleMember name role) is = assumption
bars_stay S (DeleteSsdSet name) is = assumption
bars_stay S _ is = absurd (true≢false (sym is))

-- a role stands alone as before if neither the edges nor the dynamic sets have changed
alone-same : (T S : RbacState) → T.edges ≡ S.edges → T.dsd ≡ S.dsd → (role : Bytes) → stands_alone T role ≡ stands_alone S role
unfolding stands_alone
alone-same T S edges dsd role = λ i. all (λ (entry : Cardinality). nat_lt (count (geq (edges i) role) (members_of (dsd i) entry.0)) entry.1) (dsd i).cardinalities

pub user_access-less : (T S : RbacState) → GivesLess T S → KeepsBars T S → (user operation object : Bytes) → IsTrue (could_have_access T user operation object) →
    IsTrue (could_have_access S user operation object)
unfolding could_have_access authorized_roles
user_access-less T S less bars user operation object access =
    let parts = and_parts _ _ access in
    let found = (any-Decides name_total name_exact (λ role. contains T.grants (object, operation, role) && stands_alone T role) (retain T.roles (is_authorized T user))).0 parts.1 in
    let role = found.0 in
    let there = and_parts _ _ (sym (contains-retain name_total name_exact T.roles (is_authorized T user) role) ∙ found.1) in
    let both = and_parts _ _ found.2 in
    let unlocked = false_from_ne_true (contains S.locked user) (λ h. true≢false (sym (bars.locked user role there.1 h) ∙ not-true _ parts.0)) in
    and_from _ _ (ap not unlocked) ((any-Decides name_total name_exact (λ role. contains S.grants (object, operation, role) && stands_alone S role) (retain S.roles (is_authorized S user))).1 (
      role,
      contains-retain name_total name_exact S.roles (is_authorized S user) role
          ∙ and_from _ _ (less.roles role there.0) (authorized-fewer S T less.edges less.assignments user role there.1),
      and_from _ _ (less.grants (object, operation, role) both.0) (sym (alone-same T S bars.edges bars.dsd role) ∙ both.1),
    ))

-- what only removes is also among what may loosen
removes_loosens : (command : Command) → only_removes command ≡ true → loosens command ≡ true
removes_loosens (DeleteInheritance asc desc) is = refl
removes_loosens (DeleteDsdRoleMember name role) is = refl
removes_loosens (DeleteDsdSet name) is = refl
removes_loosens (SetDsdSetCardinality name cardinality) is = refl
removes_loosens _ is = is

pub no_user_access : RemovalsGiveNoUserAccess
no_user_access S command user operation object is =
    user_access-less (after S command) S (after_less S command (removes_loosens command is)) (bars_stay S command is) user operation object
