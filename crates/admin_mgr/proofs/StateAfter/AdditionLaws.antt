-- A new user, role, object, permission or grant: it wasn't there, no session ends, and the state is good.
use Rattle.std.proofs.Common.{◌≡◌, ◌+◌, false, refl, ◌∙◌, ap, inl, inr}
use Rattle.std.specs.Prelude.{IsTrue, None}
use Rattle.rbac_sets.specs.Sets.{Bytes, Pair, Triple, contains, insert, len}
use Rattle.rbac_sets.specs.NameOrder.{name_total, name_exact, pair_total, pair_exact, triple_total, triple_exact}
use Rattle.rbac_sets.specs.declared.command.Command.TheVariants.{AddUser, AddRole, AddPermObj, AddPermission, GrantPermission}
use Rattle.rbac_sets.specs.declared.kind.Kind.TheVariants.{User, Role, Object, Permission, Grant}
use Rattle.rbac_sets.specs.declared.refusal.Refusal.TheVariants.{UserExists, NoRole, RoleExists, NoObject, ObjectExists, NoPermission, PermissionExists, AlreadyGranted}
use Rattle.rbac_sets.proofs.SetLaws.{contains-insert-Decides}
use Rattle.admin_mgr.specs.RbacState.{RbacState}
use Rattle.admin_mgr.specs.Authorization.{authorized_users}
use Rattle.admin_mgr.specs.After.{changed, after}
use Rattle.admin_mgr.specs.Verdict.{verdict, refusals}
use Rattle.admin_mgr.specs.Good.{IsGood}
use Rattle.admin_mgr.proofs.Verdicts.VerdictLaws.{passed, refuse_if-None, refuse_unless-None}
use Rattle.admin_mgr.proofs.StateAfter.LimitLaws.{too_many-None, one_more_within}
use Rattle.admin_mgr.proofs.StateAfter.GoodWithLaws.{after_is_changed, good_after, good_with_users, good_with_roles}

-- ---- a new user

-- the user wasn't there
pub add_user_absent : (S : RbacState) (user : Bytes) → verdict S (AddUser user) ≡ None → contains S.users user ≡ false
unfolding verdict refusals
add_user_absent S user accepted = refuse_if-None (contains S.users user) UserExists (passed (refusals S (AddUser user)) accepted).0

module _ (S : RbacState) (good : IsGood S) (user : Bytes) (accepted : verdict S (AddUser user) ≡ None) where
  -- the changed state is good
  good_changed_user : IsGood (changed S (AddUser user))
  unfolding changed verdict refusals
  good_changed_user =
      let room = too_many-None S User (len S.users + 1) (passed (refusals S (AddUser user)) accepted).1.0 in
      good_with_users S good (insert S.users user) (λ x h. (contains-insert-Decides name_total name_exact S.users user x).1 (inr h)) (one_more_within name_total S.users user _ room)

  -- no session ends
  pub after_add_user : after S (AddUser user) ≡ changed S (AddUser user)
  after_add_user = after_is_changed S (AddUser user) good_changed_user

  -- the state after it is good
  pub good_after_add_user : IsGood (after S (AddUser user))
  good_after_add_user = good_after S (AddUser user) good_changed_user

-- ---- a new role

-- the role wasn't there
pub add_role_absent : (S : RbacState) (role : Bytes) → verdict S (AddRole role) ≡ None → contains S.roles role ≡ false
unfolding verdict refusals
add_role_absent S role accepted = refuse_if-None (contains S.roles role) RoleExists (passed (refusals S (AddRole role)) accepted).0

module _ (S : RbacState) (good : IsGood S) (role : Bytes) (accepted : verdict S (AddRole role) ≡ None) where
  -- the changed state is good
  good_changed_role : IsGood (changed S (AddRole role))
  unfolding changed verdict refusals
  good_changed_role =
      let more : ((x : Bytes) → IsTrue (contains S.roles x) → IsTrue (contains (insert S.roles role) x)) = λ x h. (contains-insert-Decides name_total name_exact S.roles role x).1 (inr h) in
      good_with_roles S good (insert S.roles role) S.edges (record {
        more = more;
        edges_formed = λ asc desc h. (let was = good.well_formed.edges asc desc h in (more asc was.0, more desc was.1));
        acyclic = good.acyclic;
        as_before = λ _ _ _ _. refl;
        roles_room = one_more_within name_total S.roles role _ (too_many-None S Role (len S.roles + 1) (passed (refusals S (AddRole role)) accepted).1.0);
        edges_room = good.limits.edges;
      })

  -- no session ends
  pub after_add_role : after S (AddRole role) ≡ changed S (AddRole role)
  after_add_role = after_is_changed S (AddRole role) good_changed_role

  -- the state after it is good
  pub good_after_add_role : IsGood (after S (AddRole role))
  good_after_add_role = good_after S (AddRole role) good_changed_role

-- ---- a new object

-- the object wasn't there
pub add_perm_obj_absent : (S : RbacState) (object : Bytes) → verdict S (AddPermObj object) ≡ None → contains S.objects object ≡ false
unfolding verdict refusals
add_perm_obj_absent S object accepted = refuse_if-None (contains S.objects object) ObjectExists (passed (refusals S (AddPermObj object)) accepted).0

module _ (S : RbacState) (good : IsGood S) (object : Bytes) (accepted : verdict S (AddPermObj object) ≡ None) where
  -- the changed state is good
  good_changed_object : IsGood (changed S (AddPermObj object))
  unfolding changed verdict refusals authorized_users
  good_changed_object =
      let room = one_more_within name_total S.objects object _ (too_many-None S Object (len S.objects + 1) (passed (refusals S (AddPermObj object)) accepted).1.0) in
      let there : (ob operation : Bytes) → IsTrue (contains S.permissions (ob, operation)) → IsTrue (contains (insert S.objects object) ob) =
      λ ob operation h. (contains-insert-Decides name_total name_exact S.objects object ob).1 (inr (good.well_formed.permissions ob operation h)) in
      assumption

  -- no session ends
  pub after_add_perm_obj : after S (AddPermObj object) ≡ changed S (AddPermObj object)
  after_add_perm_obj = after_is_changed S (AddPermObj object) good_changed_object

  -- the state after it is good
  pub good_after_add_perm_obj : IsGood (after S (AddPermObj object))
  good_after_add_perm_obj = good_after S (AddPermObj object) good_changed_object

-- ---- a new permission

-- the permission wasn't there
pub add_permission_absent : (S : RbacState) (object operation : Bytes) → verdict S (AddPermission object operation) ≡ None → contains S.permissions (object, operation) ≡ false
unfolding verdict refusals
add_permission_absent S object operation accepted = refuse_if-None (contains S.permissions (object, operation)) PermissionExists (passed (refusals S (AddPermission object operation)) accepted).1.0

module _ (S : RbacState) (good : IsGood S) (object operation : Bytes) (accepted : verdict S (AddPermission object operation) ≡ None) where
  -- the changed state is good
  good_changed_permission : IsGood (changed S (AddPermission object operation))
  unfolding changed verdict refusals authorized_users
  good_changed_permission =
      let passes = passed (refusals S (AddPermission object operation)) accepted in
      let room = one_more_within pair_total S.permissions (object, operation) _ (too_many-None S Permission (len S.permissions + 1) passes.1.1.0) in
      let put = contains-insert-Decides pair_total pair_exact S.permissions (object, operation) in
      let there : (ob op : Bytes) → IsTrue (contains (insert S.permissions (object, operation)) (ob, op)) → IsTrue (contains S.objects ob) = λ ob op h. elim ((put (ob, op)).0 h) [
        | inl same ↦ ap (λ (p : Pair). contains S.objects p.0) same ∙ refuse_unless-None (contains S.objects object) NoObject passes.0
        | inr old ↦ good.well_formed.permissions ob op old
      ] in
      let granted : (ob op role : Bytes) → IsTrue (contains S.grants (ob, op, role)) → IsTrue (contains (insert S.permissions (object, operation)) (ob, op)) × IsTrue (contains S.roles role) =
      λ ob op role h. (let was = good.well_formed.grants ob op role h in ((put (ob, op)).1 (inr was.0), was.1)) in
      assumption

  -- no session ends
  pub after_add_permission : after S (AddPermission object operation) ≡ changed S (AddPermission object operation)
  after_add_permission = after_is_changed S (AddPermission object operation) good_changed_permission

  -- the state after it is good
  pub good_after_add_permission : IsGood (after S (AddPermission object operation))
  good_after_add_permission = good_after S (AddPermission object operation) good_changed_permission

-- ---- a new grant

-- the grant wasn't there
pub grant_permission_absent : (S : RbacState) (object operation role : Bytes) → verdict S (GrantPermission object operation role) ≡ None → contains S.grants (object, operation, role) ≡ false
unfolding verdict refusals
grant_permission_absent S object operation role accepted =
    refuse_if-None (contains S.grants (object, operation, role)) AlreadyGranted (passed (refusals S (GrantPermission object operation role)) accepted).1.1.1.0

module _ (S : RbacState) (good : IsGood S) (object operation role : Bytes) (accepted : verdict S (GrantPermission object operation role) ≡ None) where
  -- the changed state is good
  good_changed_grant : IsGood (changed S (GrantPermission object operation role))
  unfolding changed verdict refusals authorized_users
  good_changed_grant =
      let passes = passed (refusals S (GrantPermission object operation role)) accepted in
      let permission = refuse_unless-None (contains S.permissions (object, operation)) NoPermission passes.1.0 in
      let is_role = refuse_unless-None (contains S.roles role) NoRole passes.1.1.0 in
      let room = one_more_within triple_total S.grants (object, operation, role) _ (too_many-None S Grant (len S.grants + 1) passes.1.1.1.1.0) in
      let granted : (ob op r : Bytes) → IsTrue (contains (insert S.grants (object, operation, role)) (ob, op, r)) → IsTrue (contains S.permissions (ob, op)) × IsTrue (contains S.roles r) =
      λ ob op r h. elim ((contains-insert-Decides triple_total triple_exact S.grants (object, operation, role) (ob, op, r)).0 h) [
        | inl same ↦ (ap (λ (g : Triple). contains S.permissions (g.0, g.1)) same ∙ permission, ap (λ (g : Triple). contains S.roles g.2) same ∙ is_role)
        | inr old ↦ good.well_formed.grants ob op r old
      ] in
      assumption

  -- no session ends
  pub after_grant_permission : after S (GrantPermission object operation role) ≡ changed S (GrantPermission object operation role)
  after_grant_permission = after_is_changed S (GrantPermission object operation role) good_changed_grant

  -- the state after it is good
  pub good_after_grant_permission : IsGood (after S (GrantPermission object operation role))
  good_after_grant_permission = good_after S (GrantPermission object operation role) good_changed_grant
