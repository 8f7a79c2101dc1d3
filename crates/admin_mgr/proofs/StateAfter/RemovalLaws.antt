-- The commands that remove something keep the state good.
use Rattle.std.proofs.Common.{◌≡◌, ◌≢◌, Bool, false, not, ◌&&◌, ◌||◌, refl, sym, ◌∙◌, ap, inl, inr}
use Rattle.std.specs.Prelude.{IsTrue, None, nat_eq, pos}
use Rattle.std.specs.declared.cmp.Ordering.{Ordering}
use Rattle.std.specs.Cmp.{IsTotalOrder}
use Rattle.std.specs.FinMap.{IsAntisymmetric}
use Rattle.std.specs.FinSet.{FinSet}
use Rattle.std.specs.Ordering.{eq_by_cmp}
use Rattle.std.proofs.lemmas.Bool.{and_parts, and_from, or_left, or_right, true≢false, false_from_ne_true, or_parts}
use Rattle.rbac_sets.specs.Sets.{Bytes, Pair, Triple, any, contains, empty, insert, remove, retain, same_name}
use Rattle.rbac_sets.specs.NameOrder.{name_total, name_exact, pair_total, pair_exact, triple_total, triple_exact}
use Rattle.rbac_sets.specs.declared.command.Command.TheVariants.{DeleteUser, DeleteRole, DeletePermObj, DeletePermission, RevokePermission, DeassignUser, DeleteInheritance, DeleteSession, DropActiveRole, LockUserAccount, UnlockUserAccount}
use Rattle.rbac_sets.specs.declared.refusal.Refusal.TheVariants.{NoUser, RoleInUse, ObjectInUse, Version}
use Rattle.rbac_sets.proofs.SetLaws.{any-Decides, contains-retain, contains-remove, contains-insert-Decides, tie_Decides}
use Rattle.admin_mgr.specs.RbacState.{RbacState, Separation}
use Rattle.admin_mgr.specs.Authorization.{authorized_users}
use Rattle.admin_mgr.specs.After.{changed, after, without_first}
use Rattle.admin_mgr.specs.Verdict.{verdict, refusals, is_in_use}
use Rattle.admin_mgr.specs.Good.{IsGood, IsSeparation}
use Rattle.admin_mgr.proofs.Verdicts.VerdictLaws.{passed, refuse_if-None, refuse_unless-None}
use Rattle.admin_mgr.proofs.StateAfter.EndLaws.{good_ended}
use Rattle.admin_mgr.proofs.StateAfter.PartLaws.{IsPart, good_part, part_ends_none, remove-subset, retain-subset}

-- ---- what is left

-- names of which the test of equality fails differ
pub other_name : (a b : Bytes) → IsTrue (not (same_name a b)) → a ≢ b
other_name a b h same = true≢false (sym h ∙ ap not ((tie_Decides name_total name_exact a b).1 same))

-- another member stays if one is removed
pub remove-keeps : {K : Type 0} {R : K → K → Ordering} (total : IsTotalOrder R) (exact : IsAntisymmetric R) (s : FinSet R) (y x : K) → IsTrue (contains s x) → (x ≢ y) → IsTrue (contains (remove s y) x)
remove-keeps {R = R} total exact s y x h other =
    contains-remove total s y x ∙ and_from _ _ (ap not (false_from_ne_true (eq_by_cmp R x y) (λ tie. other ((tie_Decides total exact x y).0 tie)))) h

-- what is retained passes the test
pub retain-passes : {K : Type 0} {R : K → K → Ordering} (total : IsTotalOrder R) (exact : IsAntisymmetric R) (s : FinSet R) (p : K → Bool) (x : K) → IsTrue (contains (retain s p) x) → IsTrue (p x)
retain-passes total exact s p x h = (and_parts _ _ (sym (contains-retain total exact s p x) ∙ h)).1

-- if no member passes the test, what passes it is no member
none_such : {K : Type 0} {R : K → K → Ordering} (total : IsTotalOrder R) (exact : IsAntisymmetric R) (p : K → Bool) (s : FinSet R) → any p s ≡ false → (x : K) → IsTrue (contains s x) → IsTrue (p x) → ⊥
none_such total exact p s none x h passes = true≢false (sym ((any-Decides total exact p s).1 (x, h, passes)) ∙ none)

-- ---- what a removal leaves is a part of the state

module _ (S : RbacState) where
  pub user_deleted : (user : Bytes) → IsPart (changed S (DeleteUser user)) S
  unfolding changed
  user_deleted user = assumption (
    remove-subset name_total S.users user,
    remove-subset name_total S.locked user,
    retain-subset pair_total pair_exact S.assignments (λ pair. not (same_name pair.0 user)),
  )

  pub role_deleted : (role : Bytes) → IsPart (changed S (DeleteRole role)) S
  unfolding changed
  role_deleted role = assumption (
    remove-subset name_total S.roles role,
    retain-subset pair_total pair_exact S.assignments (λ pair. not (same_name pair.1 role)),
    retain-subset triple_total triple_exact S.grants (λ grant. not (same_name grant.2 role)),
  )

  pub object_deleted : (object : Bytes) → IsPart (changed S (DeletePermObj object)) S
  unfolding changed
  object_deleted object = assumption (remove-subset name_total S.objects object)

  pub permission_deleted : (object operation : Bytes) → IsPart (changed S (DeletePermission object operation)) S
  unfolding changed
  permission_deleted object operation = assumption (
    remove-subset pair_total S.permissions (object, operation),
    retain-subset triple_total triple_exact S.grants (λ grant. not (same_name grant.0 object && same_name grant.1 operation)),
  )

  pub permission_revoked : (object operation role : Bytes) → IsPart (changed S (RevokePermission object operation role)) S
  unfolding changed
  permission_revoked object operation role = assumption (remove-subset triple_total S.grants (object, operation, role))

  pub user_deassigned : (user role : Bytes) → IsPart (changed S (DeassignUser user role)) S
  unfolding changed
  user_deassigned user role = assumption (remove-subset pair_total S.assignments (user, role))

  pub inheritance_deleted : (asc desc : Bytes) → IsPart (changed S (DeleteInheritance asc desc)) S
  unfolding changed
  inheritance_deleted asc desc = assumption (remove-subset pair_total S.edges (asc, desc))

  pub session_deleted : (user session : Bytes) → IsPart (changed S (DeleteSession user session)) S
  unfolding changed
  session_deleted user session = assumption (remove-subset pair_total S.sessions (session, user), retain-subset pair_total pair_exact S.active (λ pair. not (same_name pair.0 session)))

  pub role_dropped : (user session role : Bytes) → IsPart (changed S (DropActiveRole user session role)) S
  unfolding changed
  role_dropped user session role = assumption (remove-subset pair_total S.active (session, role))

  pub user_unlocked : (user : Bytes) → IsPart (changed S (UnlockUserAccount user)) S
  unfolding changed
  user_unlocked user = assumption (remove-subset name_total S.locked user)

module _ (S : RbacState) (good : IsGood S) where
  -- ---- a user is deleted, with its assignments and its lock

  module _ (user : Bytes) where
    pub good_after_delete_user : verdict S (DeleteUser user) ≡ None → IsGood (after S (DeleteUser user))
    unfolding after changed
    good_after_delete_user accepted =
        let stays = remove-keeps name_total name_exact S.users user in
        let assigned : (u role : Bytes) → IsTrue (contains (without_first user S.assignments) (u, role)) → IsTrue (contains S.users u) → IsTrue (contains (remove S.users user) u) = λ u role h was.
        stays u was (other_name u user (retain-passes pair_total pair_exact S.assignments (λ (pair : Pair). not (same_name pair.0 user)) (u, role) h)) in
        let locked : (u : Bytes) → IsTrue (contains (remove S.locked user) u) → IsTrue (contains S.users u) → IsTrue (contains (remove S.users user) u) = λ u h was.
        stays u was (other_name u user (and_parts _ _ (sym (contains-remove name_total S.locked user u) ∙ h)).0) in
        good_part S (changed S (DeleteUser user)) (user_deleted S user) good assumption

  -- ---- a role in no edge and no separation of duty set is deleted, with its assignments and its grants

  module _ (role : Bytes) where
    -- another role stays
    other_role : (x : Bytes) → (IsTrue (same_name x role) → ⊥) → IsTrue (contains S.roles x) → IsTrue (contains (remove S.roles role) x)
    other_role x other was = remove-keeps name_total name_exact S.roles role x was (λ same. other ((tie_Decides name_total name_exact x role).1 same))

    -- and so do the sets of which the role is no member
    other_sets : (separation : Separation) → any (λ member. same_name member.1 role) separation.members ≡ false → IsSeparation S.roles separation → IsSeparation (remove S.roles role) separation
    other_sets separation unused formed = record {
      members = λ name r h. (let was = formed.members name r h in
          (was.0, other_role r (none_such pair_total pair_exact (λ (member : Pair). same_name member.1 role) separation.members unused (name, r) h) was.1));
      cardinality = formed.cardinality;
      one_cardinality = formed.one_cardinality;
    }

    pub good_after_delete_role : verdict S (DeleteRole role) ≡ None → IsGood (after S (DeleteRole role))
    unfolding after changed verdict refusals
    good_after_delete_role accepted =
        let unused = or_parts (any (λ edge. same_name edge.0 role || same_name edge.1 role) S.edges || any (λ member. same_name member.1 role) S.ssd.members) (any (λ member. same_name member.1 role) S.dsd.members)
        (refuse_if-None (is_in_use S role) RoleInUse (passed (refusals S (DeleteRole role)) accepted).1.0) in
        let others = or_parts (any (λ edge. same_name edge.0 role || same_name edge.1 role) S.edges) (any (λ member. same_name member.1 role) S.ssd.members) unused.0 in
        let no_edge = none_such pair_total pair_exact (λ (edge : Pair). same_name edge.0 role || same_name edge.1 role) S.edges others.0 in
        good_part S (changed S (DeleteRole role)) (role_deleted S role) good (record {
          objects = assumption;
          users = assumption;
          roles = λ u r h. other_role r (λ same. true≢false (sym (retain-passes pair_total pair_exact S.assignments (λ (pair : Pair). not (same_name pair.1 role)) (u, r) h) ∙ ap not same));
          permissions = assumption;
          grantees = λ ob op r h. other_role r (λ same. true≢false (sym (retain-passes triple_total triple_exact S.grants (λ (grant : Triple). not (same_name grant.2 role)) (ob, op, r) h) ∙ ap not same));
          ascendants = λ asc desc h. other_role asc (λ same. no_edge (asc, desc) h (or_left _ _ same));
          descendants = λ asc desc h. other_role desc (λ same. no_edge (asc, desc) h (or_right _ _ same));
          locked = assumption;
          ssd = other_sets S.ssd others.1;
          dsd = other_sets S.dsd unused.1;
        })

  -- ---- an object without permissions is deleted

  module _ (object : Bytes) where
    pub good_after_delete_perm_obj : verdict S (DeletePermObj object) ≡ None → IsGood (after S (DeletePermObj object))
    unfolding after changed verdict refusals
    good_after_delete_perm_obj accepted =
        let unused = none_such pair_total pair_exact (λ (permission : Pair). same_name permission.0 object) S.permissions
        (refuse_if-None (any (λ permission. same_name permission.0 object) S.permissions) ObjectInUse (passed (refusals S (DeletePermObj object)) accepted).1.0) in
        let stays : (ob op : Bytes) → IsTrue (contains S.permissions (ob, op)) → IsTrue (contains S.objects ob) → IsTrue (contains (remove S.objects object) ob) = λ ob op h was.
        remove-keeps name_total name_exact S.objects object ob was (λ same. unused (ob, op) h ((tie_Decides name_total name_exact ob object).1 same)) in
        good_part S (changed S (DeletePermObj object)) (object_deleted S object) good assumption

    -- no session ends
    pub after_delete_perm_obj : after S (DeletePermObj object) ≡ changed S (DeletePermObj object)
    unfolding after changed
    after_delete_perm_obj = part_ends_none S (changed S (DeletePermObj object)) (object_deleted S object) good refl refl refl good.well_formed.owned

  -- ---- a permission is deleted, with its grants

  module _ (object operation : Bytes) where
    pub good_after_delete_permission : verdict S (DeletePermission object operation) ≡ None → IsGood (after S (DeletePermission object operation))
    unfolding after changed
    good_after_delete_permission accepted =
        let of_it = λ (grant : Triple). same_name grant.0 object && same_name grant.1 operation in
        let granted : (ob op r : Bytes) → IsTrue (contains (retain S.grants (λ grant. not (of_it grant))) (ob, op, r)) → IsTrue (contains S.permissions (ob, op)) →
        IsTrue (contains (remove S.permissions (object, operation)) (ob, op)) = λ ob op r h was.
        remove-keeps pair_total pair_exact S.permissions (object, operation) (ob, op) was (λ same.
        true≢false (sym (retain-passes triple_total triple_exact S.grants (λ (grant : Triple). not (of_it grant)) (ob, op, r) h)
        ∙ ap not (and_from _ _ ((tie_Decides name_total name_exact ob object).1 (ap (λ (p : Pair). p.0) same)) ((tie_Decides name_total name_exact op operation).1 (ap (λ (p : Pair). p.1) same))))) in
        good_part S (changed S (DeletePermission object operation)) (permission_deleted S object operation) good assumption

    -- no session ends
    pub after_delete_permission : after S (DeletePermission object operation) ≡ changed S (DeletePermission object operation)
    unfolding after changed
    after_delete_permission = part_ends_none S (changed S (DeletePermission object operation)) (permission_deleted S object operation) good refl refl refl good.well_formed.owned

  -- ---- a permission is revoked from a role

  module _ (object operation role : Bytes) where
    pub good_after_revoke_permission : verdict S (RevokePermission object operation role) ≡ None → IsGood (after S (RevokePermission object operation role))
    unfolding after changed
    good_after_revoke_permission accepted = good_part S (changed S (RevokePermission object operation role)) (permission_revoked S object operation role) good assumption

    -- no session ends
    pub after_revoke_permission : after S (RevokePermission object operation role) ≡ changed S (RevokePermission object operation role)
    unfolding after changed
    after_revoke_permission = part_ends_none S (changed S (RevokePermission object operation role)) (permission_revoked S object operation role) good refl refl refl good.well_formed.owned

  -- ---- a user is deassigned from a role

  module _ (user role : Bytes) where
    pub good_after_deassign_user : verdict S (DeassignUser user role) ≡ None → IsGood (after S (DeassignUser user role))
    unfolding after changed
    good_after_deassign_user accepted = good_part S (changed S (DeassignUser user role)) (user_deassigned S user role) good assumption

  -- ---- an immediate inheritance is deleted

  module _ (asc desc : Bytes) where
    pub good_after_delete_inheritance : verdict S (DeleteInheritance asc desc) ≡ None → IsGood (after S (DeleteInheritance asc desc))
    unfolding after changed
    good_after_delete_inheritance accepted = good_part S (changed S (DeleteInheritance asc desc)) (inheritance_deleted S asc desc) good assumption

  -- ---- a session is deleted

  module _ (user session : Bytes) where
    pub good_after_delete_session : verdict S (DeleteSession user session) ≡ None → IsGood (after S (DeleteSession user session))
    unfolding after changed
    good_after_delete_session accepted = good_part S (changed S (DeleteSession user session)) (session_deleted S user session) good assumption

    -- no other session ends
    pub after_delete_session : after S (DeleteSession user session) ≡ changed S (DeleteSession user session)
    unfolding after changed
    after_delete_session = part_ends_none S (changed S (DeleteSession user session)) (session_deleted S user session) good refl refl refl (λ s r h.
        let owner = good.well_formed.owned s r ((session_deleted S user session).active (s, r) h) in
        let other = other_name s session (retain-passes pair_total pair_exact S.active (λ (pair : Pair). not (same_name pair.0 session)) (s, r) h) in
        (owner.0, remove-keeps pair_total pair_exact S.sessions (session, user) (s, owner.0) owner.1 (λ same. other (ap (λ (p : Pair). p.0) same))))

  -- ---- a role is dropped from a session

  module _ (user session role : Bytes) where
    pub good_after_drop_active_role : verdict S (DropActiveRole user session role) ≡ None → IsGood (after S (DropActiveRole user session role))
    unfolding after changed
    good_after_drop_active_role accepted = good_part S (changed S (DropActiveRole user session role)) (role_dropped S user session role) good assumption

    -- no session ends
    pub after_drop_active_role : after S (DropActiveRole user session role) ≡ changed S (DropActiveRole user session role)
    unfolding after changed
    after_drop_active_role = part_ends_none S (changed S (DropActiveRole user session role)) (role_dropped S user session role) good refl refl refl (λ s r h. good.well_formed.owned s r ((role_dropped S user session role).active (s, r) h))

  -- ---- a user is unlocked

  module _ (user : Bytes) where
    pub good_after_unlock_user_account : verdict S (UnlockUserAccount user) ≡ None → IsGood (after S (UnlockUserAccount user))
    unfolding after changed
    good_after_unlock_user_account accepted = good_part S (changed S (UnlockUserAccount user)) (user_unlocked S user) good assumption

    -- no session ends
    pub after_unlock_user_account : after S (UnlockUserAccount user) ≡ changed S (UnlockUserAccount user)
    unfolding after changed
    after_unlock_user_account = part_ends_none S (changed S (UnlockUserAccount user)) (user_unlocked S user) good refl refl refl good.well_formed.owned

  -- ---- a user is locked: only sessions end

  module _ (user : Bytes) where
    pub good_after_lock_user_account : verdict S (LockUserAccount user) ≡ None → IsGood (after S (LockUserAccount user))
    unfolding after changed verdict refusals authorized_users
    good_after_lock_user_account accepted =
        let passes = passed (refusals S (LockUserAccount user)) accepted in
        let is_user = refuse_unless-None (contains S.users user) NoUser passes.1.0 in
        let not_one = refuse_if-None (nat_eq S.version 1) (Version (pos 1)) passes.0 in
        let locked : (u : Bytes) → IsTrue (contains (insert S.locked user) u) → IsTrue (contains S.users u) = λ u h. elim ((contains-insert-Decides name_total name_exact S.locked user u).0 h) [
          | inl same ↦ ap (contains S.users) same ∙ is_user
          | inr old ↦ good.well_formed.locked u old
        ] in
        let no_locks : S.version ≡ 1 → insert S.locked user ≡ empty = λ one. absurd (true≢false (sym (ap (λ n. nat_eq n 1) one) ∙ not_one)) in
        good_ended (changed S (LockUserAccount user)) assumption
