-- Which sessions of a good state may go on after a command, stated without the state after it.
use Rattle.std.proofs.Common.{◌≡◌, Bool, true, false, not, ◌&&◌, ◌||◌, refl, sym, ◌∙◌, ap, inl, inr}
use Rattle.std.specs.Prelude.{IsTrue}
use Rattle.std.specs.List.{list_any, list_all}
use Rattle.std.specs.Ordering.{eq_by_cmp}
use Rattle.std.proofs.lemmas.Bool.{and_parts, and_from, not-true, true≢false, false_from_ne_true}
use Rattle.std.specs.Cmp.{both_ways}
use Rattle.std.proofs.Math.Bool.{and-true, and_assoc}
use Rattle.rbac_sets.specs.Sets.{Bytes, Pair, Pairs, pair_cmp, all, any, contains, remove, same_name, seconds}
use Rattle.rbac_sets.specs.NameOrder.{name_total, name_exact, pair_total, pair_exact}
use Rattle.rbac_sets.specs.declared.command.Command.TheVariants.{DeleteUser, DeleteRole, DeassignUser, DeleteInheritance, LockUserAccount}
use Rattle.rbac_sets.proofs.SetLaws.{any-Decides, contains-insert, contains-remove, contains-retain, seconds-Decides, tie_Decides}
use Rattle.role_order.specs.Order.{geq, IsGained}
use Rattle.role_order.proofs.Deciding.{geq-Decides, geq_or_not}
use Rattle.role_order.proofs.Runs.{any_seconds, all_seconds}
use Rattle.admin_mgr.specs.RbacState.{RbacState, active_roles}
use Rattle.admin_mgr.specs.Authorization.{is_authorized}
use Rattle.admin_mgr.specs.Assignment.{may_go_on}
use Rattle.admin_mgr.specs.After.{changed, without_first, without_second}
use Rattle.admin_mgr.specs.Good.{IsGood}
use Rattle.admin_mgr.specs.private.HolderRoles.{run_of, is_reached}
use Rattle.admin_mgr.specs.private.SessionContinuation.{is_held_without_role, is_held_without_pairs}
use Rattle.admin_mgr.proofs.Verdicts.AuthorizationLaws.{authorized_reached}
use Rattle.admin_mgr.proofs.StateAfter.PartLaws.{geq-fewer, remove-subset}
use Rattle.admin_mgr.proofs.StateAfter.SessionLaws.{goes_on}

-- ---- tests on the pairs of one first name

-- a test holds of some pair of one set exactly if another does in another set, if the tests agree on what is in either
same_runs : (pairs others : Pairs) (first : Bytes) (p q : Bytes → Bool) → ((x : Bytes) → (contains pairs (first, x) && p x) ≡ (contains others (first, x) && q x)) →
    list_any (λ (pair : Pair). p pair.1) (run_of pairs first) ≡ list_any (λ (pair : Pair). q pair.1) (run_of others first)
same_runs pairs others first p q same =
    let one = any-Decides name_total name_exact p (seconds pairs first) in
    let other = any-Decides name_total name_exact q (seconds others first) in
    sym (any_seconds p pairs first)
    ∙ both_ways (any p (seconds pairs first)) (any q (seconds others first))
    (λ h. (let found = one.0 h in
    let parts = and_parts _ _ (sym (same found.0) ∙ and_from _ _ ((seconds-Decides pairs first found.0).0 found.1) found.2) in
    other.1 (found.0, (seconds-Decides others first found.0).1 parts.0, parts.1)))
    (λ h. (let found = other.0 h in
    let parts = and_parts _ _ (same found.0 ∙ and_from _ _ ((seconds-Decides others first found.0).0 found.1) found.2) in
    one.1 (found.0, (seconds-Decides pairs first found.0).1 parts.0, parts.1)))
    ∙ any_seconds q others first

and_turned : (a b c : Bool) → ((a && b) && c) ≡ (b && (a && c))
and_turned true b c = refl
and_turned false true c = refl
and_turned false false c = refl

-- two pairs are equal exactly if both parts are
same_pair : (a b x y : Bytes) → eq_by_cmp pair_cmp (a, b) (x, y) ≡ (same_name a x && same_name b y)
same_pair a b x y =
    let tie = tie_Decides pair_total pair_exact (a, b) (x, y) in
    let first = tie_Decides name_total name_exact a x in
    let second = tie_Decides name_total name_exact b y in
    both_ways _ _
    (λ h. and_from _ _ (first.1 (ap (λ (p : Pair). p.0) (tie.0 h))) (second.1 (ap (λ (p : Pair). p.1) (tie.0 h))))
    (λ h. (let parts = and_parts _ _ h in tie.1 (λ i. (first.0 parts.0 i, second.0 parts.1 i))))

-- ---- a session

-- the session of a user who is there and not locked may go on exactly if the user's assignments authorize all its active roles
goes_on_reached : (T : RbacState) (p : Pair) → IsTrue (contains T.users p.1) → contains T.locked p.1 ≡ false →
    may_go_on T p ≡ list_all (λ (active : Pair). is_reached T.edges (run_of T.assignments p.1) active.1) (run_of T.active p.0)
unfolding may_go_on
goes_on_reached T p is_user unlocked =
    (λ i. (is_user i && not (unlocked i)) && all (is_authorized T p.1) (active_roles T p.0))
    ∙ all_seconds (is_authorized T p.1) T.active p.0
    ∙ (λ i. list_all (λ (active : Pair). authorized_reached T p.1 active.1 i) (run_of T.active p.0))

module _ (S : RbacState) (good : IsGood S) (p : Pair) (there : IsTrue (contains S.sessions p)) where
  -- its user is there, and not locked
  is_user : IsTrue (contains S.users p.1)
  is_user = good.well_formed.sessions p.0 p.1 there

  unlocked : contains S.locked p.1 ≡ false
  unlocked = good.unlocked p.0 p.1 there

  -- before the command, the user's assignments authorize all roles that are active in it
  all_reached : list_all (λ (active : Pair). is_reached S.edges (run_of S.assignments p.1) active.1) (run_of S.active p.0) ≡ true
  all_reached = sym (goes_on_reached S p is_user unlocked) ∙ goes_on S good p there

  -- DeleteUser: the sessions of the user end, and no others
  pub goes_on_delete_user : (user : Bytes) → may_go_on (changed S (DeleteUser user)) p ≡ not (same_name p.1 user)
  unfolding changed may_go_on
  goes_on_delete_user user = by (same_name p.1 user) refl
    where
      by : (b : Bool) → same_name p.1 user ≡ b → may_go_on (changed S (DeleteUser user)) p ≡ not b
      by true same = λ i. ((contains-remove name_total S.users user p.1 ∙ ap (λ b. not b && contains S.users p.1) same) i && not (contains (remove S.locked user) p.1))
          && all (is_authorized (changed S (DeleteUser user)) p.1) (active_roles (changed S (DeleteUser user)) p.0)
      by false other =
          goes_on_reached (changed S (DeleteUser user)) p
          (contains-remove name_total S.users user p.1 ∙ ap (λ b. not b && contains S.users p.1) other ∙ is_user)
          (contains-remove name_total S.locked user p.1 ∙ ap (λ b. not b && contains S.locked p.1) other ∙ unlocked)
          ∙ (λ i. list_all (λ (active : Pair). same_runs (without_first user S.assignments) S.assignments p.1 (λ x. geq S.edges x active.1) (λ x. geq S.edges x active.1) (λ x.
          ap (λ b. b && geq S.edges x active.1)
          (contains-retain pair_total pair_exact S.assignments (λ (pair : Pair). not (same_name pair.0 user)) (p.1, x)
          ∙ ap (λ b. contains S.assignments (p.1, x) && not b) other ∙ and-true (contains S.assignments (p.1, x)))) i) (run_of S.active p.0))
          ∙ all_reached

  -- LockUserAccount: the sessions of the user end, and no others
  pub goes_on_lock_user_account : (user : Bytes) → may_go_on (changed S (LockUserAccount user)) p ≡ not (same_name p.1 user)
  unfolding changed may_go_on
  goes_on_lock_user_account user = by (same_name p.1 user) refl
    where
      by : (b : Bool) → same_name p.1 user ≡ b → may_go_on (changed S (LockUserAccount user)) p ≡ not b
      by true same = λ i. (is_user i && not ((contains-insert name_total S.locked user p.1 ∙ ap (λ b. b || contains S.locked p.1) same) i))
          && all (is_authorized (changed S (LockUserAccount user)) p.1) (active_roles S p.0)
      by false other =
          goes_on_reached (changed S (LockUserAccount user)) p is_user
          (contains-insert name_total S.locked user p.1 ∙ ap (λ b. b || contains S.locked p.1) other ∙ unlocked)
          ∙ all_reached

  -- DeassignUser: a session of the user may go on exactly if other assignments authorize all roles that are active in it
  pub goes_on_deassign_user : (user role : Bytes) → may_go_on (changed S (DeassignUser user role)) p ≡
      (not (same_name p.1 user) || list_all (λ (active : Pair). is_held_without_role S.edges (run_of S.assignments p.1) role active.1) (run_of S.active p.0))
  unfolding changed
  goes_on_deassign_user user role = goes_on_reached (changed S (DeassignUser user role)) p is_user unlocked ∙ by (same_name p.1 user) refl
    where
      left : (b : Bool) → same_name p.1 user ≡ b → (x : Bytes) → contains (remove S.assignments (user, role)) (p.1, x) ≡ (not (b && same_name x role) && contains S.assignments (p.1, x))
      left b same x = contains-remove pair_total S.assignments (user, role) (p.1, x)
          ∙ ap (λ t. not t && contains S.assignments (p.1, x)) (same_pair p.1 x user role ∙ ap (λ b. b && same_name x role) same)

      by : (b : Bool) → same_name p.1 user ≡ b → list_all (λ (active : Pair). is_reached S.edges (run_of (remove S.assignments (user, role)) p.1) active.1) (run_of S.active p.0) ≡
          (not b || list_all (λ (active : Pair). is_held_without_role S.edges (run_of S.assignments p.1) role active.1) (run_of S.active p.0))
      by true same = λ i. list_all (λ (active : Pair). same_runs (remove S.assignments (user, role)) S.assignments p.1
          (λ x. geq S.edges x active.1) (λ x. not (same_name x role) && geq S.edges x active.1) (λ x.
          ap (λ b. b && geq S.edges x active.1) (left true same x) ∙ and_turned (not (same_name x role)) (contains S.assignments (p.1, x)) (geq S.edges x active.1)) i) (run_of S.active p.0)
      by false other =
          (λ i. list_all (λ (active : Pair). same_runs (remove S.assignments (user, role)) S.assignments p.1
          (λ x. geq S.edges x active.1) (λ x. geq S.edges x active.1) (λ x. ap (λ b. b && geq S.edges x active.1) (left false other x)) i) (run_of S.active p.0))
          ∙ all_reached

  -- DeleteRole: a session may go on exactly if assignments of other roles authorize all roles that are active in it
  pub goes_on_delete_role : (role : Bytes) → may_go_on (changed S (DeleteRole role)) p ≡
      list_all (λ (active : Pair). is_held_without_role S.edges (run_of S.assignments p.1) role active.1) (run_of S.active p.0)
  unfolding changed
  goes_on_delete_role role =
      goes_on_reached (changed S (DeleteRole role)) p is_user unlocked
      ∙ (λ i. list_all (λ (active : Pair). same_runs (without_second role S.assignments) S.assignments p.1
      (λ x. geq S.edges x active.1) (λ x. not (same_name x role) && geq S.edges x active.1) (λ x.
      ap (λ b. b && geq S.edges x active.1) (contains-retain pair_total pair_exact S.assignments (λ (pair : Pair). not (same_name pair.1 role)) (p.1, x))
      ∙ and_assoc (contains S.assignments (p.1, x)) (not (same_name x role)) (geq S.edges x active.1)) i) (run_of S.active p.0))

  -- DeleteInheritance, by the pairs that the order loses: a session may go on exactly if for each role that is active in it
  -- some assigned role dominates it by a pair that isn't lost
  pub goes_on_delete_inheritance : (asc desc : Bytes) (takes : Pairs) → IsGained (remove S.edges (asc, desc)) S.edges takes → may_go_on (changed S (DeleteInheritance asc desc)) p ≡
      list_all (λ (active : Pair). is_held_without_pairs S.edges (run_of S.assignments p.1) takes active.1) (run_of S.active p.0)
  unfolding changed
  goes_on_delete_inheritance asc desc takes lost =
      goes_on_reached (changed S (DeleteInheritance asc desc)) p is_user unlocked
      ∙ (λ i. list_all (λ (active : Pair). list_any (λ (held : Pair). left held.1 active.1 i) (run_of S.assignments p.1)) (run_of S.active p.0))
    where
      left : (a b : Bytes) → geq (remove S.edges (asc, desc)) a b ≡ (geq S.edges a b && not (contains takes (a, b)))
      left a b = both_ways (geq (remove S.edges (asc, desc)) a b) (geq S.edges a b && not (contains takes (a, b)))
          (λ h. and_from _ _ (geq-fewer (remove S.edges (asc, desc)) S.edges (remove-subset pair_total S.edges (asc, desc)) a b h)
          (ap not (false_from_ne_true (contains takes (a, b)) (λ taken. ((lost a b).0 taken).1 ((geq-Decides (remove S.edges (asc, desc)) a b).0 h)))))
          (λ h. (let parts = and_parts (geq S.edges a b) (not (contains takes (a, b))) h in
          elim (geq_or_not (remove S.edges (asc, desc)) a b) [
            | inl leads ↦ (geq-Decides (remove S.edges (asc, desc)) a b).1 leads
            | inr apart ↦ absurd (true≢false (sym ((lost a b).1 ((geq-Decides S.edges a b).0 parts.0, apart)) ∙ not-true _ parts.1))
          ]))
