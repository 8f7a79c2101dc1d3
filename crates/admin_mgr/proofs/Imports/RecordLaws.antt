-- One record of an import, judged by the state before the import and the pairs that were added since.
use Rattle.std.proofs.Common.{◌≡◌, ◌+◌, ◌≤◌, arith, Bool, false, ◌||◌, ◌&&◌, not, List, [], ◌∷◌, ◌++◌, refl, sym, ◌∙◌, ap, inl, inr}
use Rattle.std.specs.Prelude.{IsTrue, Option, Some, None, nat_lt, count_by, find}
use Rattle.std.specs.Option.{option_map}
use Rattle.std.proofs.lemmas.Bool.{or_cases, or_left, or_right, or_parts}
use Rattle.std.proofs.lemmas.List.Folds.{list_any-append}
use Rattle.std.specs.Cmp.{both_ways}
use Rattle.rbac_sets.specs.Sets.{Bytes, Pair, Pairs, Cardinality, contains, members, union, seconds, any, len, IsDisjoint}
use Rattle.rbac_sets.specs.NameOrder.{name_total, name_exact, pair_total, pair_exact}
use Rattle.rbac_sets.specs.declared.kind.Kind.TheVariants.{Assignment}
use Rattle.rbac_sets.specs.declared.refusal.Refusal.{Refusal}
use Rattle.rbac_sets.specs.declared.refusal.Refusal.TheVariants.{NoUser, NoRole, AlreadyAssigned, StaticSeparation}
use Rattle.rbac_sets.proofs.SetLaws.{any-Decides, seconds-Decides, contains-union}
use Rattle.role_order.specs.Order.{geq}
use Rattle.role_order.proofs.Runs.{any_seconds}
use Rattle.admin_mgr.specs.RbacState.{RbacState}
use Rattle.admin_mgr.specs.Refusals.{refuse_if, refuse_unless, first, too_many, violates_static}
use Rattle.admin_mgr.specs.Assignment.{assign_user_refusals, assignment_refusals, assignment_verdict, after_assignment}
use Rattle.admin_mgr.specs.private.ImportPlan.{with_assignments, record_refusals}
use Rattle.admin_mgr.specs.Good.{IsGood}
use Rattle.admin_mgr.specs.private.HolderRoles.{run_of, is_reached, is_touched, has_with, find_with_one, naming_first}
use Rattle.admin_mgr.proofs.Verdicts.TouchLaws.{assignment_violates}
use Rattle.admin_mgr.proofs.StateAfter.GoodAssignment.{not_assigned}
use Rattle.admin_mgr.proofs.Imports.UnionLaws.{len-union}
use Rattle.admin_mgr.proofs.Verdicts.VerdictLaws.{passed, refuse_unless-None, stopped}

-- ---- the pairs of a name in the union of two sets

-- a test holds of some second part in the union exactly if it does in one of the sets
any_union : (p : Bytes → Bool) (s t : Pairs) (x : Bytes) → any p (seconds (union s t) x) ≡ (any p (seconds s x) || any p (seconds t x))
any_union p s t x =
    let either = any-Decides name_total name_exact p (seconds (union s t) x) in
    let one = any-Decides name_total name_exact p (seconds s x) in
    let other = any-Decides name_total name_exact p (seconds t x) in
    both_ways (any p (seconds (union s t) x)) (any p (seconds s x) || any p (seconds t x))
    (λ h. (let found = either.0 h in
    elim (or_cases (contains s (x, found.0)) (contains t (x, found.0)) (sym (contains-union pair_total pair_exact s t (x, found.0)) ∙ (seconds-Decides (union s t) x found.0).0 found.1)) [
      | inl old ↦ or_left (any p (seconds s x)) _ (one.1 (found.0, (seconds-Decides s x found.0).1 old, found.2))
      | inr new ↦ or_right (any p (seconds s x)) _ (other.1 (found.0, (seconds-Decides t x found.0).1 new, found.2))
    ]))
    (λ h. elim (or_cases (any p (seconds s x)) (any p (seconds t x)) h) [
      | inl old ↦ (let found = one.0 old in either.1 (
        found.0,
        (seconds-Decides (union s t) x found.0).1
            (contains-union pair_total pair_exact s t (x, found.0) ∙ or_left (contains s (x, found.0)) _ ((seconds-Decides s x found.0).0 found.1)),
        found.2,
      ))
      | inr new ↦ (let found = other.0 new in either.1 (
        found.0,
        (seconds-Decides (union s t) x found.0).1
            (contains-union pair_total pair_exact s t (x, found.0) ∙ or_right (contains s (x, found.0)) _ ((seconds-Decides t x found.0).0 found.1)),
        found.2,
      ))
    ])

-- the pairs of both sets, one after the other, reach the roles that those of the union reach
pub reached_union : (edges s t : Pairs) (x q : Bytes) → is_reached edges (run_of (union s t) x) q ≡ is_reached edges (run_of s x ++ run_of t x) q
reached_union edges s t x q =
    let above : Bytes → Bool = λ r. geq edges r q in
    sym (any_seconds above (union s t) x) ∙ any_union above s t x
    ∙ (λ i. any_seconds above s x i || any_seconds above t x i)
    ∙ sym (list_any-append (λ (pair : Pair). geq edges pair.1 q) (run_of s x) (run_of t x))

-- so the same separation of duty set is found
pub found_union : (edges s t : Pairs) (x role : Bytes) (pairs : Pairs) (sets : List Cardinality) →
    find_with_one edges (run_of (union s t) x) role pairs sets ≡ find_with_one edges (run_of s x ++ run_of t x) role pairs sets
found_union edges s t x role pairs sets = λ i. find (λ (entry : Cardinality). is_touched edges role (run_of pairs entry.0)
    && not (nat_lt (count_by (λ (member : Pair). reached_union edges s t x member.1 i || geq edges role member.1) (run_of pairs entry.0)) entry.1)) sets

-- ---- the verdict on a record

-- the refusal that names the static set that would be violated; it comes last
abbrev pub named_last : RbacState → Pairs → Bytes → Bytes → Option Refusal
named_last S added user role = naming_first StaticSeparation (has_with S.edges (run_of S.assignments user ++ run_of added user) role) S.ssd

module _ (S : RbacState) (added : Pairs) (good : IsGood (with_assignments S added)) (apart : IsDisjoint S.assignments added) (user role : Bytes) where
  -- the refusals other than static separation
  same_refusals : assign_user_refusals (with_assignments S added) (user, role) ≡ record_refusals S added (user, role)
  unfolding with_assignments
  same_refusals = λ i.
      refuse_unless (contains S.users user) NoUser
      ∷ refuse_unless (contains S.roles role) NoRole
      ∷ refuse_if (contains-union pair_total pair_exact S.assignments added (user, role) i) AlreadyAssigned
      ∷ too_many S Assignment (len-union pair_total pair_exact S.assignments added apart i + 1)
      ∷ []

  -- the refusal by static separation
  same_last : IsTrue (contains S.users user) → violates_static (after_assignment (with_assignments S added) (user, role)) ≡ named_last S added user role
  unfolding with_assignments
  same_last is_user =
      assignment_violates (with_assignments S added) good user role is_user
      ∙ ap (λ o. option_map StaticSeparation (option_map (λ (x : Cardinality). x.0) o)) (found_union S.edges S.assignments added user role S.ssd.members (members S.ssd.cardinalities))

  -- the record is refused with the first of these refusals, otherwise for the static set that would be violated
  pub record_verdict : assignment_verdict (with_assignments S added) (user, role) ≡ first (record_refusals S added (user, role) ++ named_last S added user role ∷ [])
  unfolding assignment_verdict assignment_refusals
  record_verdict =
      ap (λ refusals. first (refusals ++ violates_static (after_assignment (with_assignments S added) (user, role)) ∷ [])) same_refusals
      ∙ by (first (record_refusals S added (user, role))) refl
    where
      by : (v : Option Refusal) → first (record_refusals S added (user, role)) ≡ v →
          first (record_refusals S added (user, role) ++ violates_static (after_assignment (with_assignments S added) (user, role)) ∷ [])
          ≡ first (record_refusals S added (user, role) ++ named_last S added user role ∷ [])
      by (Some refusal) is = sym (stopped (record_refusals S added (user, role)) _ refusal is) ∙ stopped (record_refusals S added (user, role)) (named_last S added user role) refusal is
      by None is =
          let is_user = refuse_unless-None (contains S.users user) NoUser (passed (record_refusals S added (user, role)) is).0 in
          ap (λ last. first (record_refusals S added (user, role) ++ last ∷ [])) (same_last is_user)

-- the assignments and the added pairs are at most 20,000 together
pub added_len : (S : RbacState) (added : Pairs) → IsGood (with_assignments S added) → IsDisjoint S.assignments added → len S.assignments + len added ≤ 20000
unfolding with_assignments
added_len S added good apart =
    let both : len (union S.assignments added) ≡ len S.assignments + len added = len-union pair_total pair_exact S.assignments added apart in
    let few : len (union S.assignments added) ≤ 20000 = good.limits.assignments in
    omega (arith, both, few)

-- an accepted pair is neither assigned before nor among the added ones
pub new_to_added : (S : RbacState) (added : Pairs) (pair : Pair) → assignment_verdict (with_assignments S added) pair ≡ None → (contains S.assignments pair ≡ false) × (contains added pair ≡ false)
unfolding with_assignments
new_to_added S added pair put = or_parts (contains S.assignments pair) (contains added pair)
    (sym (contains-union pair_total pair_exact S.assignments added pair) ∙ not_assigned (with_assignments S added) pair put)
