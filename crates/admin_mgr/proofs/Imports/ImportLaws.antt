-- An import leads from a good state to a good one: the assigned pairs are added to the assignments, and no session ends.
use Rattle.std.proofs.Common.{◌≡◌, ℕ, ◌+◌, ◌≤◌, Bool, false, cond, List, [], ◌∷◌, length, refl, sym, ◌∙◌, ap, subst, inl, inr}
use Rattle.std.specs.Prelude.{IsTrue, Option, Some, None, is_none, count_by}
use Rattle.std.specs.List.{list_any, IsDistinct, AllByRecursion}
use Rattle.std.specs.Ordering.{eq_by_cmp}
use Rattle.std.proofs.lemmas.Bool.{or_cases, or_left, or_right, true≢false, false_from_ne_true, or_parts}
use Rattle.std.proofs.lemmas.List.Sums.{sum_by-cons}
use Rattle.rbac_sets.specs.Sets.{Pair, pair_cmp, contains, insert_all, from_list}
use Rattle.rbac_sets.specs.NameOrder.{pair_total, pair_exact}
use Rattle.rbac_sets.specs.declared.refusal.Refusal.{Refusal}
use Rattle.rbac_sets.proofs.SetLaws.{contains-insert, tie_Decides}
use Rattle.admin_mgr.specs.RbacState.{RbacState}
use Rattle.rbac_sets.specs.declared.command.Command.TheVariants.{ImportAssignments}
use Rattle.rbac_sets.specs.declared.kind.Kind.TheVariants.{Record}
use Rattle.rbac_sets.specs.declared.refusal.Refusal.TheVariants.{TooMany}
use Rattle.std.specs.declared.vec.Vec.{Vec}
use Rattle.std.specs.declared.alloc.Global.{Global}
use Rattle.std.proofs.lemmas.Bool.{ltb-false}
use Rattle.admin_mgr.specs.After.{changed, after}
use Rattle.admin_mgr.specs.Verdict.{verdict, refusals}
use Rattle.admin_mgr.specs.Refusals.{is_too_many}
use Rattle.admin_mgr.proofs.StateAfter.SessionLaws.{none_ends}
use Rattle.admin_mgr.proofs.Verdicts.VerdictLaws.{passed, refuse_if-None}
use Rattle.admin_mgr.specs.Assignment.{after_assignment, after_record, after_import, assignment_verdict, import_verdicts}
use Rattle.admin_mgr.specs.private.ImportPlan.{accepted, with_assignments}
use Rattle.admin_mgr.specs.Good.{IsGood}
use Rattle.admin_mgr.proofs.StateAfter.GoodAssignment.{after_assignment_is, good_with_assignment, not_assigned}
use Rattle.admin_mgr.proofs.Verdicts.TouchLaws.{with_assignment}
use Rattle.admin_mgr.proofs.Imports.UnionLaws.{union-empty, insert-union, insert_all-union}

-- ---- counting

-- 1 if the test holds, otherwise 0
abbrev pub one_if : Bool → ℕ
one_if b = cond b 1 0

-- a count, as that of the first entry and that of the others
pub counted : {X : Type 0} (p : X → Bool) (x : X) (xs : List X) → count_by p (x ∷ xs) ≡ one_if (p x) + count_by p xs
counted {X} p x xs = sum_by-cons (λ (y : X). one_if (p y)) x xs

-- ---- one record

-- an accepted record is assigned
pub record_put : (S : RbacState) → IsGood S → (pair : Pair) → assignment_verdict S pair ≡ None → after_record S pair ≡ with_assignment S pair
unfolding after_record with_assignment
record_put S good pair put = ap (λ v. cond (is_none v) (after_assignment S pair) S) put ∙ after_assignment_is S good pair put

-- a refused record leaves the state unchanged
pub record_kept : (S : RbacState) (pair : Pair) (refusal : Refusal) → assignment_verdict S pair ≡ Some refusal → after_record S pair ≡ S
unfolding after_record
record_kept S pair refusal told = ap (λ v. cond (is_none v) (after_assignment S pair) S) told

-- in both cases the state is good
pub good_record : (S : RbacState) → IsGood S → (pair : Pair) → IsGood (after_record S pair)
good_record S good pair = by (assignment_verdict S pair) refl
  where
    by : (v : Option Refusal) → assignment_verdict S pair ≡ v → IsGood (after_record S pair)
    by None put = subst IsGood (sym (record_put S good pair put)) (good_with_assignment S good pair put)
    by (Some refusal) told = subst IsGood (sym (record_kept S pair refusal told)) good

-- ---- the assigned pairs

-- the first record is one of them if it is accepted
pub accepted_put : (S : RbacState) → IsGood S → (pair : Pair) (pairs : List Pair) → assignment_verdict S pair ≡ None →
    accepted S (pair ∷ pairs) ≡ pair ∷ accepted (with_assignment S pair) pairs
unfolding accepted
accepted_put S good pair pairs put =
    ap (λ v. cond (is_none v) (pair ∷ accepted (after_record S pair) pairs) (accepted (after_record S pair) pairs)) put
    ∙ ap (λ X. pair ∷ accepted X pairs) (record_put S good pair put)

-- and isn't if it is refused
pub accepted_kept : (S : RbacState) (pair : Pair) (pairs : List Pair) (refusal : Refusal) → assignment_verdict S pair ≡ Some refusal →
    accepted S (pair ∷ pairs) ≡ accepted S pairs
unfolding accepted
accepted_kept S pair pairs refusal told =
    ap (λ v. cond (is_none v) (pair ∷ accepted (after_record S pair) pairs) (accepted (after_record S pair) pairs)) told
    ∙ ap (λ X. accepted X pairs) (record_kept S pair refusal told)

-- the verdicts on records of which the first is accepted
pub verdicts_put : (S : RbacState) → IsGood S → (pair : Pair) (pairs : List Pair) → assignment_verdict S pair ≡ None →
    import_verdicts S (pair ∷ pairs) ≡ None ∷ import_verdicts (with_assignment S pair) pairs
unfolding import_verdicts
verdicts_put S good pair pairs put = (λ i. put i ∷ import_verdicts (after_record S pair) pairs) ∙ ap (λ X. None ∷ import_verdicts X pairs) (record_put S good pair put)

-- the verdicts on records of which the first is refused
pub verdicts_kept : (S : RbacState) (pair : Pair) (pairs : List Pair) (refusal : Refusal) → assignment_verdict S pair ≡ Some refusal →
    import_verdicts S (pair ∷ pairs) ≡ Some refusal ∷ import_verdicts S pairs
unfolding import_verdicts
verdicts_kept S pair pairs refusal told =
    (λ i. told i ∷ import_verdicts (after_record S pair) pairs) ∙ ap (λ X. Some refusal ∷ import_verdicts X pairs) (record_kept S pair refusal told)

-- induction on the records of an import, by the verdict on each
module _ (P : RbacState → List Pair → List Pair → Type 0)
    (none : (S : RbacState) → P S [] [])
    (put : (S : RbacState) (good : IsGood S) (pair : Pair) (pairs assigned : List Pair) → assignment_verdict S pair ≡ None →
    IsGood (with_assignment S pair) → P (with_assignment S pair) pairs assigned → P S (pair ∷ pairs) (pair ∷ assigned))
    (kept : (S : RbacState) (good : IsGood S) (pair : Pair) (pairs assigned : List Pair) (refusal : Refusal) → assignment_verdict S pair ≡ Some refusal →
    P S pairs assigned → P S (pair ∷ pairs) assigned) where
  pub by_records : (S : RbacState) → IsGood S → (pairs : List Pair) → P S pairs (accepted S pairs)
  unfolding accepted
  by_records S good [] = none S
  by_records S good (pair ∷ pairs) = by (λ X better. by_records X better pairs) (assignment_verdict S pair) refl
    where
      by : ((X : RbacState) → IsGood X → P X pairs (accepted X pairs)) → (v : Option Refusal) → assignment_verdict S pair ≡ v → P S (pair ∷ pairs) (accepted S (pair ∷ pairs))
      by rest None is =
          let better = good_with_assignment S good pair is in
          subst (P S (pair ∷ pairs)) (sym (accepted_put S good pair pairs is)) (put S good pair pairs _ is better (rest (with_assignment S pair) better))
      by rest (Some refusal) is = subst (P S (pair ∷ pairs)) (sym (accepted_kept S pair pairs refusal is)) (kept S good pair pairs _ refusal is (rest S good))

-- ---- the state after an import

-- each record leads to a good state, so all do
pub good_import : (S : RbacState) → IsGood S → (pairs : List Pair) → IsGood (after_import S pairs)
unfolding after_import
good_import S good [] = good
good_import S good (pair ∷ pairs) = good_import (after_record S pair) (good_record S good pair) pairs

-- the assigned pairs are added to the assignments
pub import_is : (S : RbacState) → IsGood S → (pairs : List Pair) → after_import S pairs ≡ with_assignments S (from_list (accepted S pairs))
unfolding after_import with_assignments from_list with_assignment
import_is = by_records (λ S pairs assigned. after_import S pairs ≡ with_assignments S (from_list assigned)) none put kept
  where
    none : (S : RbacState) → after_import S [] ≡ with_assignments S (from_list [])
    none S = λ i. record S { assignments = sym (union-empty pair_total pair_exact S.assignments) i }

    put : (S : RbacState) (good : IsGood S) (pair : Pair) (pairs assigned : List Pair) → assignment_verdict S pair ≡ None → IsGood (with_assignment S pair) →
        after_import (with_assignment S pair) pairs ≡ with_assignments (with_assignment S pair) (from_list assigned) →
        after_import S (pair ∷ pairs) ≡ with_assignments S (from_list (pair ∷ assigned))
    put S good pair pairs assigned is better rest =
        ap (λ X. after_import X pairs) (record_put S good pair is) ∙ rest
        ∙ (λ i. record S { assignments = insert-union pair_total pair_exact S.assignments (from_list assigned) pair i })

    kept : (S : RbacState) (good : IsGood S) (pair : Pair) (pairs assigned : List Pair) (refusal : Refusal) → assignment_verdict S pair ≡ Some refusal →
        after_import S pairs ≡ with_assignments S (from_list assigned) → after_import S (pair ∷ pairs) ≡ with_assignments S (from_list assigned)
    kept S good pair pairs assigned refusal is rest = ap (λ X. after_import X pairs) (record_kept S pair refusal is) ∙ rest

-- ---- the assigned pairs are new and distinct

-- none of these pairs was assigned before
abbrev AreNew : RbacState → List Pair → Type 0
AreNew S assigned = (p : Pair) → IsTrue (list_any (eq_by_cmp pair_cmp p) assigned) → contains S.assignments p ≡ false

-- a pair that is new after one more assignment differs from it, and was new before
new_before : (S : RbacState) (pair : Pair) (assigned : List Pair) → AreNew (with_assignment S pair) assigned →
    (p : Pair) → IsTrue (list_any (eq_by_cmp pair_cmp p) assigned) → (eq_by_cmp pair_cmp p pair ≡ false) × (contains S.assignments p ≡ false)
unfolding with_assignment
new_before S pair assigned rest p h = or_parts (eq_by_cmp pair_cmp p pair) (contains S.assignments p) (sym (contains-insert pair_total S.assignments pair p) ∙ rest p h)

-- no assigned pair was assigned before
pub accepted_new : (S : RbacState) → IsGood S → (pairs : List Pair) (p : Pair) → IsTrue (list_any (eq_by_cmp pair_cmp p) (accepted S pairs)) → contains S.assignments p ≡ false
accepted_new = by_records (λ S pairs assigned. AreNew S assigned) (λ S p h. absurd (true≢false (sym h)))
    (λ S good pair pairs assigned is better rest p h. elim (or_cases (eq_by_cmp pair_cmp p pair) (list_any (eq_by_cmp pair_cmp p) assigned) h) [
      | inl same ↦ ap (contains S.assignments) ((tie_Decides pair_total pair_exact p pair).0 same) ∙ not_assigned S pair is
      | inr later ↦ (new_before S pair assigned rest p later).1
    ])
    (λ S good pair pairs assigned refusal is rest. rest)

-- a pair that isn't in a list differs from each of its entries
each_other : (pair : Pair) (xs : List Pair) → ((p : Pair) → IsTrue (list_any (eq_by_cmp pair_cmp p) xs) → eq_by_cmp pair_cmp p pair ≡ false) → AllByRecursion (λ y. eq_by_cmp pair_cmp pair y ≡ false) xs
each_other pair [] others = tt
each_other pair (x ∷ xs) others = (
  false_from_ne_true (eq_by_cmp pair_cmp pair x) (λ same. true≢false (
      sym ((tie_Decides pair_total pair_exact x pair).1 (sym ((tie_Decides pair_total pair_exact pair x).0 same)))
      ∙ others x (or_left (eq_by_cmp pair_cmp x x) _ ((tie_Decides pair_total pair_exact x x).1 refl)))),
  each_other pair xs (λ p h. others p (or_right (eq_by_cmp pair_cmp p x) _ h)),
)

-- no pair is assigned twice
pub accepted_distinct : (S : RbacState) → IsGood S → (pairs : List Pair) → IsDistinct (eq_by_cmp pair_cmp) (accepted S pairs)
unfolding IsDistinct
accepted_distinct S good pairs = (by_records (λ S pairs assigned. AreNew S assigned × IsDistinct (eq_by_cmp pair_cmp) assigned) none put (λ S good pair pairs assigned refusal is rest. rest) S good pairs).1
  where
    none : (S : RbacState) → AreNew S [] × IsDistinct (eq_by_cmp pair_cmp) []
    none S = (λ p h. absurd (true≢false (sym h)), tt)

    put : (S : RbacState) (good : IsGood S) (pair : Pair) (pairs assigned : List Pair) → assignment_verdict S pair ≡ None → IsGood (with_assignment S pair) →
        AreNew (with_assignment S pair) assigned × IsDistinct (eq_by_cmp pair_cmp) assigned → AreNew S (pair ∷ assigned) × IsDistinct (eq_by_cmp pair_cmp) (pair ∷ assigned)
    put S good pair pairs assigned is better rest = (
      λ p h. elim (or_cases (eq_by_cmp pair_cmp p pair) (list_any (eq_by_cmp pair_cmp p) assigned) h) [
        | inl same ↦ ap (contains S.assignments) ((tie_Decides pair_total pair_exact p pair).0 same) ∙ not_assigned S pair is
        | inr later ↦ (new_before S pair assigned rest.0 p later).1
      ],
      (each_other pair assigned (λ p h. (new_before S pair assigned rest.0 p h).0), rest.1),
    )

-- ---- the state after an import, as insertions into the assignments

-- the assigned pairs are inserted one by one
pub import_puts : (S : RbacState) → IsGood S → (pairs : List Pair) → after_import S pairs ≡ record S { assignments = insert_all S.assignments (accepted S pairs) }
unfolding with_assignments
import_puts S good pairs = import_is S good pairs ∙ (λ i. record S { assignments = sym (insert_all-union pair_total pair_exact S.assignments (accepted S pairs)) i })

-- ---- the command

module _ (S : RbacState) (good : IsGood S) (pairs : Vec Pair Global) where
  -- no session ends
  pub after_import_assignments : after S (ImportAssignments pairs) ≡ after_import S pairs.items
  unfolding after changed
  after_import_assignments = none_ends (after_import S pairs.items) (good_import S good pairs.items)

  -- and the state is good
  pub good_after_import : IsGood (after S (ImportAssignments pairs))
  good_after_import = subst IsGood (sym after_import_assignments) (good_import S good pairs.items)

  -- the state after the command, with the assigned pairs inserted one by one
  pub after_import_puts : after S (ImportAssignments pairs) ≡ record S { assignments = insert_all S.assignments (accepted S pairs.items) }
  after_import_puts = after_import_assignments ∙ import_puts S good pairs.items

-- an accepted import has at most 10,000 records
pub import_records : (S : RbacState) (pairs : Vec Pair Global) → verdict S (ImportAssignments pairs) ≡ None → length pairs.items ≤ 10000
unfolding verdict refusals
import_records S pairs accepted_one = ltb-false 10000 (length pairs.items)
    (refuse_if-None (is_too_many S Record (length pairs.items)) (TooMany Record) (passed (refusals S (ImportAssignments pairs)) accepted_one).0)
