-- The loop of an import: what it has done so far, and what the records that are left add, make up the whole import.
use Rattle.std.proofs.Common.{◌≡◌, ℕ, suc, ◌+◌, ◌<◌, ◌≤◌, drop, get_or, Bool, true, false, ◌||◌, List, [], ◌∷◌, ◌++◌, map, length, refl, sym, ◌∙◌, ap, subst, arith}
use Rattle.std.specs.Prelude.{Option, Some, None, is_none, count_by}
use Rattle.std.specs.List.{cons_option, enumerate_from, filter_map}
use Rattle.std.specs.Ordering.{eq_by_cmp}
use Rattle.std.proofs.lemmas.Bool.{true≢false, false_from_ne_true}
use Rattle.std.proofs.Math.Seq.{drop-cons}
use Rattle.std.proofs.lemmas.List.{append_assoc, append-nil, drop_all}
use Rattle.rbac_sets.specs.Sets.{Pair, pair_cmp, contains, union, IsDisjoint}
use Rattle.rbac_sets.specs.SortedSet.{set_of}
use Rattle.rbac_sets.specs.NameOrder.{pair_total, pair_exact}
use Rattle.rbac_sets.specs.declared.refusal.Refusal.{Refusal}
use Rattle.rbac_sets.proofs.SetLaws.{contains-empty, contains-insert, tie_Decides}
use Rattle.admin_mgr.specs.declared.planning.importing.Imported.{Imported}
use Rattle.admin_mgr.specs.RbacState.{RbacState}
use Rattle.admin_mgr.specs.Assignment.{assignment_verdict, import_verdicts, is_already, refused_record, tally_of}
use Rattle.admin_mgr.specs.private.ImportPlan.{accepted, with_assignments, put_assignment, IsBegun, IsAssigned, IsRefused, Follows}
use Rattle.admin_mgr.specs.PlanEffect.{tally_of_report}
use Rattle.admin_mgr.specs.Good.{IsGood}
use Rattle.admin_mgr.proofs.Verdicts.TouchLaws.{with_assignment}
use Rattle.admin_mgr.proofs.StateAfter.GoodAssignment.{good_with_assignment}
use Rattle.admin_mgr.proofs.Imports.ImportLaws.{one_if, counted, accepted_put, accepted_kept, verdicts_put, verdicts_kept}
use Rattle.admin_mgr.proofs.Imports.RecordLaws.{new_to_added}
use Rattle.admin_mgr.proofs.Imports.UnionLaws.{union-empty, union-insert}

-- the state with the pairs assigned so far
abbrev pub state_now : RbacState → Imported → RbacState
state_now S now = with_assignments S (set_of pair_cmp now.added)

-- the refused records in the report, for the verdicts that are left, of which the first has this number
abbrev pub left_over : ℕ → List (Option Refusal) → List (ℕ × ℕ)
left_over number verdicts = filter_map refused_record (enumerate_from number verdicts)

-- The invariant of the loop: `number` records are judged, and `rest` is left. What is done and what `rest` adds make up the
-- import of `all`.
pub record Stands (S : RbacState) (all rest : List Pair) (number : ℕ) (now : Imported) : Type 0 where
  pub good : IsGood (state_now S now)
  pub apart : IsDisjoint S.assignments (set_of pair_cmp now.added)
  pub changes : now.changes.items ++ map put_assignment (accepted (state_now S now) rest) ≡ map put_assignment (accepted S all)
  pub assigned : now.report.assigned + count_by is_none (import_verdicts (state_now S now) rest) ≡ count_by is_none (import_verdicts S all)
  pub already : now.report.already + count_by is_already (import_verdicts (state_now S now) rest) ≡ count_by is_already (import_verdicts S all)
  pub refused : now.report.refused.items ++ left_over (number + 1) (import_verdicts (state_now S now) rest) ≡ left_over 1 (import_verdicts S all)
  pub few_assigned : now.report.assigned ≤ number
  pub few_already : now.report.already ≤ number

-- at the start all records are left
pub begins : (S : RbacState) → IsGood S → (all : List Pair) (now : Imported) → IsBegun now → Stands S all all 0 now
unfolding with_assignments
begins S good all now begun =
    let same : state_now S now ≡ S = (λ i. record S { assignments = (ap (λ t. union S.assignments t) begun.added ∙ union-empty pair_total pair_exact S.assignments) i }) in
    let none = begun.assigned in
    let none_already = begun.already in
    record {
      good = subst IsGood (sym same) good;
      apart = λ x there. ap (λ t. contains t x) begun.added ∙ contains-empty pair_cmp x;
      changes = (λ i. begun.changes i ++ map put_assignment (accepted (same i) all));
      assigned = (let left : count_by is_none (import_verdicts (state_now S now) all) ≡ count_by is_none (import_verdicts S all) = ap (λ X. count_by is_none (import_verdicts X all)) same in
          omega (arith, none, left));
      already = (let left : count_by is_already (import_verdicts (state_now S now) all) ≡ count_by is_already (import_verdicts S all) = ap (λ X. count_by is_already (import_verdicts X all)) same in
          omega (arith, none_already, left));
      refused = (λ i. begun.refused i ++ left_over 1 (import_verdicts (same i) all));
      few_assigned = omega (arith, none);
      few_already = omega (arith, none_already);
    }

-- an optional entry at the end of the first list may be moved to the front of the second
told_before : {X : Type 0} (xs : List X) (o : Option X) (ys : List X) → (xs ++ cons_option o []) ++ ys ≡ xs ++ cons_option o ys
told_before xs None ys = ap (λ l. l ++ ys) (append-nil xs)
told_before xs (Some x) ys = append_assoc xs (x ∷ []) ys

module _ (S : RbacState) (all rest : List Pair) (pair : Pair) (number : ℕ) (before later : Imported) (stands : Stands S all (pair ∷ rest) number before) where
  -- if the next record is assigned
  assigned_step : assignment_verdict (state_now S before) pair ≡ None → IsAssigned pair before later → Stands S all rest (number + 1) later
  unfolding with_assignments with_assignment
  assigned_step put assigned =
      let X : RbacState = state_now S before in
      let same : state_now S later ≡ with_assignment X pair =
      (λ i. record S { assignments = (ap (λ t. union S.assignments t) assigned.added ∙ union-insert pair_total pair_exact S.assignments (set_of pair_cmp before.added) pair) i }) in
      let verdicts : import_verdicts X (pair ∷ rest) ≡ None ∷ import_verdicts (state_now S later) rest =
      verdicts_put X stands.good pair rest put ∙ ap (λ Y. None ∷ import_verdicts Y rest) (sym same) in
      let new = (new_to_added S (set_of pair_cmp before.added) pair put).0 in
      let more = assigned.assigned in
      let as_many = assigned.already in
      let few_already = stands.few_already in
      let more_assigned : count_by is_none (import_verdicts X (pair ∷ rest)) ≡ 1 + count_by is_none (import_verdicts (state_now S later) rest) =
      ap (count_by is_none) verdicts ∙ counted is_none None (import_verdicts (state_now S later) rest) in
      let more_already : count_by is_already (import_verdicts X (pair ∷ rest)) ≡ 0 + count_by is_already (import_verdicts (state_now S later) rest) =
      ap (count_by is_already) verdicts ∙ counted is_already None (import_verdicts (state_now S later) rest) in
      record {
        good = subst IsGood (sym same) (good_with_assignment X stands.good pair put);
        apart = λ x there. ap (λ t. contains t x) assigned.added ∙ contains-insert pair_total (set_of pair_cmp before.added) pair x
            ∙ (λ i. false_from_ne_true (eq_by_cmp pair_cmp x pair) (λ tie. true≢false (sym there ∙ ap (contains S.assignments) ((tie_Decides pair_total pair_exact x pair).0 tie) ∙ new)) i || stands.apart x there i);
        changes = (λ i. assigned.changes i ++ map put_assignment (accepted (same i) rest))
            ∙ append_assoc before.changes.items (put_assignment pair ∷ []) (map put_assignment (accepted (with_assignment X pair) rest))
            ∙ ap (λ ps. before.changes.items ++ map put_assignment ps) (sym (accepted_put X stands.good pair rest put))
            ∙ stands.changes;
        assigned = omega (arith, more, more_assigned, stands.assigned);
        already = omega (arith, as_many, more_already, stands.already);
        refused = ap (λ l. l ++ left_over (number + 1 + 1) (import_verdicts (state_now S later) rest)) assigned.refused
            ∙ ap (λ vs. before.report.refused.items ++ left_over (number + 1) vs) (sym verdicts)
            ∙ stands.refused;
        few_assigned = omega (arith, more, stands.few_assigned);
        few_already = omega (arith, as_many, few_already);
      }

  -- if the next record is refused
  refused_step : (refusal : Refusal) → assignment_verdict (state_now S before) pair ≡ Some refusal → IsRefused (number + 1) refusal before later → Stands S all rest (number + 1) later
  refused_step refusal is told =
      let X : RbacState = state_now S before in
      let same : state_now S later ≡ X = ap (with_assignments S) told.added in
      let verdicts : import_verdicts X (pair ∷ rest) ≡ Some refusal ∷ import_verdicts (state_now S later) rest =
      verdicts_kept X pair rest refusal is ∙ ap (λ Y. Some refusal ∷ import_verdicts Y rest) (sym same) in
      let as_many = told.assigned in
      let more : later.report.already ≡ before.report.already + one_if (is_already (Some refusal)) = told.already in
      let few_already = stands.few_already in
      let more_assigned : count_by is_none (import_verdicts X (pair ∷ rest)) ≡ 0 + count_by is_none (import_verdicts (state_now S later) rest) =
      ap (count_by is_none) verdicts ∙ counted is_none (Some refusal) (import_verdicts (state_now S later) rest) in
      let more_already : count_by is_already (import_verdicts X (pair ∷ rest)) ≡ one_if (is_already (Some refusal)) + count_by is_already (import_verdicts (state_now S later) rest) =
      ap (count_by is_already) verdicts ∙ counted is_already (Some refusal) (import_verdicts (state_now S later) rest) in
      let at_most : one_if (is_already (Some refusal)) ≤ 1 = one_if_le (is_already (Some refusal)) in
      record {
        good = subst IsGood (sym same) stands.good;
        apart = λ x there. ap (λ t. contains t x) told.added ∙ stands.apart x there;
        changes = (λ i. told.changes i ++ map put_assignment (accepted (same i) rest))
            ∙ ap (λ ps. before.changes.items ++ map put_assignment ps) (sym (accepted_kept X pair rest refusal is))
            ∙ stands.changes;
        assigned = omega (arith, as_many, more_assigned, stands.assigned);
        already = omega (arith, more, more_already, stands.already);
        refused = ap (λ l. l ++ left_over (number + 1 + 1) (import_verdicts (state_now S later) rest)) told.refused
            ∙ told_before before.report.refused.items (refused_record (number + 1, Some refusal)) (left_over (number + 1 + 1) (import_verdicts (state_now S later) rest))
            ∙ ap (λ vs. before.report.refused.items ++ left_over (number + 1) vs) (sym verdicts)
            ∙ stands.refused;
        few_assigned = omega (arith, as_many, stands.few_assigned);
        few_already = omega (arith, more, few_already, at_most);
      }
    where
      one_if_le : (b : Bool) → one_if b ≤ 1
      one_if_le true = omega arith
      one_if_le false = omega arith

  -- the invariant holds after the next record
  pub goes_on : Follows (assignment_verdict (state_now S before) pair) (number + 1) pair before later → Stands S all rest (number + 1) later
  goes_on follows = by (assignment_verdict (state_now S before) pair) refl follows
    where
      by : (v : Option Refusal) → assignment_verdict (state_now S before) pair ≡ v → Follows v (number + 1) pair before later → Stands S all rest (number + 1) later
      by None is assigned = assigned_step is assigned
      by (Some refusal) is told = refused_step refusal is told

-- at the end, the changes are those of the whole import
pub ends_with_changes : (S : RbacState) (all : List Pair) (number : ℕ) (now : Imported) → Stands S all [] number now → now.changes.items ≡ map put_assignment (accepted S all)
unfolding accepted
ends_with_changes S all number now stands = sym (append-nil now.changes.items) ∙ stands.changes

-- at the end, the report is that of the whole import
pub ends_with_report : (S : RbacState) (all : List Pair) (number : ℕ) (now : Imported) → Stands S all [] number now → tally_of_report now.report ≡ tally_of (import_verdicts S all)
unfolding import_verdicts tally_of
ends_with_report S all number now stands =
    let assigned : now.report.assigned ≡ count_by is_none (import_verdicts S all) = omega (arith, stands.assigned) in
    let already : now.report.already ≡ count_by is_already (import_verdicts S all) = omega (arith, stands.already) in
    let refused = sym (append-nil now.report.refused.items) ∙ stands.refused in
    λ i. record { assigned = assigned i; already = already i; refused = refused i }

-- the records from index i on are the record there and those after it
pub next_record : (all : List Pair) (i : ℕ) (pair : Pair) → i < length all → pair ≡ get_or all i pair → drop i all ≡ pair ∷ drop (i + 1) all
next_record all i pair within is = drop-cons all i pair within ∙ (λ k. sym is k ∷ drop (one_more k) all)
  where
    one_more : suc i ≡ i + 1
    one_more = omega arith

-- the invariant holds after the record at index i
pub goes_on_at : (S : RbacState) (all : List Pair) (i : ℕ) (pair : Pair) (before later : Imported) → i < length all → pair ≡ get_or all i pair → Stands S all (drop i all) i before →
    Follows (assignment_verdict (state_now S before) pair) (i + 1) pair before later → Stands S all (drop (i + 1) all) (i + 1) later
goes_on_at S all i pair before later within is stands follows =
    goes_on S all (drop (i + 1) all) pair i before later (subst (λ rest. Stands S all rest i before) (next_record all i pair within is) stands) follows

-- after the last record none is left
pub none_left : (S : RbacState) (all : List Pair) (i : ℕ) (now : Imported) → length all ≤ i → Stands S all (drop i all) i now → Stands S all [] i now
none_left S all i now past stands = subst (λ rest. Stands S all rest i now) (drop_all i all past) stands
