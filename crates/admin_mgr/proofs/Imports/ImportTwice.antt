-- An import that is repeated changes nothing, whatever the state.
use Rattle.std.proofs.Common.{◌≡◌, ℕ, ◌+◌, ◌≤◌, Bool, true, false, cond, not, List, [], ◌∷◌, map, refl, sym, ◌∙◌, ap, subst, arith, inl, inr}
use Rattle.std.specs.Prelude.{IsTrue, Option, Some, None, is_none, nat_lt, nat_eq, count_by}
use Rattle.std.specs.Option.{option_map}
use Rattle.std.specs.List.{enumerate_from, filter_map, cons_option}
use Rattle.std.proofs.lemmas.Bool.{and_from, ltb-true, lt-ltb, true≢false, false_from_ne_true}
use Rattle.rbac_sets.specs.Refusal.{code_of}
use Rattle.rbac_sets.specs.Sets.{Bytes, Pair, Pairs, empty, contains, insert, len}
use Rattle.rbac_sets.specs.NameOrder.{name_total, name_exact, pair_total, pair_exact}
use Rattle.rbac_sets.specs.declared.kind.Kind.TheVariants.{Assignment}
use Rattle.rbac_sets.specs.declared.refusal.Refusal.{Refusal}
use Rattle.rbac_sets.specs.declared.refusal.Refusal.TheVariants.{NoUser, NoRole, AlreadyAssigned, StaticSeparation, TooMany}
use Rattle.rbac_sets.proofs.SetLaws.{contains-insert-Decides, all-Decides, seconds-Decides}
use Rattle.rbac_sets.proofs.Members.{len-subset}
use Rattle.admin_mgr.specs.RbacState.{RbacState, members_of, active_roles}
use Rattle.admin_mgr.specs.Authorization.{authorized_users, is_authorized}
use Rattle.admin_mgr.specs.Separation.{is_kept_statically, static_violation}
use Rattle.admin_mgr.specs.Refusals.{refuse_if, refuse_unless, first, is_too_many, violates_static}
use Rattle.admin_mgr.specs.Assignment.{may_go_on, end_sessions, after_assignment, after_record, after_import, assignment_verdict, assignment_refusals, import_verdicts, is_already, refused_record, tally_of}
use Rattle.admin_mgr.specs.After.{changed, after}
use Rattle.admin_mgr.specs.Verdict.{verdict, refusals}
use Rattle.admin_mgr.specs.Run.{tally}
use Rattle.admin_mgr.specs.Laws.{IsSameCode, RefuseTheSame, ImportTwice}
use Rattle.admin_mgr.proofs.StateAfter.EffectLaws.{import_keeps}
use Rattle.admin_mgr.proofs.StateAfter.EndLaws.{count-fewer, ended_session, ended_active, ended_owned}
use Rattle.admin_mgr.proofs.StateAfter.GoodAssignment.{room_for_assignment, assigned_user, assigned_role}
use Rattle.admin_mgr.proofs.Imports.ImportLaws.{one_if, counted, record_kept}
use Rattle.admin_mgr.proofs.StateAfter.PartLaws.{IsSubset, authorized-fewer}
use Rattle.admin_mgr.proofs.Verdicts.SeparationLaws.{least_violated-None, kept_statically}
use Rattle.admin_mgr.proofs.StateAfter.SessionLaws.{none_ends_where, goes_on_parts}
use Rattle.admin_mgr.proofs.Verdicts.VerdictLaws.{passed}

-- ---- what an import keeps of a state, and what it adds

-- the state with these assignments, and without its sessions
abbrev holding : RbacState → Pairs → RbacState
holding S assignments = record S { assignments = assignments; sessions = empty; active = empty }

-- the verdict on a record doesn't depend on sessions
verdict_holding : (S : RbacState) (p : Pair) → assignment_verdict S p ≡ assignment_verdict (holding S S.assignments) p
unfolding assignment_verdict assignment_refusals after_assignment end_sessions is_kept_statically authorized_users
verdict_holding S p = refl

-- the states differ only in their assignments and their sessions
abbrev IsAlike : RbacState → RbacState → Type 0
IsAlike S T = holding S empty ≡ holding T empty

-- so the verdict depends only on the assignments
verdict_alike : (S T : RbacState) → IsAlike S T → (p : Pair) → assignment_verdict T p ≡ assignment_verdict (holding S T.assignments) p
verdict_alike S T alike p = verdict_holding T p ∙ ap (λ X. assignment_verdict (record X { assignments = T.assignments }) p) (sym alike)

-- an import changes only assignments and sessions
alike_import : (S : RbacState) (pairs : List Pair) → IsAlike S (after_import S pairs)
unfolding after_assignment end_sessions
alike_import S pairs = sym (import_keeps (λ X. holding X empty) kept S pairs)
  where
    kept : (S : RbacState) (pair : Pair) → holding (after_assignment S pair) empty ≡ holding S empty
    kept S pair = refl

-- the assignments after an accepted record
after_put : (S : RbacState) (pair : Pair) → assignment_verdict S pair ≡ None → (after_record S pair).assignments ≡ insert S.assignments pair
unfolding after_record after_assignment end_sessions
after_put S pair put = ap (λ v. (cond (is_none v) (after_assignment S pair) S).assignments) put

-- a record removes no assignment
record_grows : (S : RbacState) (pair : Pair) → IsSubset S.assignments (after_record S pair).assignments
record_grows S pair p there = by (assignment_verdict S pair) refl
  where
    by : (v : Option Refusal) → assignment_verdict S pair ≡ v → IsTrue (contains (after_record S pair).assignments p)
    by None put = ap (λ s. contains s p) (after_put S pair put) ∙ (contains-insert-Decides pair_total pair_exact S.assignments pair p).1 (inr there)
    by (Some refusal) told = ap (λ X. contains X.assignments p) (record_kept S pair refusal told) ∙ there

-- and so does an import
import_grows : (S : RbacState) (pairs : List Pair) → IsSubset S.assignments (after_import S pairs).assignments
unfolding after_import
import_grows S [] p there = there
import_grows S (pair ∷ pairs) p there = import_grows (after_record S pair) pairs p (record_grows S pair p there)

-- ---- more assignments never repair a violation

module _ (S : RbacState) (few many : Pairs) (within : IsSubset few many) where
  -- with more assignments nobody is authorized for less
  authorized_more : (user role : Bytes) → IsTrue (is_authorized (holding S few) user role) → IsTrue (is_authorized (holding S many) user role)
  authorized_more = authorized-fewer (holding S many) (holding S few) (λ p h. h) within

  -- so if no static set is violated with more assignments, none is with fewer
  none_before : violates_static (holding S many) ≡ None → violates_static (holding S few) ≡ None
  none_before none = ap (option_map StaticSeparation)
      ((least_violated-None (is_kept_statically (holding S few)) S.ssd).1 (λ name n there.
      (kept_statically (holding S few) (members_of S.ssd name) n).1 (λ user is_user.
      (let kept = (kept_statically (holding S many) (members_of S.ssd name) n).0 ((least_violated-None (is_kept_statically (holding S many)) S.ssd).0 (unmapped (static_violation (holding S many)) none) name n there) user is_user in
      let fewer = count-fewer (is_authorized (holding S few) user) (is_authorized (holding S many) user) (members_of S.ssd name) (members_of S.ssd name) (λ x member. member) (authorized_more user) in
      omega (arith, fewer, kept)))))
    where
      unmapped : (o : Option Bytes) → option_map StaticSeparation o ≡ None → o ≡ None
      unmapped None h = refl
      unmapped (Some name) h = cc

-- the static set that is named if the pair is assigned
abbrev named_with : RbacState → Pairs → Pair → Option Bytes
named_with S assignments p = static_violation (holding S (insert assignments p))

-- a subset stays one if the same pair is inserted into both sets
one_more : (few many : Pairs) (p : Pair) → IsSubset few many → IsSubset (insert few p) (insert many p)
one_more few many p within x h = (contains-insert-Decides pair_total pair_exact many p x).1 (elim ((contains-insert-Decides pair_total pair_exact few p x).0 h) [
  | inl same ↦ inl same
  | inr old ↦ inr (within x old)
])

-- ---- a refused record is assigned by no later one

-- the record is refused whatever else is assigned
abbrev IsBlocked : RbacState → Pairs → Pair → Type 0
IsBlocked S assignments p = (more : Pairs) → IsSubset assignments more → assignment_verdict (holding S more) p ≡ None → ⊥

-- if the limit of assignments is reached
blocked_full : (S : RbacState) (assignments : Pairs) (p : Pair) → is_too_many S Assignment (len assignments + 1) ≡ true → IsBlocked S assignments p
blocked_full S assignments p full more within put =
    absurd (omega (arith, room_for_assignment (holding S more) p put, ltb-true 20000 (len assignments + 1) full, len-subset pair_total pair_exact assignments more within))

-- if static separation refuses it
blocked_static : (S : RbacState) (assignments : Pairs) (p : Pair) → (option_map StaticSeparation (named_with S assignments p) ≡ None → ⊥) → IsBlocked S assignments p
unfolding assignment_verdict assignment_refusals after_assignment end_sessions is_kept_statically authorized_users
blocked_static S assignments p violated more within put =
    violated (none_before S (insert assignments p) (insert more p) (one_more assignments more p within) (passed (assignment_refusals (holding S more) p) put).1.1.1.1.0)

-- a blocked pair stays unassigned
stays_out : (p : Pair) (S X : RbacState) → IsAlike S X → IsBlocked S X.assignments p → contains X.assignments p ≡ false → (pairs : List Pair) → contains (after_import X pairs).assignments p ≡ false
unfolding after_import
stays_out p S X alike blocked out [] = out
stays_out p S X alike blocked out (pair ∷ pairs) =
    stays_out p S (after_record X pair) (alike ∙ one) (λ more within. blocked more (λ x there. within x (record_grows X pair x there))) (by (assignment_verdict X pair) refl) pairs
  where
    one : IsAlike X (after_record X pair)
    one = alike_import X (pair ∷ [])

    by : (v : Option Refusal) → assignment_verdict X pair ≡ v → contains (after_record X pair).assignments p ≡ false
    by (Some refusal) told = ap (λ Y. contains Y.assignments p) (record_kept X pair refusal told) ∙ out
    by None put = false_from_ne_true _ (λ h. elim ((contains-insert-Decides pair_total pair_exact X.assignments pair p).0 (sym (ap (λ s. contains s p) (after_put X pair put)) ∙ h)) [
      | inl same ↦ blocked X.assignments (λ x there. there) (sym (verdict_alike S X alike p) ∙ ap (assignment_verdict X) same ∙ put)
      | inr old ↦ true≢false (sym old ∙ out)
    ])

-- ---- the verdict on a record, and on the same record in the second import

-- the second import refuses it: with 10 AlreadyAssigned if it was assigned, otherwise with the same code
abbrev Again : Option Refusal → Option Refusal → Type 0
Again None second = second ≡ Some AlreadyAssigned
Again (Some refusal) second = (other : Refusal) × (second ≡ Some other) × IsSameCode (code_of refusal) (code_of other)

-- the verdict on a record, from the results of its tests
abbrev judged : Bool → Bool → Bool → Bool → Option Refusal → Option Refusal
judged is_user is_role is_assigned is_full last =
    first (refuse_unless is_user NoUser ∷ refuse_unless is_role NoRole ∷ refuse_if is_assigned AlreadyAssigned ∷ refuse_if is_full (TooMany Assignment) ∷ last ∷ [])

-- the code of a refusal, if there is one
abbrev code : Option Refusal → ℕ
code None = 0
code (Some refusal) = code_of refusal

-- the same refusal again
told_same : (refusal other : Refusal) → Some other ≡ Some refusal → Again (Some refusal) (Some other)
told_same refusal other is = (other, refl, inl (sym (ap code is)))

-- static separation again
told_last : (o o' : Option Bytes) (refusal : Refusal) → option_map StaticSeparation o ≡ Some refusal → (option_map StaticSeparation o' ≡ None → ⊥) → Again (Some refusal) (first (option_map StaticSeparation o' ∷ []))
told_last None o' refusal is some = cc
told_last (Some name) None refusal is some = absurd (some refl)
told_last (Some name) (Some other) refusal is some = (StaticSeparation other, refl, inl (sym (ap code is)))

-- too many assignments, if static separation refused before
told_full : (o : Option Bytes) (refusal : Refusal) → option_map StaticSeparation o ≡ Some refusal → Again (Some refusal) (Some (TooMany Assignment))
told_full None refusal is = cc
told_full (Some name) refusal is = (TooMany Assignment, refl, inr (sym (ap code is), refl))

-- the first of a list of one
first_alone : (l : Option Refusal) → first (l ∷ []) ≡ l
first_alone None = refl
first_alone (Some refusal) = refl

-- A refused record is refused again. The tests of the user and the role have the same results; by then the pair may be
-- assigned, and the limit may be reached.
refused_again : (is_user is_role is_assigned is_full later_assigned later_full : Bool) (o o' : Option Bytes) (refusal : Refusal) →
    judged is_user is_role is_assigned is_full (option_map StaticSeparation o) ≡ Some refusal →
    (is_assigned ≡ true → later_assigned ≡ true) →
    (is_assigned ≡ false → is_full ≡ true → (later_assigned ≡ false) × (later_full ≡ true)) →
    (is_assigned ≡ false → option_map StaticSeparation o ≡ Some refusal → later_assigned ≡ false) →
    (option_map StaticSeparation o ≡ Some refusal → option_map StaticSeparation o' ≡ None → ⊥) →
    Again (Some refusal) (judged is_user is_role later_assigned later_full (option_map StaticSeparation o'))
refused_again false b c d e f o o' refusal is stays full last some = told_same refusal NoUser is
refused_again true false c d e f o o' refusal is stays full last some = told_same refusal NoRole is
refused_again true true true d true f o o' refusal is stays full last some = told_same refusal AlreadyAssigned is
refused_again true true true d false f o o' refusal is stays full last some = absurd (true≢false (sym (stays refl)))
refused_again true true false true true f o o' refusal is stays full last some = absurd (true≢false (full refl refl).0)
refused_again true true false true false true o o' refusal is stays full last some = told_same refusal (TooMany Assignment) is
refused_again true true false true false false o o' refusal is stays full last some = absurd (true≢false (sym (full refl refl).1))
refused_again true true false false true f o o' refusal is stays full last some = absurd (true≢false (last refl (sym (first_alone (option_map StaticSeparation o)) ∙ is)))
refused_again true true false false false true o o' refusal is stays full last some = told_full o refusal (sym (first_alone (option_map StaticSeparation o)) ∙ is)
refused_again true true false false false false o o' refusal is stays full last some =
    let named = sym (first_alone (option_map StaticSeparation o)) ∙ is in
    told_last o o' refusal named (some named)

-- the verdict on a record is that from the results of its tests
as_judged : (S : RbacState) (assignments : Pairs) (p : Pair) →
    assignment_verdict (holding S assignments) p
    ≡ judged (contains S.users p.0) (contains S.roles p.1) (contains assignments p) (is_too_many S Assignment (len assignments + 1)) (option_map StaticSeparation (named_with S assignments p))
unfolding assignment_verdict assignment_refusals after_assignment end_sessions is_kept_statically authorized_users
as_judged S assignments p = refl

-- an accepted record is refused with 10 AlreadyAssigned in a state in which it is assigned
put_again : (S T : RbacState) → IsAlike S T → (pair : Pair) → assignment_verdict S pair ≡ None → IsTrue (contains T.assignments pair) → assignment_verdict T pair ≡ Some AlreadyAssigned
put_again S T alike pair put there =
    let is_user = assigned_user S pair put in
    let is_role = assigned_role S pair put in
    verdict_alike S T alike pair ∙ as_judged S T.assignments pair
    ∙ (λ i. judged (is_user i) (is_role i) (there i) (is_too_many S Assignment (len T.assignments + 1)) (option_map StaticSeparation (named_with S T.assignments pair)))

-- a refused record is refused again after the others were judged
kept_again : (S : RbacState) (pair : Pair) (rest : List Pair) (refusal : Refusal) → assignment_verdict S pair ≡ Some refusal → Again (Some refusal) (assignment_verdict (after_import S rest) pair)
kept_again S pair rest refusal is =
    let later : Pairs = (after_import S rest).assignments in
    let grows : IsSubset S.assignments later = import_grows S rest in
    let out = stays_out pair S S refl in
    subst (Again (Some refusal)) (sym (verdict_alike S (after_import S rest) (alike_import S rest) pair ∙ as_judged S later pair))
    (refused_again (contains S.users pair.0) (contains S.roles pair.1) (contains S.assignments pair) (is_too_many S Assignment (len S.assignments + 1))
    (contains later pair) (is_too_many S Assignment (len later + 1))
    (named_with S S.assignments pair) (named_with S later pair) refusal
    (sym (as_judged S S.assignments pair) ∙ sym (verdict_holding S pair) ∙ is)
    (grows pair)
    (λ new full. (out (blocked_full S S.assignments pair full) new rest, still_full full (len-subset pair_total pair_exact S.assignments later grows)))
    (λ new named. out (blocked_static S S.assignments pair (λ none. none_and_some none named)) new rest)
    (λ named none. none_and_some (none_before S (insert S.assignments pair) (insert later pair) (one_more S.assignments later pair grows) none) named))
  where
    none_and_some : {o : Option Refusal} {refusal : Refusal} → o ≡ None → o ≡ Some refusal → ⊥
    none_and_some h k = cc (h, k)

    still_full : {m n : ℕ} → nat_lt 20000 (m + 1) ≡ true → m ≤ n → nat_lt 20000 (n + 1) ≡ true
    still_full {m} {n} full more = let over = ltb-true 20000 (m + 1) full in lt-ltb 20000 (n + 1) (omega (arith, over, more))

-- the verdict on a record, and on the same record after all were judged
record_again : (S : RbacState) (pair : Pair) (rest : List Pair) → Again (assignment_verdict S pair) (assignment_verdict (after_import (after_record S pair) rest) pair)
unfolding after_import
record_again S pair rest = by (assignment_verdict S pair) refl
  where
    by : (v : Option Refusal) → assignment_verdict S pair ≡ v → Again v (assignment_verdict (after_import (after_record S pair) rest) pair)
    by None put = put_again S (after_import (after_record S pair) rest) (alike_import S (pair ∷ rest)) pair put
        (import_grows (after_record S pair) rest pair (ap (λ s. contains s pair) (after_put S pair put) ∙ (contains-insert-Decides pair_total pair_exact S.assignments pair pair).1 (inl refl)))
    by (Some refusal) told = subst (λ X. Again (Some refusal) (assignment_verdict (after_import X rest) pair)) (sym (record_kept S pair refusal told)) (kept_again S pair rest refusal told)

-- ---- all records

-- the verdicts of the first import, and those of the second
abbrev AllAgain : List (Option Refusal) → List (Option Refusal) → Type 0
AllAgain [] [] = Unit {0}
AllAgain (v ∷ vs) (w ∷ ws) = Again v w × AllAgain vs ws
AllAgain _ _ = ⊥

-- in the state after all were judged, each record is refused
all_again : (S : RbacState) (pairs : List Pair) (T : RbacState) → after_import S pairs ≡ T → AllAgain (import_verdicts S pairs) (map (assignment_verdict T) pairs)
unfolding after_import import_verdicts
all_again S [] T is = tt
all_again S (pair ∷ pairs) T is = (
  subst (λ X. Again (assignment_verdict S pair) (assignment_verdict X pair)) is (record_again S pair pairs),
  all_again (after_record S pair) pairs T is,
)

-- the second verdict is a refusal
refused_again_by : (v w : Option Refusal) → Again v w → (refusal : Refusal) × (w ≡ Some refusal)
refused_again_by None w again = (AlreadyAssigned, again)
refused_again_by (Some refusal) w again = (again.0, again.1)

-- so nothing is assigned, and each record is judged in the same state
idle_verdicts : (T : RbacState) (pairs : List Pair) (vs : List (Option Refusal)) → AllAgain vs (map (assignment_verdict T) pairs) → import_verdicts T pairs ≡ map (assignment_verdict T) pairs
unfolding import_verdicts
idle_verdicts T [] vs again = refl
idle_verdicts T (pair ∷ pairs) [] again = absurd again
idle_verdicts T (pair ∷ pairs) (v ∷ vs) again =
    let refused = refused_again_by v (assignment_verdict T pair) again.0 in
    ap (λ X. assignment_verdict T pair ∷ import_verdicts X pairs) (record_kept T pair refused.0 refused.1)
    ∙ ap (λ ws. assignment_verdict T pair ∷ ws) (idle_verdicts T pairs vs again.1)

-- and the state doesn't change
idle_state : (T : RbacState) (pairs : List Pair) (vs : List (Option Refusal)) → AllAgain vs (map (assignment_verdict T) pairs) → after_import T pairs ≡ T
unfolding after_import
idle_state T [] vs again = refl
idle_state T (pair ∷ pairs) [] again = absurd again
idle_state T (pair ∷ pairs) (v ∷ vs) again =
    let refused = refused_again_by v (assignment_verdict T pair) again.0 in
    ap (λ X. after_import X pairs) (record_kept T pair refused.0 refused.1) ∙ idle_state T pairs vs again.1

-- ---- the report

-- the second import doesn't count the record as assigned
again_none : (v w : Option Refusal) → Again v w → one_if (is_none w) ≡ 0
again_none v w again = let refused = refused_again_by v w again in ap (λ x. one_if (is_none x)) refused.1

-- it counts it as assigned before exactly if the first import assigned it or counted it so
again_already : (v w : Option Refusal) → Again v w → one_if (is_already w) ≡ one_if (is_none v) + one_if (is_already v)
again_already None w again = ap (λ x. one_if (is_already x)) again
again_already (Some refusal) w (other, is, codes) = ap (λ x. one_if (is_already x)) is ∙ by codes
  where
    by : IsSameCode (code_of refusal) (code_of other) → one_if (nat_eq (code_of other) 10) ≡ 0 + one_if (nat_eq (code_of refusal) 10)
    by (inl same) = let e : one_if (nat_eq (code_of other) 10) ≡ one_if (nat_eq (code_of refusal) 10) = ap (λ n. one_if (nat_eq n 10)) (sym same) in omega (arith, e)
    by (inr changed) =
        let e : one_if (nat_eq (code_of other) 10) ≡ 0 = ap (λ n. one_if (nat_eq n 10)) changed.1 in
        let f : one_if (nat_eq (code_of refusal) 10) ≡ 0 = ap (λ n. one_if (nat_eq n 10)) changed.0 in
        omega (arith, e, f)

-- the second import counts no record as assigned
none_assigned : (vs ws : List (Option Refusal)) → AllAgain vs ws → count_by is_none ws ≡ 0
none_assigned [] [] again = refl
none_assigned [] (w ∷ ws) again = absurd again
none_assigned (v ∷ vs) [] again = absurd again
none_assigned (v ∷ vs) (w ∷ ws) again =
    omega (arith, counted is_none w ws, again_none v w again.0, none_assigned vs ws again.1)

-- it counts as assigned before the records that the first import assigned or counted so
assigned_before : (vs ws : List (Option Refusal)) → AllAgain vs ws → count_by is_already ws ≡ count_by is_none vs + count_by is_already vs
assigned_before [] [] again = refl
assigned_before [] (w ∷ ws) again = absurd again
assigned_before (v ∷ vs) [] again = absurd again
assigned_before (v ∷ vs) (w ∷ ws) again =
    omega (arith, counted is_already w ws, counted is_none v vs, counted is_already v vs, again_already v w again.0, assigned_before vs ws again.1)

-- the entry of one record in both reports, before those of the others
told_again : (n : ℕ) (v w : Option Refusal) (xs ys : List (ℕ × ℕ)) → Again v w → RefuseTheSame xs ys → RefuseTheSame (cons_option (refused_record (n, v)) xs) (cons_option (refused_record (n, w)) ys)
told_again n None w xs ys again rest = subst (λ x. RefuseTheSame xs (cons_option (refused_record (n, x)) ys)) (sym again) rest
told_again n (Some refusal) w xs ys (other, is, codes) rest =
    subst (λ x. RefuseTheSame (cons_option (refused_record (n, Some refusal)) xs) (cons_option (refused_record (n, x)) ys)) (sym is) (by (code_of refusal) (code_of other) codes)
  where
    told : ℕ → List (ℕ × ℕ) → List (ℕ × ℕ)
    told k zs = cons_option (cond (nat_eq k 10) None (Some (n, k))) zs

    same : (b : Bool) (k : ℕ) → RefuseTheSame (cons_option (cond b None (Some (n, k))) xs) (cons_option (cond b None (Some (n, k))) ys)
    same true k = rest
    same false k = (refl, inl refl, rest)

    by : (k l : ℕ) → IsSameCode k l → RefuseTheSame (told k xs) (told l ys)
    by k l (inl e) = subst (λ m. RefuseTheSame (told k xs) (told m ys)) e (same (nat_eq k 10) k)
    by k l (inr e) = subst (λ m. RefuseTheSame (told m xs) (told l ys)) (sym e.0) (subst (λ m. RefuseTheSame (told 24 xs) (told m ys)) (sym e.1) (refl, inr (refl, refl), rest))

-- both reports list the same records as refused
refused_the_same : (n : ℕ) (vs ws : List (Option Refusal)) → AllAgain vs ws → RefuseTheSame (filter_map refused_record (enumerate_from n vs)) (filter_map refused_record (enumerate_from n ws))
refused_the_same n [] [] again = tt
refused_the_same n [] (w ∷ ws) again = absurd again
refused_the_same n (v ∷ vs) [] again = absurd again
refused_the_same n (v ∷ vs) (w ∷ ws) again = told_again n v w _ _ again.0 (refused_the_same (n + 1) vs ws again.1)

-- ---- sessions end once

-- a session that is left may go on afterwards too
kept_session : (S : RbacState) (p : Pair) → IsTrue (contains (end_sessions S).sessions p) → IsTrue (may_go_on (end_sessions S) p)
unfolding end_sessions may_go_on authorized_users
kept_session S p h =
    let parts = goes_on_parts S p (ended_session S p h).1 in
    and_from _ _ (and_from _ _ parts.0 (ap not parts.1)) ((all-Decides name_total name_exact (is_authorized S p.1) (active_roles (end_sessions S) p.0)).1 (λ role active.
    parts.2 role (ended_active S (p.0, role) ((seconds-Decides (end_sessions S).active p.0 role).0 active)).0))

-- so no further session ends
ended_once : (S : RbacState) → end_sessions (end_sessions S) ≡ end_sessions S
ended_once S = none_ends_where (end_sessions S) (kept_session S) (ended_owned S)

-- the verdict on a record is the same after sessions have ended
verdict_ended : (S : RbacState) (p : Pair) → assignment_verdict (end_sessions S) p ≡ assignment_verdict S p
unfolding assignment_verdict assignment_refusals after_assignment end_sessions is_kept_statically authorized_users
verdict_ended S p = refl

-- ---- the law

-- a second import of the same records changes nothing
pub import_twice : ImportTwice
unfolding verdict refusals tally tally_of after changed
import_twice S pairs accepted_one =
    let M : RbacState = after_import S pairs.items in
    let T : RbacState = end_sessions M in
    let vs = import_verdicts S pairs.items in
    let again : AllAgain vs (map (assignment_verdict T) pairs.items) =
    subst (λ f. AllAgain vs (map f pairs.items)) (λ i p. sym (verdict_ended M p) i) (all_again S pairs.items M refl) in
    let idle : import_verdicts T pairs.items ≡ map (assignment_verdict T) pairs.items = idle_verdicts T pairs.items vs again in
    record {
      accepted = accepted_one;
      state = ap end_sessions (idle_state T pairs.items vs again) ∙ ended_once M;
      assigned = ap (count_by is_none) idle ∙ none_assigned vs _ again;
      already = ap (count_by is_already) idle ∙ assigned_before vs _ again;
      refused = subst (λ ws. RefuseTheSame (filter_map refused_record (enumerate_from 1 vs)) (filter_map refused_record (enumerate_from 1 ws))) (sym idle) (refused_the_same 1 vs _ again);
    }
