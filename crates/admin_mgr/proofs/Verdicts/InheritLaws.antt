-- One more immediate inheritance: who is authorized for more, and which set is named.
use Rattle.std.proofs.Common.{◌≡◌, ℕ, ◌<◌, Bool, true, false, not, ◌||◌, ◌&&◌, List, [], ◌∷◌, refl, sym, ◌∙◌, ap, inl, inr}
use Rattle.std.specs.Prelude.{IsTrue, nat_lt, count_by, filter}
use Rattle.std.specs.Option.{option_map}
use Rattle.std.specs.List.{list_any, list_all}
use Rattle.std.proofs.lemmas.Bool.{and_parts, and_from, or_cases, or_left, or_right, ltb-true, lt-ltb, true≢false}
use Rattle.std.specs.Cmp.{both_ways}
use Rattle.std.proofs.Math.Bool.{or-false}
use Rattle.rbac_sets.specs.Sets.{Bytes, Pair, Pairs, Cardinality, contains, members, insert}
use Rattle.rbac_sets.specs.NameOrder.{name_total, name_exact}
use Rattle.rbac_sets.specs.declared.command.Command.TheVariants.{AddInheritance}
use Rattle.rbac_sets.proofs.SetLaws.{all-Decides, seconds-Decides}
use Rattle.role_order.specs.Order.{Geq, geq}
use Rattle.role_order.proofs.Closing.{added_edge}
use Rattle.role_order.proofs.Deciding.{geq-Decides}
use Rattle.admin_mgr.specs.declared.separation_of_duty.SeparationOfDuty.{SeparationOfDuty}
use Rattle.admin_mgr.specs.declared.separation_of_duty.SeparationOfDuty.TheVariants.{Static, Dynamic}
use Rattle.admin_mgr.specs.RbacState.{RbacState, members_of, active_roles}
use Rattle.admin_mgr.specs.Authorization.{is_authorized}
use Rattle.admin_mgr.specs.Separation.{least_violated}
use Rattle.admin_mgr.specs.private.SeparationOfDuty.{sets_of, is_kept, refusal_of, violates}
use Rattle.admin_mgr.specs.Assignment.{may_go_on}
use Rattle.admin_mgr.specs.After.{changed, after}
use Rattle.admin_mgr.specs.Good.{IsGood}
use Rattle.admin_mgr.specs.private.HolderRoles.{run_of, is_reached, reached_members, reached_with, is_touched, is_violated, naming_first}
use Rattle.admin_mgr.specs.private.Holders.{runs_of}
use Rattle.admin_mgr.proofs.Verdicts.AuthorizationLaws.{authorized_reached}
use Rattle.admin_mgr.proofs.Verdicts.KeepLaws.{same_where, kept_members, kept_before}
use Rattle.admin_mgr.proofs.StateAfter.SessionLaws.{none_ends_where}
use Rattle.admin_mgr.proofs.Verdicts.TouchLaws.{untouched, violated_by, asked_passed}

-- the pairs don't reach the role asc, or reach fewer than n of the members with the role desc added
abbrev keeps_below : Pairs → List Pair → Bytes → Bytes → List Pair → ℕ → Bool
keeps_below edges held asc desc members n = not (is_reached edges held asc) || nat_lt (reached_with edges held desc members) n

unfoldable pub with_edge : RbacState → Bytes → Bytes → RbacState
with_edge S asc desc = record S { edges = insert S.edges (asc, desc) }

any_crossed : (p q : Pair → Bool) (b : Bool) (xs : List Pair) → list_any (λ x. p x || (q x && b)) xs ≡ (list_any p xs || (list_any q xs && b))
any_crossed p q b [] = refl
any_crossed p q b (x ∷ xs) = ap (λ rest. (p x || (q x && b)) || rest) (any_crossed p q b xs) ∙ shuffle (p x) (q x) b (list_any p xs) (list_any q xs)
  where
    shuffle : (a c b d e : Bool) → ((a || (c && b)) || (d || (e && b))) ≡ ((a || d) || ((c || e) && b))
    shuffle true c b d e = refl
    shuffle false true true true e = refl
    shuffle false true true false e = refl
    shuffle false true false true e = refl
    shuffle false true false false true = refl
    shuffle false c b d e = refl

module _ (S : RbacState) (good : IsGood S) (asc desc : Bytes) (no_back : geq S.edges desc asc ≡ false) where
  crossed : (r q : Bytes) → geq (insert S.edges (asc, desc)) r q ≡ (geq S.edges r q || (geq S.edges r asc && geq S.edges desc q))
  crossed r q =
      let no_cycle : Geq S.edges desc asc → ⊥ = λ back. true≢false (sym ((geq-Decides S.edges desc asc).1 back) ∙ no_back) in
      let crosses = (added_edge S.edges asc desc good.acyclic no_cycle).0 r q in
      both_ways (geq (insert S.edges (asc, desc)) r q) (geq S.edges r q || (geq S.edges r asc && geq S.edges desc q))
      (λ h. elim (crosses.0 ((geq-Decides (insert S.edges (asc, desc)) r q).0 h)) [
        | inl old ↦ or_left (geq S.edges r q) _ ((geq-Decides S.edges r q).1 old)
        | inr new ↦ or_right (geq S.edges r q) _ (and_from _ _ ((geq-Decides S.edges r asc).1 new.0) ((geq-Decides S.edges desc q).1 new.1))
      ])
      (λ h. (geq-Decides (insert S.edges (asc, desc)) r q).1 (crosses.1 (elim (or_cases (geq S.edges r q) (geq S.edges r asc && geq S.edges desc q) h) [
        | inl old ↦ inl ((geq-Decides S.edges r q).0 old)
        | inr new ↦ (let parts = and_parts _ _ new in inr ((geq-Decides S.edges r asc).0 parts.0, (geq-Decides S.edges desc q).0 parts.1))
      ])))

  -- the pairs reach what they did, and if they reach asc also what desc dominates
  reached_more : (held : List Pair) (q : Bytes) → is_reached (insert S.edges (asc, desc)) held q ≡ (is_reached S.edges held q || (is_reached S.edges held asc && geq S.edges desc q))
  reached_more held q =
      (λ i. list_any (λ (p : Pair). crossed p.1 q i) held)
      ∙ any_crossed (λ (p : Pair). geq S.edges p.1 q) (λ (p : Pair). geq S.edges p.1 asc) (geq S.edges desc q) held

  -- only for pairs that reach asc the members have to be counted again
  counted_below : (held members : List Pair) (n : ℕ) → reached_members S.edges held members < n →
      nat_lt (reached_members (insert S.edges (asc, desc)) held members) n ≡ keeps_below S.edges held asc desc members n
  counted_below held members n fewer =
      ap (λ k. nat_lt k n) (λ i. count_by (λ (m : Pair). reached_more held m.1 i) members) ∙ by (is_reached S.edges held asc)
    where
      by : (b : Bool) → nat_lt (count_by (λ (m : Pair). is_reached S.edges held m.1 || (b && geq S.edges desc m.1)) members) n ≡ (not b || nat_lt (reached_with S.edges held desc members) n)
      by true = refl
      by false = ap (λ k. nat_lt k n) (λ i. count_by (λ (m : Pair). or-false (is_reached S.edges held m.1) i) members) ∙ lt-ltb _ _ fewer

  -- and only for a set with a member that desc dominates
  untouched_keeps : (held members : List Pair) (n : ℕ) → reached_members S.edges held members < n → is_touched S.edges desc members ≡ false → keeps_below S.edges held asc desc members n ≡ true
  untouched_keeps held members n fewer none = or_right (not (is_reached S.edges held asc)) _
      (ap (λ k. nat_lt k n) (untouched (λ (m : Pair). is_reached S.edges held m.1) (λ (m : Pair). geq S.edges desc m.1) members none) ∙ lt-ltb _ _ fewer)

  touched_only : (touched kept : Bool) → (touched ≡ false → kept ≡ true) → not kept ≡ (touched && not kept)
  touched_only true kept h = refl
  touched_only false kept h = ap not (h refl)

  -- ---- nobody is authorized for less, and sessions go on

  pub still_authorized : (user role : Bytes) → IsTrue (is_authorized S user role) → IsTrue (is_authorized (with_edge S asc desc) user role)
  unfolding with_edge
  still_authorized user role h =
      authorized_reached (with_edge S asc desc) user role ∙ reached_more (run_of S.assignments user) role
      ∙ or_left (is_reached S.edges (run_of S.assignments user) role) _ (sym (authorized_reached S user role) ∙ h)

  pub goes_on_below : (p : Pair) → IsTrue (contains S.sessions p) → IsTrue (may_go_on (with_edge S asc desc) p)
  unfolding may_go_on with_edge
  goes_on_below p there = and_from _ _ (and_from _ _ (good.well_formed.sessions p.0 p.1 there) (ap not (good.unlocked p.0 p.1 there)))
      ((all-Decides name_total name_exact (is_authorized (with_edge S asc desc) p.1) (active_roles S p.0)).1 (λ role active.
      still_authorized p.1 role (good.authorized p.0 p.1 role there ((seconds-Decides S.active p.0 role).0 active))))

  -- ---- the set that is violated

  -- a set of the state is not violated exactly if whoever has asc has fewer of its members than its cardinality, with desc
  kept_below : (duty : SeparationOfDuty) (x : Cardinality) → IsTrue (contains (sets_of duty S).cardinalities x) →
      is_kept duty (with_edge S asc desc) (members_of (sets_of duty S) x.0) x.1 ≡ list_all (λ held. keeps_below S.edges held asc desc (run_of (sets_of duty S).members x.0) x.1) (runs_of duty S)
  unfolding with_edge
  kept_below duty x there =
      kept_members duty (with_edge S asc desc) (sets_of duty S) x.0 x.1 ∙ ap (list_all _) (same_runs duty)
      ∙ same_where _ _ _ (runs_of duty S) (kept_before duty S good x there) (λ held fewer. counted_below held (run_of (sets_of duty S).members x.0) x.1 (ltb-true _ _ fewer))
    where
      same_runs : (duty : SeparationOfDuty) → runs_of duty (with_edge S asc desc) ≡ runs_of duty S
      same_runs Static = refl
      same_runs Dynamic = refl

  untouched_kept : (duty : SeparationOfDuty) (x : Cardinality) → IsTrue (contains (sets_of duty S).cardinalities x) → is_touched S.edges desc (run_of (sets_of duty S).members x.0) ≡ false →
      list_all (λ held. keeps_below S.edges held asc desc (run_of (sets_of duty S).members x.0) x.1) (runs_of duty S) ≡ true
  untouched_kept duty x there none =
      let kept = kept_before duty S good x there in
      same_where _ _ _ (runs_of duty S) kept (λ held fewer. untouched_keeps held (run_of (sets_of duty S).members x.0) x.1 (ltb-true _ _ fewer) none ∙ sym fewer) ∙ kept

  pub inheritance_violates : (duty : SeparationOfDuty) → violates duty (after S (AddInheritance asc desc)) ≡ naming_first (refusal_of duty)
      (is_violated S.edges (filter (λ held. is_reached S.edges held asc) (runs_of duty S)) desc) (sets_of duty S)
  unfolding after changed with_edge
  inheritance_violates duty =
      ap (violates duty) (none_ends_where (with_edge S asc desc) goes_on_below good.well_formed.owned)
      ∙ named duty
      ∙ ap (option_map (refusal_of duty)) (violated_by (is_kept duty (with_edge S asc desc)) (sets_of duty S) _ (λ x there.
      ap not (kept_below duty x there) ∙ touched_only (is_touched S.edges desc (run_of (sets_of duty S).members x.0)) _ (untouched_kept duty x there)
      ∙ ap (λ kept. is_touched S.edges desc (run_of (sets_of duty S).members x.0) && not kept)
      (asked_passed (λ held. is_reached S.edges held asc) (λ held. nat_lt (reached_with S.edges held desc (run_of (sets_of duty S).members x.0)) x.1) (runs_of duty S))))
    where
      named : (duty : SeparationOfDuty) → violates duty (with_edge S asc desc) ≡ option_map (refusal_of duty) (least_violated (is_kept duty (with_edge S asc desc)) (sets_of duty S))
      named Static = refl
      named Dynamic = refl
