-- A new ascendant or descendant of a role: the new role is in no relation yet, so the order of the old roles is as before, no
-- session ends, and the state is good.
use Rattle.std.proofs.Common.{◌≡◌, ◌+◌, ◌≤◌, [], ◌∷◌, false, refl, sym, ◌∙◌, ap, inl, inr}
use Rattle.std.specs.Prelude.{IsTrue, ◌⊎◌, None}
use Rattle.std.proofs.lemmas.Bool.{true≢false, false_from_ne_true}
use Rattle.std.specs.Cmp.{both_ways}
use Rattle.rbac_sets.specs.Sets.{Bytes, Pair, contains, insert, len}
use Rattle.rbac_sets.specs.Kind.{limit_of}
use Rattle.rbac_sets.specs.NameOrder.{name_total, name_exact, pair_total, pair_exact}
use Rattle.rbac_sets.specs.declared.command.Command.TheVariants.{AddAscendant, AddDescendant}
use Rattle.rbac_sets.specs.declared.kind.Kind.TheVariants.{Role, Edge}
use Rattle.rbac_sets.specs.declared.refusal.Refusal.TheVariants.{NoRole, RoleExists}
use Rattle.rbac_sets.proofs.SetLaws.{contains-insert-Decides}
use Rattle.role_order.specs.Order.{HasPair, Geq, geq}
use Rattle.role_order.proofs.Leading.{first_step, last_step}
use Rattle.role_order.proofs.Closing.{added_edge}
use Rattle.role_order.proofs.Deciding.{geq-Decides}
use Rattle.admin_mgr.specs.RbacState.{RbacState}
use Rattle.admin_mgr.specs.After.{changed, after}
use Rattle.admin_mgr.specs.Refusals.{first, too_many}
use Rattle.admin_mgr.specs.Verdict.{verdict, refusals, wants_role, wants_new_role}
use Rattle.admin_mgr.specs.Good.{IsGood}
use Rattle.admin_mgr.proofs.Verdicts.VerdictLaws.{passed, refuse_if-None, refuse_unless-None}
use Rattle.admin_mgr.proofs.StateAfter.LimitLaws.{too_many-None, one_more_within}
use Rattle.admin_mgr.proofs.StateAfter.GoodWithLaws.{after_is_changed, good_after, good_with_roles}

-- ---- edges lead from roles to roles

module _ (S : RbacState) (good : IsGood S) where
  -- what dominates a role is a role
  role_above : (r q : Bytes) → Geq S.edges r q → IsTrue (contains S.roles q) → IsTrue (contains S.roles r)
  role_above r q leads is_role = elim (first_step (HasPair S.edges) leads) [
    | inl same ↦ ap (contains S.roles) same ∙ is_role
    | inr one ↦ (good.well_formed.edges r one.0 one.1).0
  ]

  -- what a role dominates is a role
  role_below : (r q : Bytes) → Geq S.edges r q → IsTrue (contains S.roles r) → IsTrue (contains S.roles q)
  role_below r q leads is_role = elim (last_step (HasPair S.edges) leads) [
    | inl same ↦ ap (contains S.roles) (sym same) ∙ is_role
    | inr one ↦ (good.well_formed.edges one.0 q one.1).1
  ]

-- ---- a new role and an edge at it

-- the edge is from or to the new role, and its other end is a role that was there
abbrev IsEdgeAt : RbacState → Bytes → Bytes → Bytes → Type 0
IsEdgeAt S role asc desc = ((asc ≡ role) × IsTrue (contains S.roles desc)) ⊎ (IsTrue (contains S.roles asc) × (desc ≡ role))

module _ (S : RbacState) (good : IsGood S) (role asc desc : Bytes) (new : contains S.roles role ≡ false) (at : IsEdgeAt S role asc desc) where
  -- no path between two roles that were there uses the edge
  not_crossed : (r q : Bytes) → IsTrue (contains S.roles r) → IsTrue (contains S.roles q) → Geq S.edges r asc → Geq S.edges desc q → ⊥
  not_crossed r q is_first is_second up down = elim at [
    | inl above ↦ true≢false (sym (role_below S good r asc up is_first) ∙ ap (contains S.roles) above.0 ∙ new)
    | inr below ↦ true≢false (sym (role_above S good desc q down is_second) ∙ ap (contains S.roles) below.1 ∙ new)
  ]

  -- desc doesn't dominate asc
  pub no_cycle_at : Geq S.edges desc asc → ⊥
  no_cycle_at back = elim at [
    | inl above ↦ true≢false (sym (role_below S good desc asc back above.1) ∙ ap (contains S.roles) above.0 ∙ new)
    | inr below ↦ true≢false (sym (role_above S good desc asc back below.0) ∙ ap (contains S.roles) below.1 ∙ new)
  ]

  -- the edge wasn't there
  no_edge_at : contains S.edges (asc, desc) ≡ false
  no_edge_at = false_from_ne_true (contains S.edges (asc, desc)) (λ there. (let ends = good.well_formed.edges asc desc there in elim at [
    | inl above ↦ true≢false (sym ends.0 ∙ ap (contains S.roles) above.0 ∙ new)
    | inr below ↦ true≢false (sym ends.1 ∙ ap (contains S.roles) below.1 ∙ new)
  ]))

  -- the order of the old roles is as before
  as_before_at : (r q : Bytes) → IsTrue (contains S.roles r) → IsTrue (contains S.roles q) → geq (insert S.edges (asc, desc)) r q ≡ geq S.edges r q
  as_before_at r q is_first is_second =
      let ways = (added_edge S.edges asc desc good.acyclic no_cycle_at).0 r q in
      let old = geq-Decides S.edges r q in
      let more = geq-Decides (insert S.edges (asc, desc)) r q in
      both_ways _ _
      (λ h. elim (ways.0 (more.0 h)) [ inl leads ↦ old.1 leads | inr over ↦ absurd (not_crossed r q is_first is_second over.0 over.1) ])
      (λ h. more.1 (ways.1 (inl (old.0 h))))

  -- the state with the role and the edge is good
  good_with_role_at : len S.roles + 1 ≤ limit_of Role S.version → len S.edges + 1 ≤ limit_of Edge S.version →
      IsGood (record S { roles = insert S.roles role; edges = insert S.edges (asc, desc) })
  good_with_role_at role_room edge_room =
      let put = contains-insert-Decides name_total name_exact S.roles role in
      let more : ((x : Bytes) → IsTrue (contains S.roles x) → IsTrue (contains (insert S.roles role) x)) = λ x h. (put x).1 (inr h) in
      let ends : IsTrue (contains (insert S.roles role) asc) × IsTrue (contains (insert S.roles role) desc) = elim at [
        | inl above ↦ ((put asc).1 (inl above.0), more desc above.1)
        | inr below ↦ (more asc below.0, (put desc).1 (inl below.1))
      ] in
      good_with_roles S good (insert S.roles role) (insert S.edges (asc, desc)) (record {
        more = more;
        edges_formed = λ a d h. elim ((contains-insert-Decides pair_total pair_exact S.edges (asc, desc) (a, d)).0 h) [
          | inl same ↦ (ap (λ (p : Pair). contains (insert S.roles role) p.0) same ∙ ends.0, ap (λ (p : Pair). contains (insert S.roles role) p.1) same ∙ ends.1)
          | inr old ↦ (let was = good.well_formed.edges a d old in (more a was.0, more d was.1))
        ];
        acyclic = (added_edge S.edges asc desc good.acyclic no_cycle_at).1;
        as_before = as_before_at;
        roles_room = one_more_within name_total S.roles role _ role_room;
        edges_room = one_more_within pair_total S.edges (asc, desc) _ edge_room;
      })

-- ---- a new ascendant or descendant

-- the role at the other end is there, the new role wasn't there, and there is room for it and for one more edge
abbrev CanJoin : RbacState → Bytes → Bytes → Type 0
CanJoin S new other = IsTrue (contains S.roles other) × (contains S.roles new ≡ false) × (len S.roles + 1 ≤ limit_of Role S.version) × (len S.edges + 1 ≤ limit_of Edge S.version)

-- the role can be added if no refusal applies
can_join : (S : RbacState) (new other : Bytes) → first (wants_role S other ∷ wants_new_role S new ∷ too_many S Role (len S.roles + 1) ∷ too_many S Edge (len S.edges + 1) ∷ []) ≡ None → CanJoin S new other
can_join S new other accepted =
    let passes = passed (wants_role S other ∷ wants_new_role S new ∷ too_many S Role (len S.roles + 1) ∷ too_many S Edge (len S.edges + 1) ∷ []) accepted in
    (refuse_unless-None _ NoRole passes.0, refuse_if-None _ RoleExists passes.1.0, too_many-None S Role _ passes.1.1.0, too_many-None S Edge _ passes.1.1.1.0)

module _ (S : RbacState) (asc desc : Bytes) (accepted : verdict S (AddAscendant asc desc) ≡ None) where
  -- the conditions that the command meets
  can_ascend : CanJoin S asc desc
  unfolding verdict refusals
  can_ascend = can_join S asc desc accepted

  -- the new role wasn't there
  pub add_ascendant_absent : contains S.roles asc ≡ false
  add_ascendant_absent = can_ascend.1

  -- the changed state is good
  good_changed_ascendant : IsGood S → IsGood (changed S (AddAscendant asc desc))
  unfolding changed
  good_changed_ascendant good = good_with_role_at S good asc asc desc can_ascend.1 (inl (refl, can_ascend.0)) can_ascend.2 can_ascend.3

  -- the new edge wasn't there
  pub add_ascendant_no_edge : IsGood S → contains S.edges (asc, desc) ≡ false
  add_ascendant_no_edge good = no_edge_at S good asc asc desc can_ascend.1 (inl (refl, can_ascend.0))

  -- the descendant doesn't dominate the new role
  pub add_ascendant_no_cycle : IsGood S → Geq S.edges desc asc → ⊥
  add_ascendant_no_cycle good = no_cycle_at S good asc asc desc can_ascend.1 (inl (refl, can_ascend.0))

module _ (S : RbacState) (asc desc : Bytes) (accepted : verdict S (AddDescendant asc desc) ≡ None) where
  -- the conditions that the command meets
  can_descend : CanJoin S desc asc
  unfolding verdict refusals
  can_descend = can_join S desc asc accepted

  -- the new role wasn't there
  pub add_descendant_absent : contains S.roles desc ≡ false
  add_descendant_absent = can_descend.1

  -- the changed state is good
  good_changed_descendant : IsGood S → IsGood (changed S (AddDescendant asc desc))
  unfolding changed
  good_changed_descendant good = good_with_role_at S good desc asc desc can_descend.1 (inr (can_descend.0, refl)) can_descend.2 can_descend.3

  -- the new edge wasn't there
  pub add_descendant_no_edge : IsGood S → contains S.edges (asc, desc) ≡ false
  add_descendant_no_edge good = no_edge_at S good desc asc desc can_descend.1 (inr (can_descend.0, refl))

  -- the new role doesn't dominate the ascendant
  pub add_descendant_no_cycle : IsGood S → Geq S.edges desc asc → ⊥
  add_descendant_no_cycle good = no_cycle_at S good desc asc desc can_descend.1 (inr (can_descend.0, refl))

module _ (S : RbacState) (good : IsGood S) (asc desc : Bytes) where
  -- no session ends
  pub after_add_ascendant : verdict S (AddAscendant asc desc) ≡ None → after S (AddAscendant asc desc) ≡ changed S (AddAscendant asc desc)
  after_add_ascendant accepted = after_is_changed S (AddAscendant asc desc) (good_changed_ascendant S asc desc accepted good)

  -- and the state is good
  pub good_after_add_ascendant : verdict S (AddAscendant asc desc) ≡ None → IsGood (after S (AddAscendant asc desc))
  good_after_add_ascendant accepted = good_after S (AddAscendant asc desc) (good_changed_ascendant S asc desc accepted good)

  -- no session ends by a new descendant
  pub after_add_descendant : verdict S (AddDescendant asc desc) ≡ None → after S (AddDescendant asc desc) ≡ changed S (AddDescendant asc desc)
  after_add_descendant accepted = after_is_changed S (AddDescendant asc desc) (good_changed_descendant S asc desc accepted good)

  -- and the state is good
  pub good_after_add_descendant : verdict S (AddDescendant asc desc) ≡ None → IsGood (after S (AddDescendant asc desc))
  good_after_add_descendant accepted = good_after S (AddDescendant asc desc) (good_changed_descendant S asc desc accepted good)
