-- The changes of the commands on the role hierarchy turn the rows of a good state into those of the state after.
use Rattle.std.proofs.Common.{◌≡◌, ◌⊎◌, ◌↔◌, true, false, List, [], ◌∷◌, ◌++◌, Result, Ok, Err, sym, ◌∙◌, ap, subst, inl, inr}
use Rattle.std.specs.Prelude.{None, IfErr, OnErr}
use Rattle.std.proofs.lemmas.Bool.{false_from_ne_true}
use Rattle.rbac_sets.specs.Sets.{Bytes, Pairs, contains, insert, remove}
use Rattle.rbac_sets.specs.declared.command.Command.TheVariants.{AddInheritance, DeleteInheritance, AddAscendant, AddDescendant}
use Rattle.rbac_sets.specs.declared.refusal.Refusal.{Refusal}
use Rattle.rbac_sets.specs.declared.refusal.Refusal.TheVariants.{EdgeExists, NoEdge, Cycle, Memory}
use Rattle.rbac_sets.specs.declared.row.Row.TheVariants.{NameRow}
use Rattle.rbac_sets.specs.declared.row.TheConstants.Row.{ROLE}
use Rattle.rbac_sets.specs.declared.row.Change.{Change}
use Rattle.rbac_sets.specs.declared.row.Change.TheVariants.{Put}
use Rattle.role_order.specs.Order.{Geq, geq, IsGained}
use Rattle.role_order.specs.Planned.{Plan, IsOrderPlanOf, changed as changed_edges}
use Rattle.role_order.proofs.Deciding.{geq-Decides}
use Rattle.role_order.proofs.Planning.{changed-adds, changed-takes}
use Rattle.admin_mgr.specs.RbacState.{RbacState}
use Rattle.admin_mgr.specs.Assignment.{may_go_on, end_sessions}
use Rattle.admin_mgr.specs.After.{changed, after}
use Rattle.admin_mgr.specs.Verdict.{verdict, refusals}
use Rattle.admin_mgr.specs.private.SessionContinuation.{goes_on_without_pairs}
use Rattle.admin_mgr.specs.Changes.{Turns}
use Rattle.admin_mgr.specs.RowUpdates.{with_edges}
use Rattle.admin_mgr.specs.private.PlanChanges.{order_puts, order_takes, ended_rows}
use Rattle.admin_mgr.specs.Good.{IsGood}
use Rattle.admin_mgr.proofs.Verdicts.VerdictLaws.{passed, refuse_unless-None}
use Rattle.admin_mgr.proofs.StateAfter.NewRoleLaws.{add_ascendant_absent, add_ascendant_no_cycle, after_add_ascendant, add_descendant_absent, add_descendant_no_cycle, after_add_descendant}
use Rattle.admin_mgr.proofs.StateAfter.GoodInheritance.{after_add_inheritance}
use Rattle.admin_mgr.proofs.PlanRows.EndingLaws.{goes_on_delete_inheritance}
use Rattle.admin_mgr.proofs.PlanRows.RunLaws.{steps_put_one}
use Rattle.admin_mgr.proofs.PlanRows.SetRows.{role_rows}
use Rattle.admin_mgr.proofs.PlanRows.EndedRows.{steps_ended, ended_rows-same}
use Rattle.admin_mgr.proofs.PlanRows.StepLaws.Way.{taking, putting}
use Rattle.admin_mgr.proofs.PlanRows.StepLaws.{Steps, steps_nothing}
use Rattle.admin_mgr.proofs.PlanRows.OrderTurns.{turns_adding_edge, turns_taking_edge}

-- ---- the edge of a plan for this ascendant and descendant

-- the edges after a plan that adds the edge
pub edges_with : (edges : Pairs) (asc desc : Bytes) (plan : Plan) → IsOrderPlanOf edges true asc desc plan → changed_edges edges plan ≡ insert edges (asc, desc)
edges_with edges asc desc plan planned = changed-adds edges plan asc desc planned.same_kind planned.same_asc planned.same_desc

-- the edges after a plan that removes the edge
pub edges_without : (edges : Pairs) (asc desc : Bytes) (plan : Plan) → IsOrderPlanOf edges false asc desc plan → changed_edges edges plan ≡ remove edges (asc, desc)
edges_without edges asc desc plan planned = changed-takes edges plan asc desc planned.same_kind planned.same_asc planned.same_desc

-- rows are inserted, and then those of the edge and of the pairs that the order gains
pub turns_with_edge :
    {S T : RbacState} {changes : List Change} (asc desc : Bytes) (plan : Plan)
    → IsOrderPlanOf S.edges true asc desc plan → Steps putting S changes T
    → Turns S (changes ++ order_puts asc desc plan.puts) (with_edges T (insert S.edges (asc, desc)))
turns_with_edge {S} {T} {changes} asc desc plan planned steps =
    subst (λ (rows : List Change). Turns S rows (with_edges T (insert S.edges (asc, desc)))) (λ i. changes ++ order_puts (planned.same_asc i) (planned.same_desc i) plan.puts)
    (subst (λ (edges : Pairs). Turns S (changes ++ order_puts plan.asc plan.desc plan.puts) (with_edges T edges)) (edges_with S.edges asc desc plan planned)
    (turns_adding_edge plan steps planned.fits planned.same_kind))

-- the rows of the edge and of the pairs that the order loses are removed, and then other rows
pub turns_without_edge :
    {S T : RbacState} {changes : List Change} (asc desc : Bytes) (plan : Plan)
    → IsOrderPlanOf S.edges false asc desc plan → contains S.edges (asc, desc) ≡ true → Steps taking S changes T
    → Turns S (order_takes asc desc plan.takes ++ changes) (with_edges T (remove S.edges (asc, desc)))
turns_without_edge {S} {T} {changes} asc desc plan planned there steps =
    subst (λ (rows : List Change). Turns S rows (with_edges T (remove S.edges (asc, desc)))) (λ i. order_takes (planned.same_asc i) (planned.same_desc i) plan.takes ++ changes)
    (subst (λ (edges : Pairs). Turns S (order_takes plan.asc plan.desc plan.takes ++ changes) (with_edges T edges)) (edges_without S.edges asc desc plan planned)
    (turns_taking_edge plan steps planned.fits planned.same_kind (ap (contains S.edges) (λ i. (planned.same_asc i, planned.same_desc i)) ∙ there)))

-- ---- how a plan of the hierarchy may be refused

-- the refusal of a result, if it has one
abbrev refusal_of : {X : Type 0} → Result X Refusal → Refusal
refusal_of (Ok x) = Memory
refusal_of (Err refusal) = refusal

-- a plan to add an edge that is absent and closes no cycle is only refused with `Memory`
pub put_refused :
    {X Present Back : Type 0} (result : Result X Refusal) → (result ≡ Err EdgeExists) ↔ Present → (result ≡ Err Cycle) ↔ ((Present → ⊥) × Back)
    → OnErr result ((result ≡ Err EdgeExists) ⊎ ((result ≡ Err Cycle) ⊎ (result ≡ Err Memory)))
    → (Present → ⊥) → (Back → ⊥) → IfErr result (λ refusal. refusal ≡ Memory)
put_refused (Ok x) exists cycle only absent no_back = tt
put_refused (Err refusal) exists cycle only absent no_back = elim only [
  | inl is ↦ absurd (absent (exists.0 is))
  | inr rest ↦ elim rest [
    | inl is ↦ absurd (no_back (cycle.0 is).1)
    | inr is ↦ ap refusal_of is
  ]
]

-- a plan to remove an edge that is there is only refused with `Memory`
pub take_refused :
    {X Present : Type 0} (result : Result X Refusal) → (result ≡ Err NoEdge) ↔ (Present → ⊥)
    → OnErr result ((result ≡ Err NoEdge) ⊎ (result ≡ Err Memory)) → Present → IfErr result (λ refusal. refusal ≡ Memory)
take_refused (Ok x) absent only there = tt
take_refused (Err refusal) absent only there = elim only [
  | inl is ↦ absurd (absent.0 is there)
  | inr is ↦ ap refusal_of is
]

-- an edge that is deleted is there
pub edge_there : (S : RbacState) (asc desc : Bytes) → verdict S (DeleteInheritance asc desc) ≡ None → contains S.edges (asc, desc) ≡ true
unfolding verdict refusals
edge_there S asc desc accepted = refuse_unless-None (contains S.edges (asc, desc)) NoEdge (passed (refusals S (DeleteInheritance asc desc)) accepted).1.1.0

-- the test fails if the first role doesn't dominate the second
not_above : (edges : Pairs) (a b : Bytes) → (Geq edges a b → ⊥) → geq edges a b ≡ false
not_above edges a b apart = false_from_ne_true (geq edges a b) (λ h. apart ((geq-Decides edges a b).0 h))

-- the descendant doesn't dominate its new ascendant
pub ascendant_makes_no_cycle : (S : RbacState) → IsGood S → (asc desc : Bytes) → verdict S (AddAscendant asc desc) ≡ None → geq S.edges desc asc ≡ false
ascendant_makes_no_cycle S good asc desc accepted = not_above S.edges desc asc (add_ascendant_no_cycle S asc desc accepted good)

-- a new descendant doesn't dominate its ascendant
pub descendant_makes_no_cycle : (S : RbacState) → IsGood S → (asc desc : Bytes) → verdict S (AddDescendant asc desc) ≡ None → geq S.edges desc asc ≡ false
descendant_makes_no_cycle S good asc desc accepted = not_above S.edges desc asc (add_descendant_no_cycle S asc desc accepted good)

module _ (S : RbacState) (good : IsGood S) (asc desc : Bytes) (plan : Plan) where
  -- an immediate inheritance is deleted, with the pairs that the order loses and the sessions that depended on them
  module _ (accepted : verdict S (DeleteInheritance asc desc) ≡ None) (planned : IsOrderPlanOf S.edges false asc desc plan) where
    -- the state without the edge, before sessions end
    without : RbacState
    without = changed S (DeleteInheritance asc desc)

    -- the state after sessions have ended, with the edge
    ended : RbacState
    ended = record (after S (DeleteInheritance asc desc)) { edges = S.edges }

    -- removing the rows of the sessions that end leads there
    steps_sessions : Steps taking S (ended_rows S (goes_on_without_pairs S plan.takes)) ended
    unfolding after end_sessions changed without ended
    steps_sessions =
        let lost : IsGained (remove S.edges (asc, desc)) S.edges plan.takes = subst (λ (edges : Pairs). IsGained edges S.edges plan.takes) (edges_without S.edges asc desc plan planned) planned.fits.takes in
        subst (λ (rows : List Change). Steps taking S rows ended)
        (ended_rows-same S (may_go_on without) (goes_on_without_pairs S plan.takes) (λ session there. goes_on_delete_inheritance S good session there asc desc plan.takes lost))
        (steps_ended S good.well_formed.owned good.well_formed.one_owner (may_go_on without))

    -- the rows of the edge, of the pairs that the order loses, and of these sessions are removed
    pub turns_delete_inheritance : Turns S (order_takes asc desc plan.takes ++ ended_rows S (goes_on_without_pairs S plan.takes)) (after S (DeleteInheritance asc desc))
    unfolding after end_sessions changed ended
    turns_delete_inheritance = turns_without_edge asc desc plan planned (edge_there S asc desc accepted) steps_sessions

    -- the edges of that state are those after the plan
    pub edges_delete_inheritance : changed_edges S.edges plan ≡ (after S (DeleteInheritance asc desc)).edges
    unfolding after end_sessions changed
    edges_delete_inheritance = edges_without S.edges asc desc plan planned

  module _ (planned : IsOrderPlanOf S.edges true asc desc plan) where
    -- an immediate inheritance is added, with the pairs that the order gains
    pub turns_add_inheritance : verdict S (AddInheritance asc desc) ≡ None → Turns S (order_puts asc desc plan.puts) (after S (AddInheritance asc desc))
    unfolding changed
    turns_add_inheritance accepted = subst (λ (T : RbacState). Turns S (order_puts asc desc plan.puts) T) (sym (after_add_inheritance S good asc desc accepted))
        (turns_with_edge asc desc plan planned (steps_nothing S))

    -- the edges of that state are those after the plan
    pub edges_add_inheritance : changed_edges S.edges plan ≡ (after S (AddInheritance asc desc)).edges
    unfolding after end_sessions changed
    edges_add_inheritance = edges_with S.edges asc desc plan planned

    -- a new ascendant is added with its edge
    pub turns_add_ascendant : verdict S (AddAscendant asc desc) ≡ None → Turns S ((Put (NameRow ROLE asc) ∷ []) ++ order_puts asc desc plan.puts) (after S (AddAscendant asc desc))
    unfolding changed
    turns_add_ascendant accepted = subst (λ (T : RbacState). Turns S ((Put (NameRow ROLE asc) ∷ []) ++ order_puts asc desc plan.puts) T) (sym (after_add_ascendant S good asc desc accepted))
        (turns_with_edge asc desc plan planned (steps_put_one role_rows S asc (add_ascendant_absent S asc desc accepted)))

    -- the edges of that state are those after the plan
    pub edges_add_ascendant : changed_edges S.edges plan ≡ (after S (AddAscendant asc desc)).edges
    unfolding after end_sessions changed
    edges_add_ascendant = edges_with S.edges asc desc plan planned

    -- a new descendant is added with its edge
    pub turns_add_descendant : verdict S (AddDescendant asc desc) ≡ None → Turns S ((Put (NameRow ROLE desc) ∷ []) ++ order_puts asc desc plan.puts) (after S (AddDescendant asc desc))
    unfolding changed
    turns_add_descendant accepted = subst (λ (T : RbacState). Turns S ((Put (NameRow ROLE desc) ∷ []) ++ order_puts asc desc plan.puts) T) (sym (after_add_descendant S good asc desc accepted))
        (turns_with_edge asc desc plan planned (steps_put_one role_rows S desc (add_descendant_absent S asc desc accepted)))

    -- the edges of that state are those after the plan
    pub edges_add_descendant : changed_edges S.edges plan ≡ (after S (AddDescendant asc desc)).edges
    unfolding after end_sessions changed
    edges_add_descendant = edges_with S.edges asc desc plan planned
