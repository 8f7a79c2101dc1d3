use Rattle.std.proofs.Common.{◌≡◌, ℕ, List, ◌⊎◌, IsTrue, sym, ap, subst, ◌∙◌, arith}
use Rattle.std.specs.Prelude.{None}
use Rattle.rbac_sets.specs.declared.row.Row.{Row}
use Rattle.role_order.specs.Order.{IsAcyclic, IsClosure}
use Rattle.std.proofs.lemmas.Result.{err_from_is_err_and}
use Rattle.admin_mgr.specs.RbacState.{RbacState}
use Rattle.admin_mgr.specs.StoredSets.{StoredSets, gathered}
use Rattle.admin_mgr.specs.RowChecks.{AreReadable, IsStateOf}
use Rattle.admin_mgr.specs.private.CheckTests.{are_roles_there, early_refusal, late_refusal}
use Rattle.admin_mgr.proofs.StoredRows.TestLaws.{RefusesOrder}
use Rattle.admin_mgr.proofs.StateAfter.NamedLaws.{named_rows}
use Rattle.admin_mgr.proofs.StoredRows.RowSteps.{version-gathered}
use Rattle.admin_mgr.proofs.StoredRows.CheckLaws.{PassBefore, early_is_first_failure, early_passed, order_is_first_failure, late_is_first_failure, late_passed, before_next, is_state_of, refuses_rows}
use Rattle.admin_mgr.proofs.state.State.of_rows.Goals as goal
use Rattle.admin_mgr.proofs.Verdicts.NumberLaws.{complete_roles_are_there}
use Rattle.admin_mgr.proofs.Verdicts.VerdictLaws.{none_unless_some}

pub early_refusal-requires : goal.early_refusal-requires
early_refusal-requires c =
    subst (λ v. (v ≡ 1) ⊎ (v ≡ 2)) (sym (ap (λ (g : StoredSets). g.facts.version) c.in_ok-made.ensures.ok.0 ∙ version-gathered c.args.version c.args.rows.items)) c.requires

pub returns-in-Some-clause-err : goal.returns-in-Some-clause-err
returns-in-Some-clause-err c =
    let told = sym (c.early_refusal.ensures ∙ ap early_refusal c.in_ok-made.ensures.ok.0) ∙ c.in-Some.is in
    refuses_rows c.args.version c.args.rows.items c.in-Some.refusal c.in_ok-made.ensures.ok.1 (early_is_first_failure (gathered c.args.version c.args.rows.items) c.in-Some.refusal told)

-- the checks before those of the hierarchy pass
made_is : (version : ℕ) (rows : List Row) (made : StoredSets) → made ≡ gathered version rows → early_refusal made ≡ None → PassBefore (gathered version rows) 5
made_is version rows made is none = early_passed (gathered version rows) (sym (ap early_refusal is) ∙ none)

-- so do those of the hierarchy
to_seven : (version : ℕ) (rows : List Row) (made : StoredSets) → made ≡ gathered version rows → early_refusal made ≡ None
    → IsAcyclic made.facts.edges × IsClosure made.facts.edges made.pairs → PassBefore (gathered version rows) 7
to_seven version rows made is none order =
    let passed = subst (λ (g : StoredSets). IsAcyclic g.facts.edges × IsClosure g.facts.edges g.pairs) is order in
    before_next (gathered version rows) 6 (before_next (gathered version rows) 5 (made_is version rows made is none) passed.0) passed.1

pub returns-in_err-relations-clause-err : goal.returns-in_err-relations-clause-err
returns-in_err-relations-clause-err c =
    let p = err_from_is_err_and c.from_residual-in_err-relations.result c.from_residual-in_err-relations.ensures.1 in
    let made = c.in_ok-made.ensures.ok in
    rw (p.1, p.2) (refuses_rows c.args.version c.args.rows.items c.in_err-relations.field-0.0 made.1
    (order_is_first_failure (gathered c.args.version c.args.rows.items) c.in_err-relations.field-0.0
    (made_is c.args.version c.args.rows.items c.in_ok-made.made made.0 (sym c.early_refusal.ensures ∙ none_unless_some _ c.in_default.not-Some))
    (subst (λ (g : StoredSets). RefusesOrder g c.in_err-relations.field-0.0) made.0 c.in_err-relations.ensures.err)))

-- the roles that the relations refer to are there
roles_there : (version : ℕ) (rows : List Row) (made : StoredSets) (S : RbacState) → made ≡ gathered version rows → early_refusal made ≡ None → S ≡ made.facts → IsTrue (are_roles_there S)
roles_there version rows made S is none facts =
    subst (λ T. IsTrue (are_roles_there T)) (sym (facts ∙ ap (λ (g : StoredSets). g.facts) is)) (complete_roles_are_there (gathered version rows) (made_is version rows made is none 3 (omega arith)))

pub late_refusal-requires : goal.late_refusal-requires
late_refusal-requires c =
    roles_there c.args.version c.args.rows.items c.in_ok-made.made c.in_ok-relations.relations.facts c.in_ok-made.ensures.ok.0 (sym c.early_refusal.ensures ∙ none_unless_some _ c.in_default.not-Some) c.in_ok-relations.ensures.facts

pub returns-in-Ok-Some-clause-err : goal.returns-in-Ok-Some-clause-err
returns-in-Ok-Some-clause-err c =
    let made = c.in_ok-made.ensures.ok in
    let facts : c.in_ok-relations.relations.facts ≡ (gathered c.args.version c.args.rows.items).facts = c.in_ok-relations.ensures.facts ∙ ap (λ (g : StoredSets). g.facts) made.0 in
    let told = sym (c.in-Ok-Some.ensures.ok ∙ ap late_refusal facts) ∙ c.in-Ok-Some.field-0-is in
    refuses_rows c.args.version c.args.rows.items c.in-Ok-Some.refusal made.1
    (late_is_first_failure c.args.version c.args.rows.items made.1 c.in-Ok-Some.refusal
    (to_seven c.args.version c.args.rows.items c.in_ok-made.made made.0 (sym c.early_refusal.ensures ∙ none_unless_some _ c.in_default.not-Some) c.in_ok-relations.ensures.order) told)

-- if nothing is refused, the relations are the state of the rows
is_state : (version : ℕ) (rows : List Row) (made : StoredSets) (S : RbacState) → (version ≡ 1) ⊎ (version ≡ 2) → made ≡ gathered version rows → AreReadable version rows → early_refusal made ≡ None
    → IsAcyclic made.facts.edges × IsClosure made.facts.edges made.pairs → S ≡ made.facts → late_refusal S ≡ None → IsStateOf version rows S
is_state version rows made S known is readable early order facts late =
    let same : S ≡ (gathered version rows).facts = facts ∙ ap (λ (g : StoredSets). g.facts) is in
    subst (IsStateOf version rows) (sym same) (is_state_of version rows readable known
    (late_passed version rows readable (to_seven version rows made is early order) (sym (ap late_refusal same) ∙ late)))

pub returns-in-Ok-None-clause-ok : goal.returns-in-Ok-None-clause-ok
returns-in-Ok-None-clause-ok c =
    is_state c.args.version c.args.rows.items c.in_ok-made.made c.in_ok-relations.relations.facts c.requires c.in_ok-made.ensures.ok.0 c.in_ok-made.ensures.ok.1 (sym c.early_refusal.ensures ∙ none_unless_some _ c.in_default.not-Some)
    c.in_ok-relations.ensures.order c.in_ok-relations.ensures.facts (sym c.in-Ok-None.ensures.ok ∙ c.in-Ok-None.field-0-is)

pub invariant_of-result : goal.invariant_of-result
invariant_of-result c =
    let is = is_state c.args.version c.args.rows.items c.in_ok-made.made c.in_ok-relations.relations.facts c.requires c.in_ok-made.ensures.ok.0 c.in_ok-made.ensures.ok.1 (sym c.early_refusal.ensures ∙ none_unless_some _ c.in_default.not-Some)
    c.in_ok-relations.ensures.order c.in_ok-relations.ensures.facts (sym c.in-Ok-None.ensures.ok ∙ c.in-Ok-None.field-0-is) in
    (is.good, named_rows _ c.args.rows.items is.stored c.in_ok-made.ensures.named)
