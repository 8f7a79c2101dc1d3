use Rattle.std.proofs.Common.{cond, sym, ◌∙◌, ap}
use Rattle.std.specs.Prelude.{Some, None}
use Rattle.rbac_sets.specs.Sets.{name_cmp}
use Rattle.rbac_sets.specs.SortedSet.{set_of}
use Rattle.rbac_sets.specs.declared.refusal.Refusal.TheVariants.{SetExists}
use Rattle.admin_mgr.specs.RbacState.{has_set}
use Rattle.admin_mgr.specs.Refusals.{first}
use Rattle.admin_mgr.specs.After.{after}
use Rattle.admin_mgr.specs.Verdict.{verdict, create_set_refusals}
use Rattle.admin_mgr.proofs.Verdicts.VerdictLaws.{passed, refuse_if-None, stopped, last_decides, none_unless_some}
use Rattle.admin_mgr.proofs.Verdicts.SetCommandViolations.{create_set_violates}
use Rattle.admin_mgr.specs.private.SeparationOfDuty.{sets_of, kind_of, refusal_of, violates, create_set}
use Rattle.admin_mgr.proofs.StateAfter.SetCommandLaws.{refusals_create_set}
use Rattle.admin_mgr.proofs.judge.separation.judge_create_set.Goals as goal

pub returns-in-Some : goal.returns-in-Some
unfolding verdict
returns-in-Some c =
    let front = c.refuse_set.ensures (sets_of c.args.duty c.args.state.now.facts).members ∙ (λ i. first (create_set_refusals c.args.state.now.facts (record { members = (sets_of c.args.duty c.args.state.now.facts).members; cardinalities = c.cardinalities.ensures i }) (c.kind.ensures i) c.args.set.now (set_of name_cmp c.args.roles.now) c.args.cardinality)) in
    stopped (create_set_refusals c.args.state.now.facts (sets_of c.args.duty c.args.state.now.facts) (kind_of c.args.duty) c.args.set.now (set_of name_cmp c.args.roles.now) c.args.cardinality) (violates c.args.duty (after c.args.state.now.facts (create_set c.args.duty c.args.set.now c.args.roles.now c.args.cardinality))) c.in-Some.refusal (sym front ∙ c.in-Some.is)
    ∙ ap first (sym (refusals_create_set c.args.duty c.args.state.now.facts c.args.set.now c.args.roles.now c.args.cardinality))

pub returns : goal.returns
unfolding verdict
returns c =
    let front = c.refuse_set.ensures (sets_of c.args.duty c.args.state.now.facts).members ∙ (λ i. first (create_set_refusals c.args.state.now.facts (record { members = (sets_of c.args.duty c.args.state.now.facts).members; cardinalities = c.cardinalities.ensures i }) (c.kind.ensures i) c.args.set.now (set_of name_cmp c.args.roles.now) c.args.cardinality)) in
    let none = sym front ∙ none_unless_some _ c.in_default.not-Some in
    let absent = refuse_if-None (has_set (sets_of c.args.duty c.args.state.now.facts) c.args.set.now) SetExists (passed (create_set_refusals c.args.state.now.facts (sets_of c.args.duty c.args.state.now.facts) (kind_of c.args.duty) c.args.set.now (set_of name_cmp c.args.roles.now) c.args.cardinality) none).1.0 in
    c.in_ok-violated.ensures
    ∙ ap (λ b. cond b None (Some (refusal_of c.args.duty c.args.set.now))) c.in-Ok.ensures.ok
    ∙ sym (create_set_violates c.args.duty c.args.state.now.facts c.recall_good.ensures c.args.set.now c.args.roles.now c.args.cardinality absent)
    ∙ sym (last_decides (create_set_refusals c.args.state.now.facts (sets_of c.args.duty c.args.state.now.facts) (kind_of c.args.duty) c.args.set.now (set_of name_cmp c.args.roles.now) c.args.cardinality) (violates c.args.duty (after c.args.state.now.facts (create_set c.args.duty c.args.set.now c.args.roles.now c.args.cardinality))) none)
    ∙ ap first (sym (refusals_create_set c.args.duty c.args.state.now.facts c.args.set.now c.args.roles.now c.args.cardinality))
