use Rattle.std.proofs.Common.{cond, sym, ◌∙◌, ap}
use Rattle.std.specs.Prelude.{Some, None, is_some}
use Rattle.rbac_sets.specs.declared.refusal.Refusal.TheVariants.{NoSet}
use Rattle.admin_mgr.specs.RbacState.{has_set}
use Rattle.admin_mgr.specs.Refusals.{first}
use Rattle.admin_mgr.specs.After.{after}
use Rattle.admin_mgr.specs.Verdict.{verdict, set_cardinality_refusals}
use Rattle.admin_mgr.proofs.Verdicts.VerdictLaws.{passed, refuse_unless-None, stopped, last_decides, none_unless_some}
use Rattle.admin_mgr.proofs.Verdicts.SetCommandViolations.{set_cardinality_violates}
use Rattle.admin_mgr.proofs.Verdicts.KeepLaws.{cardinality_there}
use Rattle.admin_mgr.specs.private.SeparationOfDuty.{sets_of, refusal_of, violates, set_cardinality}
use Rattle.admin_mgr.proofs.StateAfter.SetCommandLaws.{refusals_set_cardinality}
use Rattle.admin_mgr.proofs.judge.separation.judge_set_cardinality.Goals as goal
use Rattle.admin_mgr.proofs.Verdicts.AuthorizationLaws.{is_some_cardinality}

pub returns-in-Some : goal.returns-in-Some
unfolding verdict
returns-in-Some c =
    let front = c.refuse_cardinality.ensures ∙ (λ i. first (set_cardinality_refusals (record { members = c.members.ensures i; cardinalities = c.cardinalities.ensures i }) c.args.set.now c.args.cardinality)) in
    stopped (set_cardinality_refusals (sets_of c.args.duty c.args.state.now.facts) c.args.set.now c.args.cardinality) (violates c.args.duty (after c.args.state.now.facts (set_cardinality c.args.duty c.args.set.now c.args.cardinality))) c.in-Some.refusal (sym front ∙ c.in-Some.is)
    ∙ ap first (sym (refusals_set_cardinality c.args.duty c.args.state.now.facts c.args.set.now c.args.cardinality))

pub unwrap-before-requires : goal.unwrap-before-requires
unwrap-before-requires c =
    let front = c.refuse_cardinality.ensures ∙ (λ i. first (set_cardinality_refusals (record { members = c.members.ensures i; cardinalities = c.cardinalities.ensures i }) c.args.set.now c.args.cardinality)) in
    let all = passed (set_cardinality_refusals (sets_of c.args.duty c.args.state.now.facts) c.args.set.now c.args.cardinality) (sym front ∙ none_unless_some _ c.in_default.not-Some) in
    ap is_some c.cardinality.ensures ∙ is_some_cardinality (sets_of c.args.duty c.args.state.now.facts) c.args.set.now ∙ refuse_unless-None (has_set (sets_of c.args.duty c.args.state.now.facts) c.args.set.now) NoSet all.0

pub keeps_set-requires : goal.keeps_set-requires
keeps_set-requires c = record { there = cardinality_there (sets_of c.args.duty c.args.state.now.facts) c.args.set.now c.unwrap-before.result (sym c.cardinality.ensures ∙ c.unwrap-before.ensures) }

pub returns : goal.returns
unfolding verdict
returns c =
    let front = c.refuse_cardinality.ensures ∙ (λ i. first (set_cardinality_refusals (record { members = c.members.ensures i; cardinalities = c.cardinalities.ensures i }) c.args.set.now c.args.cardinality)) in
    c.in_ok-violated.ensures
    ∙ ap (λ b. cond b None (Some (refusal_of c.args.duty c.args.set.now))) c.in-Ok.ensures.ok
    ∙ sym (set_cardinality_violates c.args.duty c.args.state.now.facts c.recall_good.ensures c.args.set.now c.args.cardinality)
    ∙ sym (last_decides (set_cardinality_refusals (sets_of c.args.duty c.args.state.now.facts) c.args.set.now c.args.cardinality) (violates c.args.duty (after c.args.state.now.facts (set_cardinality c.args.duty c.args.set.now c.args.cardinality))) (sym front ∙ none_unless_some _ c.in_default.not-Some))
    ∙ ap first (sym (refusals_set_cardinality c.args.duty c.args.state.now.facts c.args.set.now c.args.cardinality))
