use Rattle.std.proofs.Common.{cond, sym, ◌∙◌, ap}
use Rattle.std.specs.Prelude.{Some, None, is_some}
use Rattle.rbac_sets.specs.declared.refusal.Refusal.TheVariants.{NoSet}
use Rattle.admin_mgr.specs.RbacState.{has_set}
use Rattle.admin_mgr.specs.Refusals.{first}
use Rattle.admin_mgr.specs.After.{after}
use Rattle.admin_mgr.specs.Verdict.{verdict, add_member_refusals}
use Rattle.admin_mgr.proofs.Verdicts.VerdictLaws.{passed, refuse_unless-None, stopped, last_decides, none_unless_some}
use Rattle.admin_mgr.proofs.Verdicts.SetCommandViolations.{add_member_violates}
use Rattle.admin_mgr.proofs.Verdicts.KeepLaws.{cardinality_there}
use Rattle.admin_mgr.specs.private.SeparationOfDuty.{sets_of, refusal_of, violates, add_member}
use Rattle.admin_mgr.proofs.StateAfter.SetCommandLaws.{refusals_add_member}
use Rattle.admin_mgr.proofs.judge.separation.judge_add_member.Goals as goal
use Rattle.admin_mgr.proofs.Verdicts.AuthorizationLaws.{is_some_cardinality}

pub returns-in-Some : goal.returns-in-Some
unfolding verdict
returns-in-Some c =
    let front = c.refuse_member.ensures ∙ (λ i. first (add_member_refusals c.args.state.now.facts (record { members = c.members.ensures i; cardinalities = c.cardinalities.ensures i }) c.args.set.now c.args.role.now)) in
    stopped (add_member_refusals c.args.state.now.facts (sets_of c.args.duty c.args.state.now.facts) c.args.set.now c.args.role.now) (violates c.args.duty (after c.args.state.now.facts (add_member c.args.duty c.args.set.now c.args.role.now))) c.in-Some.refusal (sym front ∙ c.in-Some.is)
    ∙ ap first (sym (refusals_add_member c.args.duty c.args.state.now.facts c.args.set.now c.args.role.now))

pub unwrap-cardinality-requires : goal.unwrap-cardinality-requires
unwrap-cardinality-requires c =
    let front = c.refuse_member.ensures ∙ (λ i. first (add_member_refusals c.args.state.now.facts (record { members = c.members.ensures i; cardinalities = c.cardinalities.ensures i }) c.args.set.now c.args.role.now)) in
    let all = passed (add_member_refusals c.args.state.now.facts (sets_of c.args.duty c.args.state.now.facts) c.args.set.now c.args.role.now) (sym front ∙ none_unless_some _ c.in_default.not-Some) in
    ap is_some c.cardinality.ensures ∙ is_some_cardinality (sets_of c.args.duty c.args.state.now.facts) c.args.set.now ∙ refuse_unless-None (has_set (sets_of c.args.duty c.args.state.now.facts) c.args.set.now) NoSet all.0

pub keeps_with-requires-clause-there : goal.keeps_with-requires-clause-there
keeps_with-requires-clause-there c = cardinality_there (sets_of c.args.duty c.args.state.now.facts) c.args.set.now c.unwrap-cardinality.result (sym c.cardinality.ensures ∙ c.unwrap-cardinality.ensures)

pub returns : goal.returns
unfolding verdict
returns c =
    let front = c.refuse_member.ensures ∙ (λ i. first (add_member_refusals c.args.state.now.facts (record { members = c.members.ensures i; cardinalities = c.cardinalities.ensures i }) c.args.set.now c.args.role.now)) in
    let there = cardinality_there (sets_of c.args.duty c.args.state.now.facts) c.args.set.now c.unwrap-cardinality.result (sym c.cardinality.ensures ∙ c.unwrap-cardinality.ensures) in
    c.in_ok-violated.ensures
    ∙ ap (λ b. cond b None (Some (refusal_of c.args.duty c.args.set.now))) c.in-Ok.ensures.ok
    ∙ sym (add_member_violates c.args.duty c.args.state.now.facts c.recall_good.ensures c.args.set.now c.args.role.now c.unwrap-cardinality.result there)
    ∙ sym (last_decides (add_member_refusals c.args.state.now.facts (sets_of c.args.duty c.args.state.now.facts) c.args.set.now c.args.role.now) (violates c.args.duty (after c.args.state.now.facts (add_member c.args.duty c.args.set.now c.args.role.now))) (sym front ∙ none_unless_some _ c.in_default.not-Some))
    ∙ ap first (sym (refusals_add_member c.args.duty c.args.state.now.facts c.args.set.now c.args.role.now))
